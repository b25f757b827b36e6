-- A value that f32 holds is a whole number of its smallest values: times 2 ^ 149 it loses nothing. Assumes nothing.
use Rattle.std.proofs.Common.{◌≡◌, ℕ, zero, suc, ◌+◌, ◌-◌, ◌*◌, ◌/◌, ◌^◌, ◌≤◌, Bool, T, ℤ, pos, negsuc, sym, ap, ◌∙◌, mul_assoc, zero-mul, mul-one, not-le_of_lt, div-one, mul-div_cancel, arith, leb→le, pow_pos, pow-add}
use native.Mathlib.Nat.{zero-div}
use native.Mathlib.Decide.{dec_le}
use lib.Pow.{pow-lt}
use lib.Ieee.{fin, binary32, up, down, fits}
use lib.Ieee.Fits.{and_l, and_r}

small_power : (a b : ℕ) → 2 ^ a ≤ 2 ^ b → a ≤ b
small_power a b h = elim (dec_le a b) [ yes p ↦ p | no q ↦ absurd (not-le_of_lt (pow-lt (omega arith)) h) ]

divides : (n a b : ℕ) → a ≤ b → n * 2 ^ b / 2 ^ a * 2 ^ a ≡ n * 2 ^ b
divides n a b h =
    let e : n * 2 ^ b ≡ n * 2 ^ (b - a) * 2 ^ a =
    let sum : b ≡ b - a + a = omega arith in
    ap (λ (k : ℕ). n * 2 ^ k) sum ∙ ap (λ (p : ℕ). n * p) (pow-add 2 (b - a) a) ∙ sym (mul_assoc n (2 ^ (b - a)) (2 ^ a)) in
    ap (λ (x : ℕ). x / 2 ^ a * 2 ^ a) e ∙ ap (λ (x : ℕ). x * 2 ^ a) (mul-div_cancel (n * 2 ^ (b - a)) (pow_pos a)) ∙ sym e

pub scaled_exact : (s : Bool) (m : ℕ) (e : ℤ) → T (fits binary32 (fin s m e)) → m * up e * 2 ^ 149 / down e * down e ≡ m * up e * 2 ^ 149
unfolding fits
scaled_exact s m (pos k) t = mul-one (m * 2 ^ k * 2 ^ 149 / 1) ∙ div-one (m * 2 ^ k * 2 ^ 149)
scaled_exact s zero (negsuc k) t = ap (λ (x : ℕ). x * 2 ^ suc k) (zero-div (2 ^ suc k)) ∙ zero-mul (2 ^ suc k)
scaled_exact s (suc m) (negsuc k) t = divides (suc m * 1) (suc k) 149 (small_power (suc k) 149 (leb→le (2 ^ suc k) (2 ^ 149) (search (and_l, and_r) depth 6)))
