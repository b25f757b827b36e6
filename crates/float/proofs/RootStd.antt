-- `root` is what std says of `f32::sqrt`. Assumes nothing.
-- std takes the root of an x above 0 from x * 2 ^ 4542, `root` from x * 2 ^ 214: the one number is 4 ^ 2164 times the other, which has more than 65 digits, and the roots of such numbers round alike.
use Rattle.std.proofs.Common.{◌≡◌, ℕ, zero, suc, ◌*◌, ◌/◌, ◌^◌, ◌<◌, ◌≤◌, Bool, true, false, T, sym, refl, ap, ◌∙◌, le_of_eq, lt_of_lt_of_le, zero-lt-suc, mul_assoc, mul_comm, mul_right_comm, mul-pos, mul-div_cancel, arith, eqb→eq, pow_pos}
use native.Mathlib.Nat.{pow-succ'}
use lib.IntN.{ℤ, pos, negsuc}
use lib.Ieee.{Float, nan, inf, fin, binary32, up, down, size, root_below, root_twice, round, fits, sqrt}
use lib.Ieee.Fits.{up_pos, down_pos}
use lib.Ieee.Positive.{first_pos}
use lib.Ieee.Root.{whole_part}
use Rattle.float.specs.Ops.{halves, root}
use Rattle.float.proofs.Roots.{halves_is, root_digits}
use Rattle.float.proofs.Scaled.{scaled_exact}

-- both take twice the root, and one more where that is not all of it
pub root_twice_is : (n : ℕ) → root_twice n ≡ halves n
unfolding root_twice
root_twice_is n = let w = whole_part n in sym (halves_is n (root_below (size n) n) (record { lo = w.0; hi = w.1 }))

-- a number w of the format's smallest values
module _ (w a d : ℕ) (W : 0 < w) (D : 0 < d) (whole : w * d ≡ a * 2 ^ 149) where
  radicand_is : a * 2 ^ 4542 / d ≡ 2 * w * 4 ^ 32 * 4 ^ 2164
  radicand_is = ap (λ (z : ℕ). z / d) scaled ∙ mul-div_cancel (2 * w * 4 ^ 32 * 4 ^ 2164) D
    where
      shift : (w p : ℕ) → w * (2 ^ 65 * p) ≡ 2 * w * 4 ^ 32 * p
      shift w p = sym (mul_assoc w (2 ^ 65) p) ∙ ap (λ (z : ℕ). z * p) (sym (mul_assoc w 2 (4 ^ 32)) ∙ ap (λ (z : ℕ). z * 4 ^ 32) (mul_comm w 2))

      scaled : a * 2 ^ 4542 ≡ 2 * w * 4 ^ 32 * 4 ^ 2164 * d
      scaled =
          sym (mul_assoc a (2 ^ 149) (2 ^ 4393)) ∙ ap (λ (z : ℕ). z * 2 ^ 4393) (sym whole) ∙ mul_right_comm w d (2 ^ 4393)
          ∙ ap (λ (z : ℕ). z * d) (shift w (4 ^ 2164))

  many : 2 ^ 50 ≤ 2 * w * 4 ^ 32
  many = omega arith

  pub rounds_alike : round binary32 false (root_twice (a * 2 ^ 4542 / d)) (2 ^ 2272) ≡ round binary32 false (halves (2 * w * 4 ^ 32)) (2 * 2 ^ 107)
  rounds_alike =
      ap (λ (z : ℕ). round binary32 false z (2 ^ 2272)) (ap root_twice radicand_is ∙ root_twice_is (2 * w * 4 ^ 32 * 4 ^ 2164))
      ∙ root_digits (2 * w * 4 ^ 32) 2164 108 many

-- a zero of an f32 is written in one way: 2 ^ e is 1 only for e = 0
plain : (e : ℤ) → up e * down e ≡ 1 → e ≡ pos 0
plain (pos zero) h = refl
plain (pos (suc k)) h = absurd (let p : 2 ^ suc k ≡ 2 * 2 ^ k = pow-succ' 2 k in omega arith)
plain (negsuc k) h = absurd (let p : 2 ^ suc k ≡ 2 * 2 ^ k = pow-succ' 2 k in omega arith)

zero_is : (s : Bool) (e : ℤ) → T (fits binary32 (fin s zero e)) → fin s 0 (pos 0) ≡ fin s zero e
unfolding fits
zero_is s e t = ap (fin s zero) (sym (plain e (eqb→eq (up e * down e) 1 t)))

-- so for every value that an f32 can have
pub sqrt_root : (x : Float) → T (fits binary32 x) → sqrt binary32 x ≡ root x
unfolding sqrt root
sqrt_root nan t = refl
sqrt_root (inf false) t = refl
sqrt_root (inf true) t = refl
sqrt_root (fin s zero e) t = zero_is s e t
sqrt_root (fin true (suc m) e) t = refl
sqrt_root (fin false (suc m) e) t =
    let w = suc m * up e * 2 ^ 149 / down e in
    let whole = scaled_exact false (suc m) e t in
    rounds_alike w (suc m * up e) (down e) (first_pos w (down e) (lt_of_lt_of_le (mul-pos (mul-pos (zero-lt-suc m) (up_pos e)) (pow_pos 149)) (le_of_eq (sym whole)))) (down_pos e) whole
