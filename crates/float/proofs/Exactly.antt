-- Two f32 that are the same fraction are one, and so a number rounds to what its multiple of the smallest value does. Assumes nothing.
use Rattle.std.proofs.Common.{◌≡◌, ℕ, ◌+◌, ◌-◌, ◌*◌, ◌/◌, ◌^◌, ◌<◌, Bool, cond, T, sym, ap, ◌∙◌, subst, le_of_eq, lt_of_le_of_lt, mul-div_cancel, pow_pos}
use lib.Ieee.{Float, nan, inf, fin, binary32, up, down, size, round, fits, to_bits, of_bits}
use lib.Ieee.Fits.{down_pos, round_is, round-fits}
use lib.Ieee.Bits.{of_bits-to_bits}
use lib.Ieee.Exact.{HasValue, units_val, round_exact}
use lib.Ieee.Scale.{grid}
use Rattle.float.specs.Nearest.{Held}
use Rattle.float.proofs.NearestLaws.{grid_held}

bits_of_value : (x : Float) (s : Bool) (a : ℕ) → HasValue x s a (2 ^ 149) → to_bits binary32 x ≡ cond s 2147483648 0 + (size a - 24) * 8388608 + a / 2 ^ (size a - 24)
unfolding to_bits
bits_of_value nan s a v = absurd v
bits_of_value (inf t) s a v = absurd v
bits_of_value (fin t m e) s a v =
    ap (λ (z : Bool). cond z 2147483648 0 + (size (m * up e * 2 ^ 149 / down e) - 24) * 8388608 + m * up e * 2 ^ 149 / down e / 2 ^ (size (m * up e * 2 ^ 149 / down e) - 24)) v.0
    ∙ ap (λ (z : ℕ). cond s 2147483648 0 + (size z - 24) * 8388608 + z / 2 ^ (size z - 24)) (ap (λ (z : ℕ). z / down e) v.1 ∙ mul-div_cancel a (down_pos e))

pub same_value : (x y : Float) (s : Bool) (a : ℕ) → T (fits binary32 x) → T (fits binary32 y) → HasValue x s a (2 ^ 149) → HasValue y s a (2 ^ 149) → x ≡ y
same_value x y s a p q v w = sym (of_bits-to_bits binary32 x p) ∙ ap (of_bits binary32) (bits_of_value x s a v ∙ sym (bits_of_value y s a w)) ∙ of_bits-to_bits binary32 y q

-- ---- what a number rounds to, in the format's smallest values
pub exact_at : (s : Bool) (k : ℕ) → Held binary32 k → k < 2 ^ 277 → HasValue (round binary32 s k (2 ^ 149)) s k (2 ^ 149)
exact_at s k H u = round_exact binary32 s k (2 ^ 149) H.q H.j (pow_pos 149) H.few (lt_of_le_of_lt (le_of_eq (sym H.is)) u) (ap (λ (z : ℕ). z * 2 ^ 149) H.is)

pub value_at : (s : Bool) (n c : ℕ) → grid binary32 n c < 2 ^ 277 → HasValue (round binary32 s n c) s (grid binary32 n c) (2 ^ 149)
value_at s n c h = subst (λ (z : Float). HasValue z s (grid binary32 n c) (2 ^ 149)) (sym (round_is binary32 s n c)) (units_val binary32 s _ _ h)

pub round_grid : (s : Bool) (n c : ℕ) → 0 < c → grid binary32 n c < 2 ^ 277 → round binary32 s n c ≡ round binary32 s (grid binary32 n c) (2 ^ 149)
round_grid s n c C h =
    same_value (round binary32 s n c) (round binary32 s (grid binary32 n c) (2 ^ 149)) s (grid binary32 n c) (round-fits binary32 s n c) (round-fits binary32 s (grid binary32 n c) (2 ^ 149))
    (value_at s n c h) (exact_at s (grid binary32 n c) (grid_held binary32 n c C) h)
