-- The byte of a clamped value. Assumes nothing.
use Rattle.std.proofs.Common.{◌≡◌, ℕ, ◌+◌, ◌*◌, ◌/◌, ◌<◌, ◌≤◌, Bool, true, false, cond, T, List, [], ◌∷◌, length, set, pos, sym, refl, true≢false, div-lt_iff_lt-mul, arith, lt→ltb, ltb-false}
use lib.Ieee.{Float, nan, inf, fin, up, down, lt, of_bits, to_unsigned}
use lib.Ieee.Fits.{down_pos}
use Rattle.float.specs.Ops.{clamp, at_least}
use Rattle.float.specs.Names.{f0, f255}

-- ---- a clamped value is at most 255, or NaN
cut : (y : Float) (b : Bool) → lt f255 y ≡ b → lt f255 (cond b f255 y) ≡ false
unfolding of_bits lt
cut y true h = refl
cut y false h = h

pub clamped : (x : Float) → lt f255 (clamp x f0 f255) ≡ false
unfolding clamp
clamped x = cut (at_least x f0) (lt f255 (at_least x f0)) refl

-- ---- the byte of a value above 0: what `std::num::truncating_f32_to_u64` asks, -1 < v < 2 ^ 64, and that its result is a byte
pub below_256 : (a d : ℕ) → 0 < d → a ≤ 255 * d → a / d < 256
below_256 a d p h = (div-lt_iff_lt-mul p).1 (omega arith)

pub in_range : (v : Float) → lt f255 v ≡ false → lt f0 v ≡ true → T (lt (fin true 1 (pos 0)) v) × T (lt v (fin false 1 (pos 64)))
unfolding of_bits lt
in_range nan h g = absurd (true≢false (sym g))
in_range (inf true) h g = absurd (true≢false (sym g))
in_range (inf false) h g = absurd (true≢false h)
in_range (fin true m e) h g = absurd (true≢false (sym g))
in_range (fin false m e) h g =
    let p = down_pos e in
    (lt→ltb 0 (1 * down e + m * up e * 1) (omega arith), lt→ltb (m * up e * 1) (18446744073709551616 * down e) (omega (arith, ltb-false)))

pub whole_part : (v : Float) → lt f255 v ≡ false → to_unsigned 64 v ≡ to_unsigned 8 v
unfolding of_bits lt to_unsigned
whole_part nan h = refl
whole_part (inf true) h = refl
whole_part (inf false) h = absurd (true≢false h)
whole_part (fin true m e) h = refl
whole_part (fin false m e) h =
    let q : m * up e / down e < 256 = below_256 (m * up e) (down e) (down_pos e) (omega (arith, ltb-false)) in
    omega arith

-- ---- the byte of any other
nothing : (d : ℕ) → 0 < d → 0 / d ≡ 0
nothing d p = let l : 0 / d < 1 = (div-lt_iff_lt-mul p).1 (omega arith) in omega arith

pub no_part : (v : Float) → lt f0 v ≡ false → 0 ≡ to_unsigned 8 v
unfolding of_bits lt to_unsigned
no_part nan g = refl
no_part (inf true) g = refl
no_part (inf false) g = absurd (true≢false g)
no_part (fin true m e) g = refl
no_part (fin false m e) g =
    let z : m * up e ≡ 0 = omega (arith, ltb-false) in
    rw (z, nothing (down e) (down_pos e))

-- ---- three bytes stored one by one
pub three : (xs : List ℕ) (a b c : ℕ) → length xs ≡ 3 → set (set (set xs 0 a) 1 b) 2 c ≡ a ∷ b ∷ c ∷ []
three [] a b c h = absurd (omega arith)
three (x ∷ []) a b c h = absurd (omega arith)
three (x ∷ y ∷ []) a b c h = absurd (omega arith)
three (x ∷ y ∷ z ∷ []) a b c h = refl
three (x ∷ y ∷ z ∷ w ∷ ws) a b c h = absurd (omega arith)
