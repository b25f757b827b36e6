-- Where the f64 sum is a zero, it is the product and sum rounded once to f32. Assumes nothing.
use mathlib.Core.Path.{◌≡◌, refl, sym, ap, ◌∙◌, subst}
use mathlib.Core.Logic.{◌⊎◌, inl, inr}
use mathlib.Core.Bool.{Bool}
use Prim.Native.Nat.{ℕ, zero, suc, ◌-◌, ◌*◌, ◌/◌, ◌^◌, ◌<◌, ◌≤◌}
use native.Mathlib.Nat.{lt_irrefl, lt_of_lt_of_le, zero-mul, mul-one, mul-le-mul_left, mul-le-mul_right, mul-pos}
use native.Mathlib.Omega.{arith}
use lib.IntN.{pos}
use lib.Dec.{T}
use lib.Pow.{pow_pos, pow_mono}
use lib.Ieee.{Float, inf, fin, binary32, binary64, size, odd, units, round, add, mul, fits}
use lib.Ieee.Fits.{round_is}
use lib.Ieee.Exact.{HasValue, units_val}
use lib.Ieee.Nearest.{closest, closest_mono, nearest-ge}
use lib.Ieee.Scale.{finite}
use Rattle.float.specs.Ops.{fused}
use Rattle.float.proofs.Written.{units_over}
use Rattle.float.proofs.Wider.{parts}
use Rattle.wide.proofs.Narrowing.{dropped, kept, round_wide, kept_least}
use Rattle.wide.proofs.Twice.{lt-or-ge}
use Rattle.wide.proofs.Widen.{rounded, finite_add, finite_mul, fused_wide}

-- a zero as every format writes it
abbrev pub zero_of : Bool → Float
zero_of t = fin t 0 (pos 0)

none : (q u : ℕ) → 0 < u → q * u ≡ 0 → q ≡ 0
none zero u h e = refl
none (suc q) u h e = absurd (lt_irrefl 0 (subst (λ (z : ℕ). 0 < z) e (mul-pos (omega arith) h)))

nowhere : (s t : Bool) → inf s ≡ zero_of t → ⊥
nowhere s t e = subst (λ (z : Float). T (finite z)) (sym e) tt

module _ (n d : ℕ) (P : 0 < d) (s t : Bool) (e : round binary64 s n d ≡ zero_of t) where
  is : units binary64 s (kept n d P) (dropped n d P) ≡ zero_of t
  is = sym (round_wide n d P s) ∙ e

  value : HasValue (zero_of t) s (kept n d P * 2 ^ dropped n d P) (2 ^ 1074)
  value = go (lt-or-ge (kept n d P * 2 ^ dropped n d P) (2 ^ 2098))
    where
      go : (kept n d P * 2 ^ dropped n d P < 2 ^ 2098) ⊎ (2 ^ 2098 ≤ kept n d P * 2 ^ dropped n d P) → HasValue (zero_of t) s (kept n d P * 2 ^ dropped n d P) (2 ^ 1074)
      go (inl h) = subst (λ (z : Float). HasValue z s (kept n d P * 2 ^ dropped n d P) (2 ^ 1074)) is (units_val binary64 s (kept n d P) (dropped n d P) h)
      go (inr h) = absurd (nowhere s t (sym (units_over binary64 s (kept n d P) (dropped n d P) h) ∙ is))

  kept_none : kept n d P ≡ 0
  kept_none = none (kept n d P) (2 ^ dropped n d P) (pow_pos (dropped n d P)) (sym (sym (zero-mul (2 ^ 1074)) ∙ value.1 ∙ mul-one (kept n d P * 2 ^ dropped n d P)))

  dropped_none : dropped n d P ≡ 0
  dropped_none = go (lt-or-ge 0 (dropped n d P))
    where
      zero-le : (z : ℕ) → z ≤ 0 → z ≡ 0
      zero-le z h = omega arith

      go : (0 < dropped n d P) ⊎ (dropped n d P ≤ 0) → dropped n d P ≡ 0
      go (inl h) = absurd (lt_irrefl 0 (lt_of_lt_of_le (pow_pos 52) (subst (λ (z : ℕ). 2 ^ 52 ≤ z) kept_none (kept_least n d P h))))
      go (inr h) = zero-le (dropped n d P) h

  wide_none : closest (n * 2 ^ 1074) d ≡ 0
  wide_none = ap (closest (n * 2 ^ 1074)) (sym (mul-one d)) ∙ ap (λ (z : ℕ). closest (n * 2 ^ 1074) (d * 2 ^ z)) (sym dropped_none) ∙ kept_none

  narrow_none : closest (n * 2 ^ 149) d ≡ 0
  narrow_none = least (closest (n * 2 ^ 149) d) (subst (λ (z : ℕ). closest (n * 2 ^ 149) d ≤ z) wide_none (closest_mono (n * 2 ^ 149) d (n * 2 ^ 1074) d P P (mul-le-mul_right d (mul-le-mul_left n (pow_mono few)))))
    where
      few : 149 ≤ 1074
      few = omega arith

      least : (z : ℕ) → z ≤ 0 → z ≡ 0
      least z h = omega arith

  whole_none : n * 2 ^ 149 / d ≡ 0
  whole_none = least (n * 2 ^ 149 / d) (subst (λ (z : ℕ). n * 2 ^ 149 / d ≤ z) narrow_none (nearest-ge (n * 2 ^ 149 / d) _))
    where
      least : (z : ℕ) → z ≤ 0 → z ≡ 0
      least z h = omega arith

  size_none : size (n * 2 ^ 149 / d) - 24 ≡ 0
  unfolding size
  size_none = ap (λ (z : ℕ). size z - 24) whole_none

  units_zero : units binary32 s 0 0 ≡ zero_of s
  unfolding units odd
  units_zero = refl

  -- such a number is a zero in f32 too
  pub zero_narrow : round binary32 s n d ≡ zero_of t
  zero_narrow =
      round_is binary32 s n d
      ∙ ap (λ (z : ℕ). units binary32 s (closest (n * 2 ^ 149) (d * 2 ^ z)) z) size_none
      ∙ ap (λ (z : ℕ). units binary32 s z 0) (ap (closest (n * 2 ^ 149)) (mul-one d) ∙ narrow_none)
      ∙ units_zero
      ∙ ap zero_of (sym value.0)

pub zero_fused : (a b c : Float) (t : Bool) → T (fits binary32 a) → T (fits binary32 b) → T (fits binary32 c) → add binary64 (mul binary64 a b) c ≡ zero_of t → zero_of t ≡ fused a b c
zero_fused a b c t A B C e =
    let f = finite_add binary64 (mul binary64 a b) c (subst (λ (z : Float). T (finite z)) (sym e) tt) in
    let g = finite_mul binary64 a b f.0 in
    let w = rounded (mul binary64 a b) c f.0 f.1 in
    sym (fused_wide a b c (parts a A g.0) (parts b B g.1) (parts c C f.1) ∙ w.is binary32 ∙ zero_narrow w.num w.den w.pos w.s t (sym (w.is binary64) ∙ e))
