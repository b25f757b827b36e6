-- Every colour that is rounded is the nearest whole number, halves upward.
use mathlib.Core.Path.{◌≡◌, refl, sym, subst}
use mathlib.Core.Logic.{◌≢◌}
use mathlib.Core.Bool.{Bool, true, false, cond}
use lib.Dec.{T}
use lib.Ieee.{Float, nan, inf, fin, binary32, lt, of_bits, fits}
use lib.Ieee.Scale.{finite}
use Rattle.float.specs.Names.{f0, f255}
use Rattle.float.specs.Ops.{clamp, at_least}
use Rattle.float.proofs.Fit.{clamp_fits}
use Rattle.picture.specs.NearestUp.{ShadesAreNearest}
use Rattle.picture.proofs.Bytes.{clamped}
use Rattle.picture.proofs.Halves.{nearest_up}

-- what holds of both that are chosen from, of the second only where it is chosen
chosen : (P : Float → Type 0) (b : Bool) (p q : Float) → P p → (b ≡ false → P q) → P (cond b p q)
chosen P true p q h k = h
chosen P false p q h k = k refl

-- a clamped value is not below the lower end
not_below : (x low high : Float) → lt high low ≡ false → lt low low ≡ false → lt (clamp x low high) low ≡ false
unfolding clamp
not_below x low high ordered same =
    chosen (λ (v : Float). lt v low ≡ false) (lt high (at_least x low)) high (at_least x low) ordered
    (λ z. chosen (λ (v : Float). lt v low ≡ false) (lt x low) low x same (λ e. e))

-- and no infinity
is_finite : (x : Float) → x ≢ nan → T (finite (clamp x f0 f255))
unfolding clamp lt of_bits
is_finite nan h = absurd (h refl)
is_finite (inf true) h = tt
is_finite (inf false) h = tt
is_finite (fin s m e) h =
    chosen (λ (v : Float). T (finite v)) (lt f255 (at_least (fin s m e) f0)) f255 (at_least (fin s m e) f0) tt
    (λ z. chosen (λ (v : Float). T (finite v)) (lt (fin s m e) f0) f0 (fin s m e) tt (λ w. tt))

ends_fit : T (fits binary32 f0) × T (fits binary32 f255)
unfolding fits of_bits
ends_fit = (tt, tt)

in_order : (lt f255 f0 ≡ false) × (lt f0 f0 ≡ false)
unfolding lt of_bits
in_order = (refl, refl)

pub shades_are_nearest : ShadesAreNearest
shades_are_nearest x f h =
    nearest_up (clamp x f0 f255) (clamp_fits x f0 f255 (subst T (sym f) tt) ends_fit.0 ends_fit.1) (is_finite x h)
    (not_below x f0 f255 in_order.0 in_order.1) (clamped x)
