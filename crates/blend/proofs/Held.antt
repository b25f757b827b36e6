-- Three flags that equal three that are not set, and so none is.
use mathlib.Core.Path.{◌≡◌, refl, ap, sym, subst, ◌∙◌}
use mathlib.Core.Bool.{Bool, true, false, true≢false}
use mathlib.Core.List.{List, [], ◌∷◌}
use Prim.Native.Nat.{ℕ, zero, suc}
use lib.ListN.{get_or}
use lib.Pointwise.{pointwise, pointwise_decides}
use Rattle.std.proofs.Math.Bool.{beq}

same : (x y : Bool) → beq x y ≡ true → x ≡ y
same true true e = refl
same true false e = absurd (true≢false (sym e))
same false true e = absurd (true≢false (sym e))
same false false e = refl

own : (x : Bool) → beq x x ≡ true
own true = refl
own false = refl

abbrev none : List Bool
none = false ∷ false ∷ false ∷ []

none_set : (c : ℕ) → get_or none c false ≡ false
none_set zero = refl
none_set (suc zero) = refl
none_set (suc (suc zero)) = refl
none_set (suc (suc (suc c))) = refl

pub no_flag : (held : List Bool) → true ≡ pointwise beq held (false ∷ false ∷ false ∷ []) → (c : ℕ) → get_or held c false ≡ false
no_flag held e c =
    let equal = (pointwise_decides (λ x y. (same x y, λ i. subst (λ (z : Bool). beq x z ≡ true) i (own x))) held none).0 (sym e) in
    ap (λ (h : List Bool). get_or h c false) equal ∙ none_set c
