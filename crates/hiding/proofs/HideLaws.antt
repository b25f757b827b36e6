-- Levels as a partner gets them, place by place.
use Prim.Native.Nat.{ℕ, zero, suc, ◌+◌, ◌<◌, ◌≤◌}
use mathlib.Core.Path.{◌≡◌, refl, sym, ap, ◌∙◌}
use mathlib.Core.List.{List, [], ◌∷◌, ◌++◌}
use mathlib.Core.Bool.{Bool, true, false, cond}
use native.Mathlib.Omega.{arith}
use native.Mathlib.Numerals.{add-one}
use lib.ListN.{length, get_or, set, take, drop, length-set}
use lib.Seq.{drop-cons}
use lib.IntN.{ℤ, pos}
use Rattle.hiding.specs.Shown.{hidden_by, shown_by}

-- The loop: what is shown up to place i, then what is left to show
pub record Hiding (bits : List Bool) (all now : List ℤ) (i : ℕ) : Type 0 where
  pub long : length now ≡ length all
  pub upto : i ≤ length now
  pub value : take i now ++ shown_by bits i (drop i now) ≡ shown_by bits 0 all

-- place i, cleared or not
module _ (l : List ℤ) (i : ℕ) (k : i < length l) where
  more_taken : (x : Bool) → take (suc i) (cond x (set l i (pos 0)) l) ≡ take i l ++ cond x (pos 0) (get_or l i (pos 0)) ∷ []
  more_taken true = set_taken i l k
    where
      set_taken : (i : ℕ) (l : List ℤ) → i < length l → take (suc i) (set l i (pos 0)) ≡ take i l ++ pos 0 ∷ []
      set_taken i [] h = let y : ⊥ = omega arith in absurd y
      set_taken zero (x ∷ l) h = refl
      set_taken (suc i) (x ∷ l) h = ap (λ (r : List ℤ). x ∷ r) (set_taken i l (omega arith))
  more_taken false = one_taken i l k
    where
      one_taken : (i : ℕ) (l : List ℤ) → i < length l → take (suc i) l ≡ take i l ++ get_or l i (pos 0) ∷ []
      one_taken i [] h = let y : ⊥ = omega arith in absurd y
      one_taken zero (x ∷ l) h = refl
      one_taken (suc i) (x ∷ l) h = ap (λ (r : List ℤ). x ∷ r) (one_taken i l (omega arith))

  same_after : (x : Bool) → drop (suc i) (cond x (set l i (pos 0)) l) ≡ drop (suc i) l
  same_after true = set_dropped i l
    where
      set_dropped : (i : ℕ) (l : List ℤ) → drop (suc i) (set l i (pos 0)) ≡ drop (suc i) l
      set_dropped i [] = refl
      set_dropped zero (x ∷ l) = refl
      set_dropped (suc i) (x ∷ l) = set_dropped i l
  same_after false = refl

  same_length : (x : Bool) → length (cond x (set l i (pos 0)) l) ≡ length l
  same_length true = length-set l i (pos 0)
  same_length false = refl

snoc : (xs : List ℤ) (z : ℤ) (ys : List ℤ) → (xs ++ z ∷ []) ++ ys ≡ xs ++ z ∷ ys
snoc [] z ys = refl
snoc (x ∷ xs) z ys = ap (λ (r : List ℤ). x ∷ r) (snoc xs z ys)

module _ {bits : List Bool} {all now : List ℤ} {i : ℕ} (h : Hiding bits all now i) where
  pub hide_step : i < length now → (x : Bool) → x ≡ hidden_by bits i → Hiding bits all (cond x (set now i (pos 0)) now) (i + 1)
  hide_step k x e =
      let v = cond x (pos 0) (get_or now i (pos 0)) in
      let new : List ℤ = cond x (set now i (pos 0)) now in
      let d : drop i now ≡ get_or now i (pos 0) ∷ drop (suc i) now = drop-cons now i (pos 0) k in
      record {
        long = same_length now i k x ∙ h.long;
        upto = omega (arith, same_length now i k x);
        value =
            rw (add-one i)
            (ap (λ (y : List ℤ). y ++ shown_by bits (suc i) (drop (suc i) new)) (more_taken now i k x)
            ∙ ap (λ (y : List ℤ). (take i now ++ v ∷ []) ++ shown_by bits (suc i) y) (same_after now i k x)
            ∙ snoc (take i now) v (shown_by bits (suc i) (drop (suc i) now))
            ∙ ap (λ (y : Bool). take i now ++ cond y (pos 0) (get_or now i (pos 0)) ∷ shown_by bits (suc i) (drop (suc i) now)) e
            ∙ sym (ap (λ (y : List ℤ). take i now ++ shown_by bits i y) d)
            ∙ h.value);
      }
