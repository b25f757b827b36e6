-- A fold over a row's values as a counted loop.
use Rattle.std.proofs.Common.{◌≡◌, refl, ap, ◌∙◌, sym, ℕ, zero, suc, ◌≤◌, List, length, take, arith, le_refl}
use Rattle.std.specs.List.{fold}
use Rattle.std.proofs.lemmas.List.Sums.{fold_more}
use native.Mathlib.Numerals.{add-one}
use lib.Seq.{take-length}
use lib.Ieee.{Float, nan}
use Rattle.fold.specs.Fold.{upto}
use Rattle.float.specs.Names.{val}

module _ (h : Float → Float → Float) (a : Float) (xs : List Float) where
  folded_to : (k : ℕ) → k ≤ length xs → fold h a (take k xs) ≡ upto (λ k t. h t (val xs k)) k a
  unfolding upto
  folded_to zero l = refl
  folded_to (suc k) l = rw add-one at (fold_more h a xs k nan (omega arith)) ∙ ap (λ (t : Float). h t (val xs k)) (folded_to k (omega arith))

  pub folded : fold h a xs ≡ upto (λ k t. h t (val xs k)) (length xs) a
  folded = ap (fold h a) (sym (take-length xs)) ∙ folded_to (length xs) (le_refl (length xs))
