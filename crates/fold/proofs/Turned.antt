-- A loop whose turn k makes g k of what stands at k: what it leaves.
use mathlib.Core.Path.{◌≡◌, refl, ◌∙◌}
use mathlib.Core.List.{List}
use Prim.Native.Nat.{ℕ, ◌<◌, ◌≤◌}
use native.Mathlib.Omega.{arith}
use lib.ListN.{length, get_or, set, length-set}
use lib.Seq.{get_or-set_same, get_or-set_other}
use Rattle.fold.specs.Fold.{upto}
use Rattle.fold.proofs.Local.{local_above, local_at}

module _ {A : Type 0} (d : A) (g : ℕ → A → A) where
  abbrev pub turn_at : ℕ → List A → List A
  turn_at k s = set s k (g k (get_or s k d))

  other_place : (k j : ℕ) (a : List A) → (j ≡ k → ⊥) → get_or (turn_at k a) j d ≡ get_or a j d
  other_place k j a n = get_or-set_other a k j (g k (get_or a k d)) d n

  pub turned_at : (s : List A) (n : ℕ) → n ≤ length s → (k : ℕ) → k < n → get_or (upto turn_at n s) k d ≡ g k (get_or s k d)
  turned_at s n h k l =
      local_at (λ (a : List A). length a ≡ length s) (λ a k. get_or a k d) turn_at g (length s)
      (λ k a o. length-set a k (g k (get_or a k d)) ∙ o)
      (λ k a o b. get_or-set_same a k (g k (get_or a k d)) d (omega arith))
      other_place n s refl h k l

  pub turned_above : (s : List A) (n k : ℕ) → n ≤ k → get_or (upto turn_at n s) k d ≡ get_or s k d
  turned_above s n k l =
      local_above (λ (a : List A). length a ≡ length s) (λ a k. get_or a k d) turn_at g (length s)
      (λ k a o. length-set a k (g k (get_or a k d)) ∙ o)
      (λ k a o b. get_or-set_same a k (g k (get_or a k d)) d (omega arith))
      other_place n s k l
