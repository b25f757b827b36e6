-- A loop that stores v k at each k: what it leaves.
use mathlib.Core.Path.{◌≡◌, refl, ◌∙◌, sym}
use mathlib.Core.List.{List}
use Prim.Native.Nat.{ℕ, ◌<◌, ◌≤◌}
use native.Mathlib.Nat.{le_refl}
use native.Mathlib.Omega.{arith}
use lib.ListN.{length, get_or, set, length-set}
use lib.Seq.{get_or-set_same, get_or-set_other, ext_get_or}
use Rattle.fold.specs.Fold.{upto}
use Rattle.fold.proofs.Loops.{upto-keeps}
use Rattle.fold.proofs.Local.{local_at}

module _ {A : Type 0} (d : A) (v : ℕ → A) where
  abbrev pub store_at : ℕ → List A → List A
  store_at k l = set l k (v k)

  pub stored_length : (n : ℕ) (t : List A) → length (upto store_at n t) ≡ length t
  stored_length n t = upto-keeps length store_at (λ k a. length-set a k (v k)) n t

  pub stored-at : (t : List A) (n : ℕ) → n ≤ length t → (i : ℕ) → i < n → get_or (upto store_at n t) i d ≡ v i
  stored-at t n h i l =
      local_at (λ (a : List A). length a ≡ length t) (λ a k. get_or a k d) store_at (λ k b. v k) (length t)
      (λ k a o. length-set a k (v k) ∙ o)
      (λ k a o b. get_or-set_same a k (v k) d (omega arith))
      (λ k j a n. get_or-set_other a k j (v k) d n)
      n t refl h i l

  -- the whole list is xs, where v k is what stands at k in xs
  pub stored : (t xs : List A) → length xs ≡ length t → ((i : ℕ) → i < length t → v i ≡ get_or xs i d) → upto store_at (length t) t ≡ xs
  stored t xs h e =
      ext_get_or d (upto store_at (length t) t) xs (stored_length (length t) t ∙ sym h)
      (λ i l. let m : i < length t = omega (arith, stored_length (length t) t) in stored-at t (length t) (le_refl (length t)) i m ∙ e i m)
