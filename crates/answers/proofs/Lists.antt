-- A list of n values by their places.
use mathlib.Core.Path.{◌≡◌, refl, sym, ap, ◌∙◌, subst}
use mathlib.Core.List.{List}
use Prim.Native.Nat.{ℕ, zero, suc, ◌<◌}
use native.Mathlib.Nat.{le_of_suc-le-suc, not-suc-le-zero}
use lib.ListN.{length, get_or}
use lib.Seq.{ext_get_or}
use Rattle.fold.specs.Fold.{upto}
use Rattle.fold.proofs.Stores.{store_at, stored}
use Rattle.answers.specs.Lists.{listed}

module _ {A : Type 0} where
  pub listed_length : (f : ℕ → A) (n : ℕ) → length (listed f n) ≡ n
  unfolding listed
  listed_length f zero = refl
  listed_length f (suc n) = ap suc (listed_length (λ k. f (suc k)) n)

  pub listed_at : (d : A) (f : ℕ → A) (n k : ℕ) → k < n → get_or (listed f n) k d ≡ f k
  unfolding listed
  listed_at d f zero k h = absurd (not-suc-le-zero h)
  listed_at d f (suc n) zero h = refl
  listed_at d f (suc n) (suc k) h = listed_at d (λ i. f (suc i)) n k (le_of_suc-le-suc h)

  -- a list of n values is known by them
  pub listed_is : (d : A) (f : ℕ → A) (n : ℕ) (xs : List A) → length xs ≡ n → ((k : ℕ) → k < n → f k ≡ get_or xs k d) → listed f n ≡ xs
  listed_is d f n xs h e =
      ext_get_or d (listed f n) xs (listed_length f n ∙ sym h)
      (λ k l. let m : k < n = subst (λ (i : ℕ). k < i) (listed_length f n) l in listed_at d f n k m ∙ e k m)

  -- what a loop leaves that stores f k at each place k of t
  pub stored_listed : (d : A) (f : ℕ → A) (n : ℕ) (t : List A) {x : List A} → length t ≡ n → x ≡ upto (store_at d f) n t → x ≡ listed f n
  stored_listed d f n t {x} h e =
      e ∙ ap (λ (i : ℕ). upto (store_at d f) i t) (sym h)
      ∙ stored d f t (listed f n) (listed_length f n ∙ sym h) (λ i l. sym (listed_at d f n i (subst (λ (m : ℕ). i < m) h l)))

  -- a list that has f k at each place k of n
  pub listed_of : (d : A) (f : ℕ → A) (n : ℕ) (x : List A) → length x ≡ n → ((k : ℕ) → k < n → get_or x k d ≡ f k) → x ≡ listed f n
  listed_of d f n x e h = sym (listed_is d f n x e (λ k l. sym (h k l)))
