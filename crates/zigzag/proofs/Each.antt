-- A list with a value of its own at each place.
use mathlib.Core.Path.{◌≡◌, refl, ◌∙◌, subst}
use mathlib.Core.Logic.{◌⊎◌, inl, inr}
use mathlib.Core.List.{List, [], ◌∷◌}
use Prim.Native.Nat.{ℕ, suc, ◌+◌, ◌<◌}
use native.Mathlib.Omega.{arith}
use native.Mathlib.Nat.{eq-or-lt_of_le}
use lib.ListN.{length, get_or, set}
use lib.Seq.{get_or-set_same, get_or-set_other}
use Rattle.answers.specs.Lists.{listed}
use Rattle.answers.proofs.Lists.{listed_of}

module _ {A : Type 0} (f : ℕ → A) where
  pub each_is : (xs : List A) → ((k : ℕ) (d : A) → k < length xs → get_or xs k d ≡ f k) → xs ≡ listed f (length xs)
  unfolding listed
  each_is [] h = refl
  each_is (x ∷ xs) h = listed_of x f (length (x ∷ xs)) (x ∷ xs) refl (λ k l. h k x l)

  -- one place more
  pub each_more : (xs : List A) (k : ℕ) (x : A) → k < length xs → x ≡ f k → ((j : ℕ) (d : A) → j < k → get_or xs j d ≡ f j)
      → (j : ℕ) (d : A) → j < k + 1 → get_or (set xs k x) j d ≡ f j
  each_more xs k x long e h j d l = go (eq-or-lt_of_le l)
    where
      go : (suc j ≡ k + 1) ⊎ (suc j < k + 1) → get_or (set xs k x) j d ≡ f j
      go (inl p) = let same : k ≡ j = omega arith in subst (λ (i : ℕ). get_or (set xs k x) i d ≡ f i) same (get_or-set_same xs k x d long ∙ e)
      go (inr p) = get_or-set_other xs k j x d (λ q. omega arith) ∙ h j d (omega arith)
