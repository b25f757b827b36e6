-- A loop that stores v i at the place `to i`, no two turns at one place: what it leaves.
use mathlib.Core.Path.{◌≡◌, refl, ◌∙◌, sym, subst}
use mathlib.Core.Logic.{⊎_elim, ◌≢◌}
use mathlib.Core.List.{List}
use Prim.Native.Nat.{ℕ, zero, suc, ◌<◌}
use native.Mathlib.Nat.{eq-or-lt_of_le, le_of_suc-le-suc, ne_of_lt, not-suc-le-zero}
use native.Mathlib.Omega.{arith}
use lib.ListN.{length, get_or, set, length-set}
use lib.Seq.{get_or-set_same, get_or-set_other}
use Rattle.fold.specs.Fold.{upto}
use Rattle.fold.proofs.Loops.{upto-keeps}

module _ {A : Type 0} (d : A) (v : ℕ → A) (to : ℕ → ℕ) where
  abbrev pub send_at : ℕ → List A → List A
  send_at i l = set l (to i) (v i)

  pub sent_length : (n : ℕ) (l : List A) → length (upto send_at n l) ≡ length l
  sent_length n l = upto-keeps length send_at (λ i a. length-set a (to i) (v i)) n l

  -- a place that no turn stores to is as it was
  pub sent_other : (n : ℕ) (l : List A) (p : ℕ) → ((i : ℕ) → i < n → p ≢ to i) → get_or (upto send_at n l) p d ≡ get_or l p d
  unfolding upto
  sent_other zero l p h = refl
  sent_other (suc n) l p h =
      get_or-set_other (upto send_at n l) (to n) p (v n) d (h n (omega arith)) ∙ sent_other n l p (λ i k. h i (omega arith))

  -- the place of turn i holds v i
  pub sent_at : (n : ℕ) (l : List A) → ((i : ℕ) → i < n → to i < length l) → ((i j : ℕ) → i < n → j < n → to i ≡ to j → i ≡ j)
      → (i : ℕ) → i < n → get_or (upto send_at n l) (to i) d ≡ v i
  unfolding upto
  sent_at zero l h one i k = absurd (not-suc-le-zero k)
  sent_at (suc n) l h one i k =
      ⊎_elim
      (λ e. subst (λ (j : ℕ). get_or (set (upto send_at n l) (to n) (v n)) (to j) d ≡ v j) (sym e)
      (get_or-set_same (upto send_at n l) (to n) (v n) d (omega (arith, sent_length n l, h n (omega arith)))))
      (λ m.
      get_or-set_other (upto send_at n l) (to n) (to i) (v n) d (λ e. ne_of_lt m (one i n k (omega arith) e))
      ∙ sent_at n l (λ j b. h j (omega arith)) (λ a b p q e. one a b (omega arith) (omega arith) e) i m)
      (eq-or-lt_of_le (le_of_suc-le-suc k))
