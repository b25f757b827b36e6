-- Loops whose turn k changes only what stands at k: after the loop each place has been changed once, from what it held at the start.
-- `view s k` is what stands at k in the state s, of as many buffers as there are; `Ok s` says how long those are.
use mathlib.Core.Path.{◌≡◌, refl, ap, ◌∙◌, sym, subst}
use mathlib.Core.Logic.{⊎_elim, ◌≢◌}
use Prim.Native.Nat.{ℕ, zero, suc, ◌<◌, ◌≤◌}
use native.Mathlib.Nat.{not-suc-le-zero, eq-or-lt_of_le, le_of_suc-le-suc, le_refl, ne_of_lt, ne_of_gt}
use native.Mathlib.Omega.{arith}
use Rattle.fold.specs.Fold.{upto}
use Rattle.fold.proofs.Loops.{upto-ok}

module _ {St Va : Type 0} (Ok : St → Type 0) (view : St → ℕ → Va) (f : ℕ → St → St) (g : ℕ → Va → Va) (m : ℕ)
    (keeps : (k : ℕ) (s : St) → Ok s → Ok (f k s))
    (same : (k : ℕ) (s : St) → Ok s → k < m → view (f k s) k ≡ g k (view s k))
    (other : (k j : ℕ) (s : St) → j ≢ k → view (f k s) j ≡ view s j) where
  -- what the loop has not reached is as it was
  pub local_above : (n : ℕ) (s : St) (j : ℕ) → n ≤ j → view (upto f n s) j ≡ view s j
  unfolding upto
  local_above zero s j h = refl
  local_above (suc n) s j h = other n j (upto f n s) (ne_of_gt h) ∙ local_above n s j (omega arith)

  -- what it has passed is changed
  pub local_at : (n : ℕ) (s : St) → Ok s → n ≤ m → (j : ℕ) → j < n → view (upto f n s) j ≡ g j (view s j)
  unfolding upto
  local_at zero s o b j h = absurd (not-suc-le-zero h)
  local_at (suc n) s o b j h =
      ⊎_elim
      (λ e. subst (λ (i : ℕ). view (f n (upto f n s)) i ≡ g i (view s i)) (sym e)
      (same n (upto f n s) (upto-ok Ok f keeps n s o) b ∙ ap (g n) (local_above n s n (le_refl n))))
      (λ l. other n j (upto f n s) (ne_of_lt l) ∙ local_at n s o (omega arith) j l)
      (eq-or-lt_of_le (le_of_suc-le-suc h))
