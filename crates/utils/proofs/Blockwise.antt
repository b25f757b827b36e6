-- A transform done to each of the first n blocks: what each block holds then.
use mathlib.Core.Path.{◌≡◌, refl, ap, ◌∙◌, sym, subst}
use mathlib.Core.Logic.{⊎_elim}
use mathlib.Core.List.{List}
use Prim.Native.Nat.{ℕ, zero, suc, ◌+◌, ◌-◌, ◌*◌, ◌<◌, ◌≤◌}
use native.Mathlib.Nat.{eq-or-lt_of_le, le_of_suc-le-suc, le_refl, not-suc-le-zero}
use native.Mathlib.Omega.{arith}
use lib.ListN.{length}
use lib.Ieee.{Float, nan}
use Rattle.fold.specs.Fold.{upto}
use Rattle.fold.proofs.Parts.{part_after, part_before, part_length, part_splice}
use Rattle.utils.specs.Blocks.{block_of, on_block}
use Rattle.utils.proofs.Lengths.{blocks_length}

module _ (f : List Float → List Float) (keeps : (s : List Float) → length (f s) ≡ length s) (xs : List Float) where
  abbrev first : ℕ → List Float
  first n = upto (on_block f) n xs

  -- the new values of block n are as many as the old
  new_length : (n : ℕ) → suc n * 64 ≤ length xs → length (f (block_of (first n) n)) ≡ n * 64 + 64 - n * 64
  new_length n h = keeps (block_of (first n) n) ∙ part_length (first n) (n * 64) (n * 64 + 64) (omega arith) (omega (arith, blocks_length f keeps n xs))

  -- a block that the loop has not reached is as it was
  pub block_left : (n : ℕ) (k : ℕ) → n ≤ k → k * 64 + 64 ≤ length xs → block_of (first n) k ≡ block_of xs k
  unfolding upto
  block_left zero k h l = refl
  block_left (suc n) k h l =
      let long = blocks_length f keeps n xs in
      part_after nan (first n) (f (block_of (first n) n)) (n * 64) (n * 64 + 64) (k * 64) (k * 64 + 64) (omega arith) (omega arith)
      (new_length n (omega arith)) (omega arith) (omega arith) (omega arith)
      ∙ block_left n k (omega arith) l

  -- a block that it has passed is transformed
  pub block_done : (n : ℕ) → n * 64 ≤ length xs → (k : ℕ) → k < n → block_of (first n) k ≡ f (block_of xs k)
  unfolding upto
  block_done zero h k l = absurd (not-suc-le-zero l)
  block_done (suc n) h k l =
      let long = blocks_length f keeps n xs in
      ⊎_elim
      (λ e. subst (λ (j : ℕ). block_of (first (suc n)) j ≡ f (block_of xs j)) (sym e)
      (part_splice (first n) (n * 64) (n * 64 + 64) (omega arith) (omega arith) (f (block_of (first n) n)) (new_length n h)
      ∙ ap f (block_left n n (le_refl n) (omega arith))))
      (λ m.
      part_before nan (first n) (f (block_of (first n) n)) (n * 64) (n * 64 + 64) (k * 64) (k * 64 + 64) (omega arith) (omega arith)
      (new_length n h) (omega arith) (omega arith)
      ∙ block_done n (omega arith) k m)
      (eq-or-lt_of_le (le_of_suc-le-suc l))
