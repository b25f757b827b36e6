-- The rows of differences that the code stores, with their edges.
use mathlib.Core.Path.{◌≡◌, ap, ◌∙◌, sym}
use mathlib.Core.Bool.{true, false}
use mathlib.Core.List.{List}
use Prim.Native.Nat.{ℕ, suc, ◌+◌, ◌-◌, ◌<◌}
use native.Mathlib.Omega.{arith}
use borrow.Author.Tests.{le-leb, lt-leb}
use lib.Ieee.{Float}
use Rattle.fold.specs.Fold.{upto}
use Rattle.fold.proofs.Loops.{upto_ext}
use Rattle.float.specs.Names.{◌⊖◌, f0, val}
use Rattle.gradients.specs.Tv.{px_idx, right_edge, bottom_edge}
use Rattle.rows.specs.Rows.{store_from, keep_row}
use Rattle.tv_rows.specs.TvRows.{across_of, down_of}
use Rattle.rows.proofs.Filled.{store_same, diff_on, diff_off}

module _ (W H : ℕ) (xs : List Float) (y c at : ℕ) (t : List Float) where
  pub across_is : 0 < W → at ≡ px_idx W H c y 0
      → upto (store_from (at + (W - 1)) (λ j. f0)) 1 (upto (store_from at (λ j. val xs (at + 1 + j) ⊖ val xs (at + j))) (W - 1) t) ≡ upto (keep_row W H (across_of W H xs y c) y c) W t
  unfolding upto
  across_is h e =
      ap (upto (store_from (at + (W - 1)) (λ j. f0)) 1)
      (upto_ext (store_from at (λ j. val xs (at + 1 + j) ⊖ val xs (at + j))) (keep_row W H (across_of W H xs y c) y c) (W - 1) t
      (λ x s l. store_same s (omega arith) (diff_on (right_edge W x) xs (px_idx W H c y (x + 1)) (px_idx W H c y x) (at + 1 + x) (at + x) (lt-leb (W - 1) x l) (omega arith) (omega arith))))
      ∙ last (W - 1) (omega arith)
    where
      last : (w : ℕ) → W ≡ suc w → upto (store_from (at + w) (λ j. f0)) 1 (upto (keep_row W H (across_of W H xs y c) y c) w t) ≡ upto (keep_row W H (across_of W H xs y c) y c) W t
      last w i =
          store_same (upto (keep_row W H (across_of W H xs y c) y c) w t) (omega arith) (sym (diff_off (right_edge W w) xs (px_idx W H c y (w + 1)) (px_idx W H c y w) (le-leb (W - 1) w (omega arith))))
          ∙ ap (λ (k : ℕ). upto (keep_row W H (across_of W H xs y c) y c) k t) (sym i)

  pub down_none : bottom_edge H y ≡ true → at ≡ px_idx W H c y 0 → upto (store_from at (λ j. f0)) W t ≡ upto (keep_row W H (down_of W H xs y c) y c) W t
  down_none b e =
      upto_ext (store_from at (λ j. f0)) (keep_row W H (down_of W H xs y c) y c) W t
      (λ x s l. store_same s (omega arith) (sym (diff_off (bottom_edge H y) xs (px_idx W H c (y + 1) x) (px_idx W H c y x) b)))

  pub down_is : (below : ℕ) → bottom_edge H y ≡ false → at ≡ px_idx W H c y 0 → below ≡ px_idx W H c (y + 1) 0
      → upto (store_from at (λ j. val xs (below + j) ⊖ val xs (at + j))) W t ≡ upto (keep_row W H (down_of W H xs y c) y c) W t
  down_is below b e i =
      upto_ext (store_from at (λ j. val xs (below + j) ⊖ val xs (at + j))) (keep_row W H (down_of W H xs y c) y c) W t
      (λ x s l. store_same s (omega arith) (diff_on (bottom_edge H y) xs (px_idx W H c (y + 1) x) (px_idx W H c y x) (below + x) (at + x) b (omega arith) (omega arith)))
