-- The rows of differences of differences that the code stores, with their edges.
use mathlib.Core.Path.{◌≡◌, refl, ap, ap₂, ◌∙◌, sym}
use mathlib.Core.Bool.{true, false}
use mathlib.Core.List.{List}
use Prim.Native.Nat.{ℕ, ◌+◌, ◌-◌, ◌≤◌, ◌<◌}
use native.Mathlib.Omega.{arith}
use borrow.Author.Tests.{ne_eqb}
use lib.ListN.{length, set}
use lib.Ieee.{Float}
use Rattle.fold.specs.Fold.{upto}
use Rattle.fold.proofs.Loops.{upto_ext, upto_add}
use Rattle.float.specs.Ops.{midpoint}
use Rattle.float.specs.Names.{◌⊖◌, f0, val}
use Rattle.gradients.specs.Tv.{px_idx}
use Rattle.gradients.specs.Tgv.{left_edge, top_edge}
use Rattle.rows.specs.Rows.{store_from, store_in}
use Rattle.tgv_rows.specs.TgvRows.{xx_of, yy_of}
use Rattle.rows.proofs.Filled.{store_same, diff_on, diff_off}
use Rattle.rows.proofs.RowLaws.{stored_row}

-- the midpoints of two stored rows
pub mid_by : (v u : ℕ → Float) (s t s' t' o : List Float) (w m : ℕ) → w ≤ length s → w ≤ length t → m ≡ w → s' ≡ upto (store_in v) w s → t' ≡ upto (store_in u) w t
    → upto (store_in (λ x. midpoint (val s' x) (val t' x))) m o ≡ upto (store_in (λ x. midpoint (v x) (u x))) w o
mid_by v u s t s' t' o w m h k i e f =
    ap (λ (z : ℕ). upto (store_in (λ x. midpoint (val s' x) (val t' x))) z o) i
    ∙ upto_ext (store_in (λ x. midpoint (val s' x) (val t' x))) (store_in (λ x. midpoint (v x) (u x))) w o
    (λ x r l. ap (λ (z : Float). set r (0 + x) z) (ap₂ midpoint (ap (λ (i : List Float). val i x) e ∙ stored_row v s w h x l) (ap (λ (i : List Float). val i x) f ∙ stored_row u t w k x l)))

module _ (W H : ℕ) (xs : List Float) (y c at : ℕ) (t : List Float) where
  pub left_row_is : (b : ℕ) → 0 < W → at ≡ px_idx W H c y 0
      → upto (store_from (b + 1) (λ j. val xs (at + 1 + j) ⊖ val xs (at + j))) (W - 1) (upto (store_from b (λ j. f0)) 1 t) ≡ upto (store_from b (xx_of W H xs y c)) W t
  unfolding upto
  left_row_is b h e = go (W - 1) (omega arith)
    where
      go : (w : ℕ) → W ≡ 1 + w → upto (store_from (b + 1) (λ j. val xs (at + 1 + j) ⊖ val xs (at + j))) w (upto (store_from b (λ j. f0)) 1 t) ≡ upto (store_from b (xx_of W H xs y c)) W t
      go w i =
          upto_ext (store_from (b + 1) (λ j. val xs (at + 1 + j) ⊖ val xs (at + j))) (λ j. store_from b (xx_of W H xs y c) (1 + j)) w (upto (store_from b (λ j. f0)) 1 t)
          (λ x s l. store_same s (omega arith) (diff_on (left_edge (1 + x)) xs (px_idx W H c y (1 + x)) (px_idx W H c y (1 + x - 1)) (at + 1 + x) (at + x) (ne_eqb (1 + x) 0 (λ u. omega arith)) (omega arith) (omega arith)))
          ∙ ap (upto (λ j. store_from b (xx_of W H xs y c) (1 + j)) w) (store_same t refl (sym (diff_off (left_edge 0) xs (px_idx W H c y 0) (px_idx W H c y (0 - 1)) refl)))
          ∙ sym (upto_add (store_from b (xx_of W H xs y c)) 1 w t) ∙ ap (λ (k : ℕ). upto (store_from b (xx_of W H xs y c)) k t) (sym i)

  pub above_row_none : (b : ℕ) → top_edge y ≡ true → upto (store_from b (λ j. f0)) W t ≡ upto (store_from b (yy_of W H xs y c)) W t
  above_row_none b i =
      upto_ext (store_from b (λ j. f0)) (store_from b (yy_of W H xs y c)) W t (λ x s l. store_same s refl (sym (diff_off (top_edge y) xs (px_idx W H c y x) (px_idx W H c (y - 1) x) i)))

  pub above_row_is : (above b : ℕ) → top_edge y ≡ false → at ≡ px_idx W H c y 0 → above ≡ px_idx W H c (y - 1) 0
      → upto (store_from b (λ j. val xs (at + j) ⊖ val xs (above + j))) W t ≡ upto (store_from b (yy_of W H xs y c)) W t
  above_row_is above b i e f =
      upto_ext (store_from b (λ j. val xs (at + j) ⊖ val xs (above + j))) (store_from b (yy_of W H xs y c)) W t
      (λ x s l. store_same s refl (diff_on (top_edge y) xs (px_idx W H c y x) (px_idx W H c (y - 1) x) (at + x) (above + x) i (omega arith) (omega arith)))
