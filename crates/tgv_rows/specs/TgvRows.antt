-- A row of the second-order term: its differences of differences, its norms, and its changes of channel c kind by kind.
use Rattle.std.specs.Prelude.{List, ℕ, ◌+◌, ◌-◌, ◌*◌, Float}
use Rattle.std.specs.Float.Ieee.{neg}
use Rattle.fold.specs.Fold.{upto}
use Rattle.float.specs.Ops.{mul_add, square, root, midpoint}
use Rattle.float.specs.Names.{◌⊕◌, ◌⊗◌, ◌⊘◌, ◌⊞◌, f0, f2, val}
use Rattle.gradients.specs.Tv.{px_idx, difference}
use Rattle.gradients.specs.Tgv.{left_edge, top_edge}
use Rattle.rows.specs.Rows.{own_row, right_row, left_row, below_row, above_row, above_right_row, below_left_row}

-- g_xxs, g_yys and g_xy_syms of row y
abbrev pub xx_of : ℕ → ℕ → List Float → ℕ → ℕ → ℕ → Float
xx_of W H across y c x = difference (left_edge x) across (px_idx W H c y x) (px_idx W H c y (x - 1))

abbrev pub yy_of : ℕ → ℕ → List Float → ℕ → ℕ → ℕ → Float
yy_of W H down y c x = difference (top_edge y) down (px_idx W H c y x) (px_idx W H c (y - 1) x)

abbrev pub xy_of : ℕ → ℕ → List Float → List Float → ℕ → ℕ → ℕ → Float
xy_of W H across down y c x = midpoint (yy_of W H across y c x) (xx_of W H down y c x)

abbrev pub tgv_squares : (ℕ → ℕ → Float) → (ℕ → ℕ → Float) → (ℕ → ℕ → Float) → ℕ → ℕ → Float → Float
tgv_squares X M Y x c t = t ⊕ mul_add (Y c x) (Y c x) (mul_add f2 (square (M c x)) (square (X c x)))

abbrev pub tgv_norms : ℕ → (ℕ → ℕ → Float) → (ℕ → ℕ → Float) → (ℕ → ℕ → Float) → ℕ → Float
tgv_norms n X M Y x = root (upto (tgv_squares X M Y x) n f0)

module _ (W H : ℕ) (alpha : Float) (ns : ℕ → Float) (X M Y : ℕ → ℕ → Float) (y c : ℕ) where
  abbrev pub own_quot : ℕ → Float
  own_quot x = neg (mul_add f2 (Y c x) (mul_add f2 (X c x) (f2 ⊗ M c x))) ⊘ ns x

  abbrev pub side_quot : ℕ → Float
  side_quot x = (M c x ⊕ X c x) ⊘ ns x

  abbrev pub end_quot : ℕ → Float
  end_quot x = (Y c x ⊕ M c x) ⊘ ns x

  abbrev pub corner_quot : ℕ → Float
  corner_quot x = neg (M c x) ⊘ ns x

  -- a pixel's seven changes, in the Rust's order
  abbrev pub tgv_turn : ℕ → List Float → List Float
  tgv_turn x g =
      below_left_row W H alpha ns corner_quot y c x (above_right_row W H alpha ns corner_quot y c x
      (below_row W H alpha ns end_quot y c x (above_row W H alpha ns end_quot y c x
      (right_row W H alpha ns side_quot y c x (left_row W H alpha ns side_quot y c x (own_row W H alpha ns own_quot y c x g))))))

  -- a row's, kind by kind
  abbrev pub tgv_besides : List Float → List Float
  tgv_besides g = upto (left_row W H alpha ns side_quot y c) W (upto (own_row W H alpha ns own_quot y c) W (upto (right_row W H alpha ns side_quot y c) W g))

  abbrev pub tgv_aboves : List Float → List Float
  tgv_aboves g = upto (above_row W H alpha ns end_quot y c) W (upto (above_right_row W H alpha ns corner_quot y c) W g)

  abbrev pub tgv_belows : List Float → List Float
  tgv_belows g = upto (below_left_row W H alpha ns corner_quot y c) W (upto (below_row W H alpha ns end_quot y c) W g)

  abbrev pub tgv_kinds : List Float → List Float
  tgv_kinds g = tgv_belows (tgv_aboves (tgv_besides g))

-- the row's part of the total
abbrev pub tgv_totals : Float → (ℕ → Float) → ℕ → Float → Float
tgv_totals alpha ns x tv2 = tv2 ⊞ (alpha ⊗ ns x)

-- one channel's row after another
abbrev pub row_in : ℕ → List Float → ℕ → ℕ → Float
row_in W xs c x = val xs (c * W + x)
