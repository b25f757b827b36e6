-- A row of the first-order term: its differences, its norms by the kept differences, and its changes of channel c kind by kind.
use Rattle.std.specs.Prelude.{List, ℕ, ◌+◌, Float}
use Rattle.std.specs.Float.{binary64}
use Rattle.std.specs.Float.Ieee.{neg}
use Rattle.fold.specs.Fold.{upto}
use Rattle.float.specs.Ops.{fused_at, square, root}
use Rattle.float.specs.Names.{◌⊕◌, ◌⊘◌, f0, val}
use Rattle.gradients.specs.Tv.{px_idx, right_edge, bottom_edge, difference}
use Rattle.rows.specs.Rows.{own_row, right_row, below_row}

-- the differences of row y of a plane
abbrev pub across_of : ℕ → ℕ → List Float → ℕ → ℕ → ℕ → Float
across_of W H plane y c x = difference (right_edge W x) plane (px_idx W H c y (x + 1)) (px_idx W H c y x)

abbrev pub down_of : ℕ → ℕ → List Float → ℕ → ℕ → ℕ → Float
down_of W H plane y c x = difference (bottom_edge H y) plane (px_idx W H c (y + 1) x) (px_idx W H c y x)

abbrev pub tv_squares : (ℕ → ℕ → Float) → (ℕ → ℕ → Float) → ℕ → ℕ → Float → Float
tv_squares X Y x c t = t ⊕ square (X c x) ⊕ square (Y c x)

abbrev pub tv_norms : ℕ → (ℕ → ℕ → Float) → (ℕ → ℕ → Float) → ℕ → Float
tv_norms n X Y x = root (upto (tv_squares X Y x) n f0)

-- a pixel's three changes of channel c, in the Rust's order
abbrev pub tv_turn : ℕ → ℕ → Float → (ℕ → Float) → (ℕ → ℕ → Float) → (ℕ → ℕ → Float) → ℕ → ℕ → ℕ → List Float → List Float
tv_turn W H alpha ns X Y y c x g =
    below_row W H alpha ns (λ x. Y c x ⊘ ns x) y c x (right_row W H alpha ns (λ x. X c x ⊘ ns x) y c x (own_row W H alpha ns (λ x. neg (X c x ⊕ Y c x) ⊘ ns x) y c x g))

-- a row's, kind by kind
abbrev pub tv_kinds : ℕ → ℕ → Float → (ℕ → Float) → (ℕ → ℕ → Float) → (ℕ → ℕ → Float) → ℕ → ℕ → List Float → List Float
tv_kinds W H alpha ns X Y y c g =
    upto (below_row W H alpha ns (λ x. Y c x ⊘ ns x) y c) W
    (upto (own_row W H alpha ns (λ x. neg (X c x ⊕ Y c x) ⊘ ns x) y c) W (upto (right_row W H alpha ns (λ x. X c x ⊘ ns x) y c) W g))

-- the row's part of the total
abbrev pub tv_totals : Float → (ℕ → Float) → ℕ → Float → Float
tv_totals alpha ns x tv = fused_at binary64 alpha (ns x) tv

-- the differences as kept in row y of each plane
abbrev pub kept_in : ℕ → ℕ → List Float → ℕ → ℕ → ℕ → Float
kept_in W H xs y c x = val xs (px_idx W H c y x)
