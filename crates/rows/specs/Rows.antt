-- The gradients' changes of one row, each kind as a loop of its own: a quotient q and a norm n for each pixel x of row y.
use Rattle.std.specs.Prelude.{◌≡◌, Bool, true, false, cond, ◌||◌, List, ℕ, ◌+◌, ◌-◌, ◌<◌, set, Float}
use Rattle.std.specs.Float.Ieee.{eq}
use Rattle.float.specs.Ops.{fused}
use Rattle.float.specs.Names.{f0, val}
use Rattle.gradients.specs.Tv.{px_idx, right_edge, bottom_edge}
use Rattle.gradients.specs.Tgv.{left_edge, top_edge}

-- no channel is held
abbrev pub none : ℕ → Bool
none c = false

-- xs starts with v 0, v 1, .., w of them
abbrev pub Row : ℕ → List Float → (ℕ → Float) → Type 0
Row w xs v = (x : ℕ) → x < w → val xs x ≡ v x

-- w norms, each of them 0
abbrev pub Idle : ℕ → List Float → Type 0
Idle w ns = (x : ℕ) → x < w → eq (val ns x) f0 ≡ true

-- xs[at + x] = v x
abbrev pub store_from : ℕ → (ℕ → Float) → ℕ → List Float → List Float
store_from at v x xs = set xs (at + x) (v x)

-- xs[x] = v x, from place 0 on
abbrev pub store_in : (ℕ → Float) → ℕ → List Float → List Float
store_in = store_from 0

-- g[k] = alpha.mul_add(q, g[k]), and nothing at an edge or where the norm n is 0
unfoldable pub hit : Bool → Float → Float → Float → ℕ → List Float → List Float
hit edge alpha n q k g = cond (eq n f0 || edge) g (set g k (fused alpha q (val g k)))

-- each place's own
abbrev pub hit_in : Float → List Float → List Float → ℕ → List Float → List Float
hit_in alpha ns qs x = hit false alpha (val ns x) (val qs x) x

-- the values v 0, v 1, .. kept in row y of channel c
abbrev pub keep_row : ℕ → ℕ → (ℕ → Float) → ℕ → ℕ → ℕ → List Float → List Float
keep_row W H v y c x xs = set xs (px_idx W H c y x) (v x)

-- ---- what the pixels of row y change in channel c
module _ (W H : ℕ) (alpha : Float) (ns qs : ℕ → Float) (y c : ℕ) where
  abbrev pub own_row : ℕ → List Float → List Float
  own_row x = hit false alpha (ns x) (qs x) (px_idx W H c y x)

  abbrev pub right_row : ℕ → List Float → List Float
  right_row x = hit (right_edge W x) alpha (ns x) (qs x) (px_idx W H c y (x + 1))

  abbrev pub left_row : ℕ → List Float → List Float
  left_row x = hit (left_edge x) alpha (ns x) (qs x) (px_idx W H c y (x - 1))

  abbrev pub below_row : ℕ → List Float → List Float
  below_row x = hit (bottom_edge H y) alpha (ns x) (qs x) (px_idx W H c (y + 1) x)

  abbrev pub above_row : ℕ → List Float → List Float
  above_row x = hit (top_edge y) alpha (ns x) (qs x) (px_idx W H c (y - 1) x)

  abbrev pub above_right_row : ℕ → List Float → List Float
  above_right_row x = hit (right_edge W x || top_edge y) alpha (ns x) (qs x) (px_idx W H c (y - 1) (x + 1))

  abbrev pub below_left_row : ℕ → List Float → List Float
  below_left_row x = hit (left_edge x || bottom_edge H y) alpha (ns x) (qs x) (px_idx W H c (y + 1) (x - 1))
