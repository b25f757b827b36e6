-- A block by lanes: what each pass of the transforms by `f` leaves, of a block written out by its 64 values.
use mathlib.Core.Path.{◌≡◌, refl, ap, ◌∙◌, subst, sym}
use mathlib.Core.List.{List}
use lib.Ieee.{Float, nan}
use lib.ListN.{length}
use lib.Lanes.{pick_l}
use Rattle.std.specs.List.{range_with_len}
use Rattle.std.proofs.lemmas.Simd.{pick_l_whole}
use Rattle.fold.specs.Fold.{upto}
use Rattle.utils.specs.Dct.{columns_rows, on_column, on_line, on_row}
use Rattle.utils.specs.Lanes.{each_lane, joined, rows, transposed}

-- the 64 values of s, one by one
abbrev pub written_out : List Float → List Float
written_out s = pick_l nan s (range_with_len 0 64)

pub whole : (s : List Float) → length s ≡ 64 → written_out s ≡ s
whole s h = pick_l_whole nan s 64 h

module _ (f : List Float → List Float) where
  columns_out : (s : List Float) → joined (each_lane f (rows (written_out s))) ≡ upto (on_column f) 8 (written_out s)
  unfolding upto on_line
  columns_out s = refl

  rows_out : (s : List Float) → joined (transposed (each_lane f (transposed (rows (written_out s))))) ≡ upto (on_row f) 8 (written_out s)
  unfolding upto on_line
  rows_out s = refl

  pub passes : (s : List Float) → length s ≡ 64
      → joined (transposed (each_lane f (transposed (each_lane f (rows s))))) ≡ columns_rows f s
  passes s h =
      let m = each_lane f (rows s) in
      let u = upto (on_column f) 8 s in
      let first : joined m ≡ u =
      subst (λ (r : List Float). joined (each_lane f (rows r)) ≡ upto (on_column f) 8 r) (whole s h) (columns_out s) in
      let block : m ≡ rows u = ap rows first in
      let long : length u ≡ 64 = ap length (sym first) in
      let second : joined (transposed (each_lane f (transposed (rows u)))) ≡ upto (on_row f) 8 u =
      subst (λ (r : List Float). joined (transposed (each_lane f (transposed (rows r)))) ≡ upto (on_row f) 8 r) (whole u long) (rows_out u) in
      ap (λ (r : List (List Float)). joined (transposed (each_lane f (transposed r)))) block ∙ second
