-- Each definition as its loops, with nothing unrolled: for proofs that go through the loops.
use mathlib.Core.Path.{◌≡◌, refl}
use mathlib.Core.List.{List}
use Prim.Native.Nat.{ℕ}
use lib.Ieee.{Float}
use Rattle.fold.specs.Fold.{upto}
use Rattle.utils.specs.Auxiliary.{upsample_pixels, upsample_row}
use Rattle.utils.specs.Blocks.{from_blocks, move_blocks, move_lines, row_index, row_start, stored, taken, to_blocks}
use Rattle.utils.specs.Dct.{columns_rows, dct8, dct8x8, idct8, idct8x8}
use Rattle.utils.specs.declared.blocks.Order.{Order}
use Rattle.utils.specs.declared.blocks.Order.TheVariants.{Blocks, Raster}

pub idct_is : (s : List Float) → columns_rows idct8 s ≡ idct8x8 s
unfolding idct8x8
idct_is s = refl

pub dct_is : (s : List Float) → columns_rows dct8 s ≡ dct8x8 s
unfolding dct8x8
dct_is s = refl

pub from_is : (w bw bh : ℕ) (input output : List Float) → move_lines (row_index bw) (row_start w) input bw bh output ≡ from_blocks w bw bh input output
unfolding from_blocks
from_is w bw bh input output = refl

pub to_is : (w bw bh : ℕ) (input output : List Float) → move_lines (row_start w) (row_index bw) input bw bh output ≡ to_blocks w bw bh input output
unfolding to_blocks
to_is w bw bh input output = refl

-- where `move_blocks` reads and stores row y of the block (by, bx)
abbrev pub row_from : Order → ℕ → ℕ → ℕ → ℕ → ℕ → ℕ
row_from order w bw by bx y = taken order (row_start w by bx y) (row_index bw by bx y)

abbrev pub row_to : Order → ℕ → ℕ → ℕ → ℕ → ℕ → ℕ
row_to order w bw by bx y = stored order (row_start w by bx y) (row_index bw by bx y)

pub move_is : (order : Order) (w bw bh : ℕ) (input output : List Float)
    → move_lines (row_from order w bw) (row_to order w bw) input bw bh output ≡ move_blocks order w bw bh input output
move_is Blocks w bw bh input output = to_is w bw bh input output
move_is Raster w bw bh input output = from_is w bw bh input output

pub upsample_is : (image : List Float) (w h horizontal vertical W H : ℕ) (out : List Float)
    → upto (upsample_row image w h horizontal vertical W) H out ≡ upsample_pixels image w h horizontal vertical W H out
unfolding upsample_pixels
upsample_is image w h horizontal vertical W H out = refl
