-- blocks.rs: block order and raster order, and what is done to one block of block order.
use Rattle.std.specs.Prelude.{◌≡◌, List, ℕ, ◌+◌, ◌*◌, ◌/◌, ◌%◌, ◌<◌, set, Float}
use Rattle.fold.specs.Fold.{upto}
use Rattle.fold.specs.Part.{part, splice}
use Rattle.float.specs.Names.{val}
use Rattle.utils.specs.declared.blocks.Order.{Order}
use Rattle.utils.specs.declared.blocks.Order.TheVariants.{Blocks, Raster}

-- the 64 values of block i, those from 64 times i on
abbrev pub block_of : List Float → ℕ → List Float
block_of xs i = part xs (i * 64) (i * 64 + 64)

-- f done to the 64 values of block i
abbrev pub on_block : (List Float → List Float) → ℕ → List Float → List Float
on_block f i xs = splice xs (i * 64) (i * 64 + 64) (f (block_of xs i))

-- Where row y of the block (by, bx) starts: row_start, in a raster of w values to a row; and index, which has counted 64 values
-- for each block before it, with bw blocks to a line, and 8 for each row.
abbrev pub row_start : ℕ → ℕ → ℕ → ℕ → ℕ
row_start w by bx y = (by * 8 + y) * w + bx * 8

abbrev pub row_index : ℕ → ℕ → ℕ → ℕ → ℕ
row_index bw by bx y = (by * bw + bx) * 64 + y * 8

-- output[to..to + 8].copy_from_slice(&input[from..from + 8]), value by value
abbrev pub copy_at : List Float → ℕ → ℕ → ℕ → List Float → List Float
copy_at input from to k output = set output (to + k) (val input (from + k))

abbrev pub copy8 : List Float → ℕ → ℕ → List Float → List Float
copy8 input from to output = upto (copy_at input from to) 8 output

-- The loops of both functions, over the rows of a block, the blocks of a line, and the lines. `from` and `to` say where a row starts.
module _ (from to : ℕ → ℕ → ℕ → ℕ) (input : List Float) where
  abbrev pub move_row : ℕ → ℕ → ℕ → List Float → List Float
  move_row by bx y output = copy8 input (from by bx y) (to by bx y) output

  abbrev pub move_block : ℕ → ℕ → List Float → List Float
  move_block by bx output = upto (move_row by bx) 8 output

  abbrev pub move_line : ℕ → ℕ → List Float → List Float
  move_line bw by output = upto (move_block by) bw output

  abbrev pub move_lines : ℕ → ℕ → List Float → List Float
  move_lines bw bh output = upto (move_line bw) bh output

-- `from_blocks` and `to_blocks`, for bh lines of bw blocks. The Rust's rounded_px_h is only asserted on, so it is left out.
unfoldable pub from_blocks : ℕ → ℕ → ℕ → List Float → List Float → List Float
unfolding upto
from_blocks w bw bh input output = move_lines (row_index bw) (row_start w) input bw bh output

unfoldable pub to_blocks : ℕ → ℕ → ℕ → List Float → List Float → List Float
unfolding upto
to_blocks w bw bh input output = move_lines (row_start w) (row_index bw) input bw bh output

-- both, by the order that values are brought to
abbrev pub move_blocks : Order → ℕ → ℕ → ℕ → List Float → List Float → List Float
move_blocks Blocks w bw bh input output = to_blocks w bw bh input output
move_blocks Raster w bw bh input output = from_blocks w bw bh input output

-- where a row of a block is read and where it is stored, of its two places: the first in the raster, the second in block order
abbrev pub taken : Order → ℕ → ℕ → ℕ
taken Blocks start index = start
taken Raster start index = index

abbrev pub stored : Order → ℕ → ℕ → ℕ
stored Blocks start index = index
stored Raster start index = start

-- T.81's placement: in bh lines of bw blocks, value 8 y + k of block by × bw + bx stands in column 8 bx + k of row 8 by + y of the raster
abbrev pub IsPlaced : ℕ → ℕ → ℕ → List Float → List Float → Type 0
IsPlaced w bw bh blocks raster =
    (by bx y k : ℕ) → by < bh → bx < bw → y < 8 → k < 8
    → val raster ((by * 8 + y) * w + (bx * 8 + k)) ≡ val blocks ((by * bw + bx) * 64 + (y * 8 + k))

-- The placement as a map of places and its inverse. Place i of block order is row i % 64 / 8 and column i % 8 of block i / 64;
-- place p of the raster is row p / w and column p % w.
abbrev pub raster_place : ℕ → ℕ → ℕ → ℕ
raster_place w bw i = row_start w (i / 64 / bw) (i / 64 % bw) (i % 64 / 8) + i % 8

abbrev pub block_place : ℕ → ℕ → ℕ → ℕ
block_place w bw p = row_index bw (p / w / 8) (p % w / 8) (p / w % 8) + p % w % 8
