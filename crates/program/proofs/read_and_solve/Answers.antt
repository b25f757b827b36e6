-- Kept: the check finds none of these alone (scripts/answers tries each).
-- `program::read_and_solve` meets its contract: no sheet at the program's limit has more than 3,072 levels or 192 quantisers.
use native.Mathlib.Omega.{arith}
use Rattle.program.proofs.Printing.{room_small}
use Rattle.program.proofs.read_and_solve.Goals as goal

pub slice_bounds-lows-end : goal.slice_bounds-lows-end
slice_bounds-lows-end c = let a = c.args in omega (arith, (room_small a.text.now a.lengths.levels a.lengths.tables c.requires.0).0)

pub slice_bounds-tables-end : goal.slice_bounds-tables-end
slice_bounds-tables-end c = let a = c.args in omega (arith, (room_small a.text.now a.lengths.levels a.lengths.tables c.requires.0).1)
