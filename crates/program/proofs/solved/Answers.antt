-- Kept: the check finds none of these alone (scripts/answers tries each).
-- `program::solved` meets its contract: no sheet at the program's limit has more than 3,072 values, or 3,000 blends.
use native.Mathlib.Omega.{arith}
use Rattle.program.proofs.Totals.{blends_most}
use Rattle.program.proofs.solved.Goals as goal

pub slice_bounds-totals-end : goal.slice_bounds-totals-end
slice_bounds-totals-end c = omega (arith, c.blend_count-m.ensures.is, blends_most c.args.s c.requires.0.header)
