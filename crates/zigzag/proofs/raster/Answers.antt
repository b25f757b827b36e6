-- Kept: the check finds none of these alone (scripts/answers tries each).
use Prim.Native.Nat.{◌%◌}
use native.Mathlib.Omega.{arith}
use Rattle.zigzag.specs.Zigzag.{sequence, figure}
use Rattle.zigzag.proofs.Places.{inside}
use Rattle.zigzag.proofs.raster.Goals as goal

pub overflow_add-result : goal.overflow_add-result
unfolding sequence figure
overflow_add-result c = let h = inside (c.args.k % 64) (omega arith) in omega arith
