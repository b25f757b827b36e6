-- Kept: the check finds none of these alone (scripts/answers tries each).
use native.Mathlib.Omega.{arith}
use Rattle.gradients.proofs.Places.{Ends, ends}
use Rattle.gradients.proofs.grid.px.Goals as goal
use Rattle.gradients.proofs.grid.px.Lts as lts
use Rattle.gradients.proofs.grid.px.Reads as reads

-- plane c ends within the n planes, and row y within its plane
here : (c : (lts.Start reads.Pre reads.Post)) → let a = c.args in Ends a.g a.c a.y
here c = ends c.args.g _ _ c.requires.0 c.requires.1.0

pub overflow_add-result : goal.overflow_add-result
overflow_add-result c = omega (arith, here c)
