-- Kept: the check finds none of these alone (scripts/answers tries each).
-- `steps_before`: one channel's count more.
use native.Mathlib.Numerals.{add-one}
use native.Mathlib.Omega.{arith}
use Rattle.std.proofs.Common.{rules}
use Rattle.solve.specs.Solve.{steps_before}
use Rattle.solve.proofs.counts.steps_before.Goals as goal

pub loop-k-init : goal.loop-k-init
unfolding steps_before
loop-k-init c = search rules

pub loop-k-preserved : goal.loop-k-preserved
unfolding steps_before
loop-k-preserved c =
    (omega arith, rw (c.loop-k.invariant.1, c.iterations_at.ensures, add-one c.loop-k.k), omega (arith, c.loop-k.invariant.2))
