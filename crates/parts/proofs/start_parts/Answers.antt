-- Kept: the check finds none of these alone (scripts/answers tries each).
-- `start_parts`: one channel more, and all of them.
use native.Mathlib.Omega.{arith}
use Rattle.calls.specs.Buffers.{Plane, Prior, Gradient, Across, Down, Saved}
use Rattle.std.proofs.Common.{rules}
use Rattle.fold.proofs.Loops.{upto_none, upto-call}
use Rattle.parts.proofs.Started.{six_long, loop_sized}
use Rattle.parts.proofs.start_parts.Goals as goal

pub start-requires : goal.start-requires
start-requires c =
    let s = c.requires.1 in
    let z = loop_sized _ _ (six_long _ _ s.0 s.1 s.2 s.3 s.4 s.5) c.loop-c.c c.loop-c.invariant.0 c.loop-c.invariant.1 in
    (z Plane, z Prior, z Gradient, z Across, z Down, z Saved)

pub loop-c-preserved : goal.loop-c-preserved
loop-c-preserved c = (omega (arith, c.loop-c-test.true), upto-call _ _ _ c.loop-c.invariant.1 c.start.ensures.started, search rules)

pub loop-c-init : goal.loop-c-init
loop-c-init c = (omega arith, upto_none _ _, search rules)
