-- Kept: the check finds none of these alone (scripts/answers tries each).
use Rattle.gradients.specs.Tv.{difference}
use Rattle.gradients.proofs.grid.difference.Goals as goal

pub returns-then-edge : goal.returns-then-edge
unfolding difference
returns-then-edge c = rw c.if-edge.true

pub returns : goal.returns
unfolding difference
returns c = rw (c.before.before.before.before.if-edge.false, ← c.before.before.before.px-to.ensures.0, ← c.before.before.px-from.ensures.0)
