-- Kept: the check finds none of these alone (scripts/answers tries each).
-- `copying::place_after` meets its contract.
use Rattle.copying.proofs.PartLaws.{placed}
use Rattle.copying.proofs.place_after.Goals as goal

pub returns-then-left-eq0-clause-before : goal.returns-then-left-eq0-clause-before
returns-then-left-eq0-clause-before c = (placed _ _ _ _ _ c.loop-i.invariant c.if-left-eq0.true).0

pub returns-then-left-eq0-clause-after : goal.returns-then-left-eq0-clause-after
returns-then-left-eq0-clause-after c = (placed _ _ _ _ _ c.loop-i.invariant c.if-left-eq0.true).1
