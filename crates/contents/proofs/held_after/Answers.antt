-- Kept: the check finds none of these alone (scripts/answers tries each).
-- `contents::held_after` meets its contract.
use Rattle.contents.specs.Hold.{hold_at}
use Rattle.contents.proofs.held_after.Goals as goal

pub returns-in-None : goal.returns-in-None
unfolding hold_at
returns-in-None c = rw c.in-None.is c.measured_by.ensures

pub returns-in-Some : goal.returns-in-Some
unfolding hold_at
returns-in-Some c = rw c.in-Some.is (c.of_three.ensures 0)
