-- Kept: the check finds none of these alone (scripts/answers tries each).
-- `contents::measured_by` meets its contract.
use Rattle.std.proofs.Common.{arith}
use Rattle.std.proofs.lemmas.Bool.Decides.{nat_tests}
use Rattle.contents.specs.Hold.{measured}
use Rattle.contents.proofs.measured_by.Goals as goal

pub returns-then-h : goal.returns-then-h
unfolding measured
returns-then-h c = grind (arith, nat_tests)

pub returns-else-h-eq3 : goal.returns-else-h-eq3
unfolding measured
returns-else-h-eq3 c = grind (arith, nat_tests)
