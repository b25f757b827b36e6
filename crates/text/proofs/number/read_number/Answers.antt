-- Kept: the check finds none of these alone (scripts/answers tries each).
use Rattle.std.proofs.Common.{arith}
use Rattle.std.proofs.lemmas.Bool.Decides.{nat_tests}
use Rattle.text.specs.Numbers.{number_of}
use Rattle.text.proofs.number.read_number.Goals as goal

pub returns-then-is_empty : goal.returns-then-is_empty
unfolding number_of
returns-then-is_empty c = grind (arith, nat_tests)

pub loop-b-init : goal.loop-b-init
unfolding number_of
loop-b-init c = (omega arith, grind (arith, nat_tests))
