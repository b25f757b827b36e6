-- Kept: the check finds none of these alone (scripts/answers tries each).
-- `contents::has_block` meets its contract.
use Rattle.std.proofs.Common.{arith}
use Rattle.std.proofs.lemmas.Bool.Decides.{nat_tests}
use Rattle.contents.specs.Marks.{has_block}
use Rattle.contents.proofs.has_block.Goals as goal

pub returns-then-m-c : goal.returns-then-m-c
unfolding has_block
returns-then-m-c c = grind (arith, nat_tests)

pub returns-else-m-c : goal.returns-else-m-c
unfolding has_block
returns-else-m-c c = grind (arith, nat_tests)
