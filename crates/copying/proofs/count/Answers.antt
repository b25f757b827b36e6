-- Kept: the check finds none of these alone (scripts/answers tries each).
-- `copying::count` meets its contract.
use native.Mathlib.Omega.{arith}
use Rattle.std.proofs.lemmas.Grind.{common_steps}
use Rattle.copying.proofs.PartLaws.{count_of-count_by}
use Rattle.copying.proofs.count.Goals as goal

pub returns : goal.returns
returns c = grind (arith, common_steps, count_of-count_by)
