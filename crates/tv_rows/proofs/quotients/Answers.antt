-- Kept: the check finds none of these alone (scripts/answers tries each).
use Rattle.std.proofs.Common.{rules}
use Rattle.tv_rows.proofs.quotients.Goals as goal

pub returns : goal.returns
returns c = λ x l. let p = c.combine.ensures x l in search rules
