-- Kept: the check finds none of these alone (scripts/answers tries each).
use Rattle.std.proofs.Common.{rules}
use Rattle.float.specs.Ops.{square}
use Rattle.tv_rows.proofs.square_row.Goals as goal

pub returns : goal.returns
unfolding square
returns c = λ x l. let p = c.combine.ensures x l in search rules
