-- Kept: the check finds none of these alone (scripts/answers tries each).
use Rattle.std.proofs.Common.{◌-◌}
use borrow.Author.Tests.{le-leb}
use Rattle.rows.proofs.RowLaws.{below_left_none}
use Rattle.rows.proofs.below_left.Goals as goal

pub returns-then-y-g : goal.returns-then-y-g
returns-then-y-g c = let a = c.args in below_left_none a.g.w a.g.h a.alpha a.norm.now a.q.now a.y a.c 0 a.gradient.now (le-leb (a.g.h - 1) a.y c.if-y-g.true)
