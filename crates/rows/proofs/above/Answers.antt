-- Kept: the check finds none of these alone (scripts/answers tries each).
use borrow.Author.Tests.{eq-eqb}
use Rattle.rows.proofs.RowLaws.{above_none}
use Rattle.rows.proofs.above.Goals as goal

pub returns-then-y-eq0 : goal.returns-then-y-eq0
returns-then-y-eq0 c = let a = c.args in above_none a.g.w a.g.h a.alpha a.norm.now a.q.now a.y a.c 0 a.gradient.now (eq-eqb a.y 0 c.if-y-eq0.true)
