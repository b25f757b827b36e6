-- Kept: the check finds none of these alone (scripts/answers tries each).
use Rattle.std.proofs.Common.{rules, tests}
use Rattle.rows.proofs.Lent.{put_is}
use Rattle.rows.proofs.put_each.Goals as goal

pub returns : goal.returns
returns c = let a = c.args in put_is a.alpha a.norm.now a.q.now a.gradient.now _ (search rules) (λ x l. let p = c.combine.ensures x l in search (rules, tests))
