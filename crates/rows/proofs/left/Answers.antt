-- Kept: the check finds none of these alone (scripts/answers tries each).
use Rattle.std.proofs.Common.{◌+◌, ◌-◌, ◌∙◌, rules}
use Rattle.rows.proofs.Lent.{from_second, put_whole}
use Rattle.rows.proofs.RowLaws.{left_is}
use Rattle.rows.proofs.left.Goals as goal

pub returns : goal.returns
returns c = let a = c.args in let r = c.row_at-at.result in let f = c.row_at-at.ensures.1 in put_whole a.alpha a.norm.now a.q.now _ _ a.gradient.now _ 1 (r) (r + (a.g.w - 1)) (a.g.w - 1) (search rules) (search rules) (search rules) c.put.ensures (λ j l. from_second _ a.g.w j (search rules) (search rules) l) (λ j l. from_second _ a.g.w j (search rules) (search rules) l) ∙ left_is a.g.w a.g.h a.alpha a.norm.now a.q.now a.y a.c _ a.gradient.now (search rules) c.row_at-at.ensures.0
