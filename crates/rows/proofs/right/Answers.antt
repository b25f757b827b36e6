-- Kept: the check finds none of these alone (scripts/answers tries each).
use Rattle.std.proofs.Common.{ℕ, ◌+◌, ◌-◌, ◌∙◌, ap, rules}
use Rattle.rows.proofs.Lent.{from_first, put_whole}
use Rattle.rows.proofs.RowLaws.{right_is}
use Rattle.rows.proofs.right.Goals as goal

pub returns : goal.returns
returns c = let a = c.args in let r = c.row_at-at.result in let f = c.row_at-at.ensures.1 in put_whole a.alpha a.norm.now a.q.now _ _ a.gradient.now _ 0 (r + 1) (r + a.g.w) (a.g.w - 1) (search rules) (search rules) (search rules) c.put.ensures (λ j l. from_first _ _ j l) (λ j l. from_first _ _ j l) ∙ right_is a.g.w a.g.h a.alpha a.norm.now a.q.now a.y a.c _ a.gradient.now (search rules) (ap (λ (z : ℕ). z + 1) c.row_at-at.ensures.0)
