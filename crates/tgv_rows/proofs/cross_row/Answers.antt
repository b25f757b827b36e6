-- Kept: the check finds none of these alone (scripts/answers tries each).
use Rattle.std.proofs.Common.{◌∙◌, rules}
use Rattle.tgv_rows.proofs.Stored.{mid_by}
use Rattle.tgv_rows.proofs.cross_row.Goals as goal

pub returns : goal.returns
returns c = let a = c.args in c.mid_row.ensures ∙ mid_by _ _ a.s.now a.t.now _ _ a.out.now a.g.w _ (search rules) (search rules) (search rules) c.above_row.ensures c.left_row.ensures
