-- Kept: the check finds none of these alone (scripts/answers tries each).
use Rattle.fold.specs.Fold.{upto}
use Rattle.fold.proofs.Loops.{upto-call}
use Rattle.float.specs.Names.{val}
use Rattle.tgv_rows.specs.TgvRows.{row_in}
use Rattle.tgv_rows.proofs.TgvRow.{kinds_idle}
use borrow.Author.Rules.{rules}
use Rattle.tgv_rows.proofs.spread_rows.Goals as goal

-- each norm is 0
pub returns-then-not-any : goal.returns-then-not-any
returns-then-not-any c =
    let a = c.args in
    kinds_idle a.row.now.g.w a.row.now.g.h a.row.now.alpha (λ x. val a.row.now.norm.now x) (row_in a.row.now.g.w a.row.now.xx.now) (row_in a.row.now.g.w a.row.now.xy.now) (row_in a.row.now.g.w a.row.now.yy.now) a.row.now.y a.row.now.g.n a.gradient.now
    (λ x l. c.any.ensures c.if-not-any.true x (search (rules, l)))

pub loop-c-init : goal.loop-c-init
unfolding upto
loop-c-init c = search rules

pub loop-c-preserved : goal.loop-c-preserved
loop-c-preserved c = (search rules, search rules, search rules, upto-call _ _ _ c.loop-c.invariant.3 c.channel_row.ensures)
