-- Kept: the check finds none of these alone (scripts/answers tries each).
use mathlib.Core.Path.{◌∙◌}
use native.Mathlib.Omega.{arith}
use Rattle.fold.specs.Fold.{upto}
use Rattle.fold.proofs.Loops.{upto-call, upto-end}
use Rattle.float.specs.Names.{val}
use Rattle.tgv_rows.specs.TgvRows.{row_in}
use Rattle.tgv_rows.proofs.TgvRow.{by_kinds}
use borrow.Author.Rules.{rules}
use Rattle.tgv_rows.proofs.pixels.Goals as goal

pub loop-x-init : goal.loop-x-init
unfolding upto
loop-x-init c = search rules

pub loop-x-preserved : goal.loop-x-preserved
loop-x-preserved c = (search rules, search rules, upto-call _ _ _ c.loop-x.invariant.2 c.pixel.ensures)

pub returns : goal.returns
returns c =
    let a = c.args in
    upto-end _ _ _ _ c.loop-x.invariant.2 (omega arith)
    ∙ by_kinds a.row.now.g.w a.row.now.g.h a.row.now.alpha (λ x. val a.row.now.norm.now x) (row_in a.row.now.g.w a.row.now.xx.now) (row_in a.row.now.g.w a.row.now.xy.now) (row_in a.row.now.g.w a.row.now.yy.now) a.row.now.y (search rules) a.row.now.g.n a.gradient.now
