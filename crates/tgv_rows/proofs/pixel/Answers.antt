-- Kept: the check finds none of these alone (scripts/answers tries each).
use mathlib.Core.Path.{◌∙◌}
use Rattle.fold.specs.Fold.{upto}
use Rattle.fold.proofs.Loops.{upto-call}
use Rattle.float.specs.Names.{val}
use Rattle.tgv_rows.specs.TgvRows.{row_in}
use Rattle.tgv_rows.proofs.TgvRow.{turn_on, pixel_idle}
use borrow.Author.Rules.{rules}
use Rattle.tgv_rows.proofs.pixel.Goals as goal

pub returns-then-m : goal.returns-then-m
returns-then-m c =
    let a = c.args in
    pixel_idle a.row.now.g.w a.row.now.g.h a.row.now.alpha (λ z. val a.row.now.norm.now z) (row_in a.row.now.g.w a.row.now.xx.now) (row_in a.row.now.g.w a.row.now.xy.now) (row_in a.row.now.g.w a.row.now.yy.now) a.row.now.y (search rules) a.row.now.g.n a.x a.gradient.now c.if-m.true

pub loop-c-init : goal.loop-c-init
unfolding upto
loop-c-init c = search rules

pub loop-c-preserved : goal.loop-c-preserved
loop-c-preserved c =
    let a = c.args in
    let l = c.loop-c in
    (search rules, search rules, upto-call _ _ _ l.invariant.2 (c.channel_derivatives.ensures ∙ turn_on a.row.now.g.w a.row.now.g.h a.row.now.alpha (λ z. val a.row.now.norm.now z) (row_in a.row.now.g.w a.row.now.xx.now) (row_in a.row.now.g.w a.row.now.xy.now) (row_in a.row.now.g.w a.row.now.yy.now) a.row.now.y (search rules) l.c a.x l.gradient c.if-m.false))
