-- Kept: the check finds none of these alone (scripts/answers tries each).
use mathlib.Core.Path.{◌∙◌}
use Rattle.fold.specs.Fold.{upto}
use Rattle.fold.proofs.Loops.{upto-call}
use Rattle.float.specs.Names.{val}
use Rattle.tv_rows.specs.TvRows.{kept_in}
use Rattle.tv_rows.proofs.KindByKind.{turn_on, pixel_idle}
use borrow.Author.Rules.{rules}
use Rattle.tv_rows.proofs.pixel.Goals as goal

pub returns-then-norm : goal.returns-then-norm
returns-then-norm c =
    let a = c.args in
    pixel_idle a.row.now.g.w a.row.now.g.h a.row.now.alpha (λ z. val a.row.now.norm.now z) (kept_in a.row.now.g.w a.row.now.g.h a.row.now.across.now a.row.now.y) (kept_in a.row.now.g.w a.row.now.g.h a.row.now.down.now a.row.now.y) a.row.now.y (search rules) a.row.now.g.n a.x a.gradient.now
    c.if-norm.true

pub loop-c-init : goal.loop-c-init
unfolding upto
loop-c-init c = search rules

pub loop-c-preserved : goal.loop-c-preserved
loop-c-preserved c =
    let a = c.args in
    let l = c.loop-c in
    let d = rw c.px-k.ensures.0 at c.channel_derivatives.ensures in
    (search rules, search rules, upto-call _ _ _ l.invariant.2 (d ∙ turn_on a.row.now.g.w a.row.now.g.h a.row.now.alpha (λ z. val a.row.now.norm.now z) (kept_in a.row.now.g.w a.row.now.g.h a.row.now.across.now a.row.now.y) (kept_in a.row.now.g.w a.row.now.g.h a.row.now.down.now a.row.now.y) a.row.now.y (search rules) l.c a.x l.gradient c.if-norm.false))
