-- Kept: the check finds none of these alone (scripts/answers tries each).
use borrow.Author.Rules.{rules}
use native.Mathlib.Omega.{arith}
use Rattle.fold.proofs.Loops.{upto-call, upto-end}
use Rattle.fold.specs.Fold.{upto}
use Rattle.gradients.specs.Tv.{tv_alpha, tv_gradient, tv_total}
use Rattle.gradients.specs.Tgv.{tgv_alpha}
use Rattle.gradients.proofs.tv.tv_gradient.Goals as goal

pub loop-y-init : goal.loop-y-init
unfolding upto
loop-y-init c = search rules

pub loop-x-init : goal.loop-x-init
unfolding upto
loop-x-init c = search rules

pub loop-x-preserved : goal.loop-x-preserved
loop-x-preserved c =
    let inv = c.before.before.before.before.before.before.before.before.before.before.before.loop-x.invariant in
    let px = c.before.before.before.before.before.before.tv_gradient_px-tv.ensures in
    (search rules, search rules, search rules, search rules, upto-call _ _ _ inv.4 px.0, upto-call _ _ _ inv.5 px.1)

pub loop-y-preserved : goal.loop-y-preserved
loop-y-preserved c =
    let inv = c.before.before.before.loop-y.invariant in
    let row = c.before.loop-x.invariant in
    (search rules, search rules, search rules, search rules, upto-call _ _ _ inv.4 (upto-end _ _ _ _ row.4 (omega arith)), upto-call _ _ _ inv.5 (upto-end _ _ _ _ row.5 (omega arith)))

pub returns : goal.returns
unfolding tv_gradient tv_total tv_alpha tgv_alpha
returns c =
    let inv = c.before.loop-y.invariant in
    let alpha = c.before.before.alpha_of-alpha.ensures in
    (rw (← alpha) (upto-end _ _ _ _ inv.4 (omega arith)), rw (← alpha) (upto-end _ _ _ _ inv.5 (omega arith)))
