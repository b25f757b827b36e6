-- Kept: the check finds none of these alone (scripts/answers tries each).
use borrow.Author.Rules.{rules}
use native.Mathlib.Omega.{arith}
use Rattle.fold.proofs.Loops.{upto-call, upto-end}
use Rattle.fold.specs.Fold.{upto}
use Rattle.gradients.specs.Tgv.{tgv_gradient, tgv_total}
use Rattle.gradients.proofs.tgv.tgv_gradient.Goals as goal

pub loop-y-init : goal.loop-y-init
unfolding upto
loop-y-init c = search rules

pub loop-x-init : goal.loop-x-init
unfolding upto
loop-x-init c = search rules

pub loop-x-preserved : goal.loop-x-preserved
loop-x-preserved c =
    let inv = c.before.before.before.before.before.loop-x.invariant in
    let px = c.before.before.tgv_gradient_px-tv2.ensures in
    (search rules, search rules, upto-call _ _ _ inv.2 px.0, upto-call _ _ _ inv.3 px.1)

pub loop-y-preserved : goal.loop-y-preserved
loop-y-preserved c =
    let inv = c.before.before.before.loop-y.invariant in
    let row = c.before.loop-x.invariant in
    (search rules, search rules, upto-call _ _ _ inv.2 (upto-end _ _ _ _ row.2 (omega arith)), upto-call _ _ _ inv.3 (upto-end _ _ _ _ row.3 (omega arith)))

pub returns : goal.returns
unfolding tgv_gradient tgv_total
returns c =
    let inv = c.before.loop-y.invariant in
    let alpha-over-root = c.before.before.alpha_of-alpha_over_root.ensures in
    (rw (← alpha-over-root) (upto-end _ _ _ _ inv.2 (omega arith)), rw (← alpha-over-root) (upto-end _ _ _ _ inv.3 (omega arith)))
