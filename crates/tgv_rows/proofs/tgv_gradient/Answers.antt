-- Kept: the check finds none of these alone (scripts/answers tries each).
use native.Mathlib.Omega.{arith}
use Rattle.fold.specs.Fold.{upto}
use Rattle.fold.proofs.Loops.{upto-call, upto-end}
use Rattle.gradients.specs.Tgv.{tgv_gradient, tgv_total}
use borrow.Author.Rules.{rules}
use Rattle.tgv_rows.proofs.tgv_gradient.Goals as goal

pub loop-y-init : goal.loop-y-init
unfolding upto
loop-y-init c = search rules

pub loop-y-preserved : goal.loop-y-preserved
loop-y-preserved c =
    let inv = c.loop-y.invariant in
    let row = c.row-tv2.ensures in
    (search rules, search rules, search rules, search rules, search rules, search rules, search rules, upto-call _ _ _ inv.7 row.0, upto-call _ _ _ inv.8 row.1)

pub returns : goal.returns
unfolding tgv_gradient tgv_total
returns c =
    let inv = c.loop-y.invariant in
    let part = c.alpha_of-part.ensures in
    (rw (← part) (upto-end _ _ _ _ inv.7 (omega arith)), rw (← part) (upto-end _ _ _ _ inv.8 (omega arith)))
