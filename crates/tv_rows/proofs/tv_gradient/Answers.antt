-- Kept: the check finds none of these alone (scripts/answers tries each).
use native.Mathlib.Omega.{arith}
use Rattle.fold.specs.Fold.{upto}
use Rattle.fold.proofs.Loops.{upto-call, upto-end}
use Rattle.gradients.specs.Tv.{tv_alpha, tv_gradient, tv_total}
use Rattle.gradients.specs.Tgv.{tgv_alpha}
use borrow.Author.Rules.{rules}
use Rattle.tv_rows.proofs.tv_gradient.Goals as goal

pub loop-y-init : goal.loop-y-init
unfolding upto
loop-y-init c = search rules

pub loop-y-preserved : goal.loop-y-preserved
loop-y-preserved c =
    let inv = c.loop-y.invariant in
    let row = c.row-tv.ensures in
    (search rules, search rules, search rules, search rules, search rules, search rules, upto-call _ _ _ inv.6 row.0, upto-call _ _ _ inv.7 row.1)

pub returns : goal.returns
unfolding tv_gradient tv_total tv_alpha tgv_alpha
returns c =
    let inv = c.loop-y.invariant in
    let alpha = c.alpha_of-alpha.ensures in
    (rw (← alpha) (upto-end _ _ _ _ inv.6 (omega arith)), rw (← alpha) (upto-end _ _ _ _ inv.7 (omega arith)))
