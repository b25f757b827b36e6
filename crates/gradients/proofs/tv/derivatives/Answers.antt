-- Kept: the check finds none of these alone (scripts/answers tries each).
use borrow.Author.Rules.{rules}
use native.Mathlib.Omega.{arith}
use Rattle.fold.proofs.Loops.{upto-call, upto-end}
use Rattle.fold.specs.Fold.{upto}
use Rattle.gradients.specs.Tv.{tv_derivatives}
use Rattle.gradients.proofs.tv.derivatives.Goals as goal

pub loop-c-init : goal.loop-c-init
unfolding upto
loop-c-init c = search rules

-- a held channel's gradient is left
pub loop-c-preserved-then-held-c : goal.loop-c-preserved-then-held-c
loop-c-preserved-then-held-c c = (search rules, search rules, upto-call _ _ _ c.loop-c.invariant.2 (rw c.if-held-c.true))

pub loop-c-preserved : goal.loop-c-preserved
loop-c-preserved c = (search rules, search rules, upto-call _ _ _ c.loop-c.invariant.2 (rw c.if-held-c.false c.channel_derivatives.ensures))

pub returns-after-loop-c : goal.returns-after-loop-c
unfolding tv_derivatives
returns-after-loop-c c = rw c.if-p.true (upto-end _ _ _ _ c.loop-c.invariant.2 (omega arith))

pub returns-else-p : goal.returns-else-p
unfolding tv_derivatives
returns-else-p c = rw c.if-p.false
