-- Kept: the check finds none of these alone (scripts/answers tries each).
use borrow.Author.Rules.{rules}
use native.Mathlib.Omega.{arith}
use Rattle.fold.proofs.Loops.{upto-call, upto-end}
use Rattle.fold.specs.Fold.{upto}
use Rattle.gradients.specs.Tv.{tv_differences, tv_differences_at}
use Rattle.gradients.proofs.tv.differences.Goals as goal

pub loop-c-init : goal.loop-c-init
unfolding upto
loop-c-init c = search rules

-- a held channel's are left
pub loop-c-preserved-then-held-c : goal.loop-c-preserved-then-held-c
loop-c-preserved-then-held-c c = (search rules, upto-call _ _ _ c.before.before.loop-c.invariant.1 (rw c.if-held-c.true))

pub loop-c-preserved : goal.loop-c-preserved
unfolding tv_differences_at
loop-c-preserved c = (search rules, upto-call _ _ _ c.before.before.before.before.loop-c.invariant.1 (rw (c.before.before.if-held-c.false, c.before.difference.ensures, c.difference-in-loop-c.ensures)))

pub returns : goal.returns
unfolding tv_differences
returns c = upto-end _ _ _ _ c.before.loop-c.invariant.1 (omega arith)
