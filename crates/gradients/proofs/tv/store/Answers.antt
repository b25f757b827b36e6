-- Kept: the check finds none of these alone (scripts/answers tries each).
use borrow.Author.Rules.{rules}
use native.Mathlib.Omega.{arith}
use Rattle.fold.proofs.Loops.{upto-call, upto-end}
use Rattle.fold.specs.Fold.{upto}
use Rattle.gradients.specs.Tv.{store}
use Rattle.gradients.proofs.tv.store.Goals as goal

pub loop-c-init : goal.loop-c-init
unfolding upto
loop-c-init c = search rules

-- nothing of a held channel is stored
pub loop-c-preserved-then-held-c : goal.loop-c-preserved-then-held-c
loop-c-preserved-then-held-c c = (search rules, search rules, search rules, upto-call _ _ _ c.before.before.loop-c.invariant.3 (rw c.if-held-c.true), upto-call _ _ _ c.before.before.loop-c.invariant.4 (rw c.if-held-c.true))

pub loop-c-preserved : goal.loop-c-preserved
loop-c-preserved c = (search rules, search rules, search rules, upto-call _ _ _ c.before.before.before.loop-c.invariant.3 (rw (c.before.if-held-c.false, c.px-k.ensures.0)), upto-call _ _ _ c.before.before.before.loop-c.invariant.4 (rw (c.before.if-held-c.false, c.px-k.ensures.0)))

pub returns : goal.returns
unfolding store
returns c = (upto-end _ _ _ _ c.before.loop-c.invariant.3 (omega arith), upto-end _ _ _ _ c.before.loop-c.invariant.4 (omega arith))
