-- Kept: the check finds none of these alone (scripts/answers tries each).
use borrow.Author.Rules.{rules}
use native.Mathlib.Omega.{arith}
use Rattle.fold.proofs.Loops.{upto-call, upto-end}
use Rattle.fold.specs.Fold.{upto}
use Rattle.fidelity.specs.DctGradient.{dct_gradient, gradient_block}
use Rattle.fidelity.proofs.dct_gradient.dct_gradient.Goals as goal

pub loop-by-init : goal.loop-by-init
unfolding upto
loop-by-init c = search rules

pub loop-bx-init : goal.loop-bx-init
unfolding upto
loop-bx-init c = search rules

pub loop-bx-preserved : goal.loop-bx-preserved
unfolding gradient_block
loop-bx-preserved c = (search rules, upto-call _ _ _ c.loop-bx.invariant.1 (rw (← c.block_index-i.ensures.0, ← c.cosbs_of-cosbs.ensures) c.place_block.ensures))

pub loop-by-preserved : goal.loop-by-preserved
loop-by-preserved c = (search rules, upto-call _ _ _ c.loop-by.invariant.1 (upto-end _ _ _ _ c.loop-bx.invariant.1 (omega arith)))

pub returns : goal.returns
unfolding dct_gradient
returns c = upto-end _ _ _ _ c.loop-by.invariant.1 (omega arith)
