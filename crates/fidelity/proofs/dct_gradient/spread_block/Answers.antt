-- Kept: the check finds none of these alone (scripts/answers tries each).
use borrow.Author.Rules.{rules}
use native.Mathlib.Omega.{arith}
use Rattle.fold.proofs.Loops.{upto-call, upto-end}
use Rattle.fold.specs.Fold.{upto}
use Rattle.float.specs.Ops.{fused}
use Rattle.fidelity.specs.DctGradient.{spread, spread_block}
use Rattle.fidelity.proofs.dct_gradient.spread_block.Goals as goal

pub loop-y-init : goal.loop-y-init
unfolding upto
loop-y-init c = search rules

pub loop-x-init : goal.loop-x-init
unfolding upto
loop-x-init c = search rules

pub loop-x-preserved : goal.loop-x-preserved
unfolding spread
loop-x-preserved c = (search rules, upto-call _ _ _ c.loop-x.invariant.1 (c.change.ensures (fused c.args.alpha _) (λ x y p. search rules)))

pub loop-y-preserved : goal.loop-y-preserved
loop-y-preserved c = (search rules, upto-call _ _ _ c.loop-y.invariant.1 (upto-end _ _ _ _ c.loop-x.invariant.1 (omega arith)))

pub returns : goal.returns
unfolding spread_block
returns c = upto-end _ _ _ _ c.loop-y.invariant.1 (omega arith)
