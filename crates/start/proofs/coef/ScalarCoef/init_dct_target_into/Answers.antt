-- Kept: the check finds none of these alone (scripts/answers tries each).
use borrow.Author.Rules.{rules}
use native.Mathlib.Omega.{arith}
use Rattle.fold.proofs.Loops.{upto-call, upto-end}
use Rattle.fold.specs.Fold.{upto}
use Rattle.start.specs.Coef.{init_dct_target}
use Rattle.start.proofs.coef.ScalarCoef.init_dct_target_into.Goals as goal

pub loop-i-init : goal.loop-i-init
unfolding upto
loop-i-init c = search rules

pub loop-i-preserved : goal.loop-i-preserved
loop-i-preserved c = (search rules, upto-call _ _ _ c.loop-i.invariant.1 c.dequantise.ensures)

pub returns : goal.returns
unfolding init_dct_target
returns c = upto-end _ _ _ _ c.loop-i.invariant.1 (omega arith)
