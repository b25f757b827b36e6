use borrow.Author.Rules.{rules}
use native.Mathlib.Omega.{arith}
use Rattle.fold.proofs.Loops.{upto-call, upto-end}
use Rattle.fold.specs.Fold.{upto}
use Rattle.fidelity.proofs.dct_gradient.difference_each.Goals as goal

pub loop-j-init : goal.loop-j-init
unfolding upto
loop-j-init c = search rules

pub loop-j-preserved : goal.loop-j-preserved
loop-j-preserved c = (search rules, upto-call _ _ _ c.loop-j.invariant.1 (search rules))

pub returns : goal.returns
returns c = upto-end _ _ _ _ c.loop-j.invariant.1 (omega arith)
