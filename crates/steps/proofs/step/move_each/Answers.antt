use borrow.Author.Rules.{rules}
use native.Mathlib.Omega.{arith}
use mathlib.Core.Path.{◌∙◌}
use lib.Ieee.{neg}
use Rattle.fold.specs.Fold.{upto}
use Rattle.fold.proofs.Loops.{upto-call, upto-end}
use Rattle.float.specs.Names.{◌⊘◌, val}
use Rattle.float.specs.Ops.{fused}
use Rattle.utils.proofs.Rows.{turned_eight}
use Rattle.steps.proofs.step.move_each.Goals as goal

pub loop-j-init : goal.loop-j-init
unfolding upto
loop-j-init c = search rules

pub loop-j-preserved : goal.loop-j-preserved
loop-j-preserved c = (search rules, upto-call _ _ _ c.loop-j.invariant.1 (search rules))

pub returns : goal.returns
returns c =
    let a = c.args in
    upto-end _ _ 8 _ c.loop-j.invariant.1 (omega arith)
    ∙ turned_eight (λ j x. fused a.step_size (neg (val a.gradient.now j ⊘ a.norm)) x) a.plane.now c.requires.moved
