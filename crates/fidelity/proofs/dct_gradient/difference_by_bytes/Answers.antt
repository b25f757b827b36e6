use borrow.Author.Rules.{rules}
use mathlib.Core.Path.{◌∙◌}
use native.Mathlib.Omega.{arith}
use Rattle.fold.proofs.Loops.{upto-call, upto-end, upto_nest}
use Rattle.fold.specs.Fold.{upto}
use Rattle.start.specs.AsCoef.{as_coef}
use Rattle.fidelity.specs.DctGradient.{cosb_at}
use Rattle.fidelity.proofs.Cells.{differences}
use Rattle.fidelity.proofs.dct_gradient.difference_by_bytes.Goals as goal

pub loop-y-init : goal.loop-y-init
unfolding upto
loop-y-init c = search rules

pub loop-y-preserved : goal.loop-y-preserved
loop-y-preserved c =
    let s = c.args.coef.now in
    let z = differences s.own s.lows.now s.highs.now s.table.now s.lent c.args.i c.loop-y.y c.requires.block c.loop-y-test.true c.loop-y.cosbs in
    (search rules, upto-call _ _ _ c.loop-y.invariant.1 (c.difference_at.ensures ∙ z))

pub returns : goal.returns
returns c =
    let C = as_coef c.args.coef.now in
    upto-end _ _ 8 _ c.loop-y.invariant.1 (omega arith) ∙ upto_nest (cosb_at C.middle C.table c.args.i) 8 8 c.args.cosbs.now
