use borrow.Author.Rules.{rules}
use mathlib.Core.Path.{◌∙◌}
use native.Mathlib.Omega.{arith}
use Rattle.fold.proofs.Loops.{upto-call, upto-end}
use Rattle.fold.specs.Fold.{upto}
use Rattle.fidelity.specs.DctGradient.{spread_block}
use Rattle.fidelity.proofs.Cells.{row_added, row_within}
use Rattle.fidelity.proofs.dct_gradient.add_block.Goals as goal

pub loop-y-init : goal.loop-y-init
unfolding upto
loop-y-init c = search rules

pub returns : goal.returns
unfolding spread_block
returns c = upto-end _ _ _ _ c.loop-y.invariant.1 (omega arith)

pub add_at-requires-clause-room : goal.add_at-requires-clause-room
add_at-requires-clause-room c =
    let s = c.args.coef.now in
    omega (arith, row_within s.own s.w s.h s.covers c.requires.one.0 c.requires.one.1 c.args.by c.args.bx c.loop-y.y c.requires.within.0 c.requires.within.1 c.loop-y-test.true)

pub loop-y-preserved : goal.loop-y-preserved
loop-y-preserved c =
    let s = c.args.coef.now in
    let added = row_added s.own s.w s.h s.covers c.requires.one.0 c.requires.one.1 c.args.by c.args.bx c.loop-y.y c.args.alpha c.args.cosbs.now c.loop-y.gradient (search rules) c.loop-y-test.true in
    (search rules, upto-call _ _ _ c.loop-y.invariant.1 (c.add_at.ensures ∙ added))
