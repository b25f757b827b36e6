-- Kept: the check finds none of these alone (scripts/answers tries each).
use borrow.Author.Rules.{rules}
use native.Mathlib.Omega.{arith}
use mathlib.Core.Path.{◌∙◌}
use Rattle.fold.proofs.Loops.{upto_step, upto-end}
use Rattle.utils.proofs.Opened.{upsample_is}
use Rattle.utils.proofs.Upsampled.{upsampled_at, upsampled_past}
use Rattle.utils.proofs.auxiliary.upsample_pixels.Goals as goal

pub loop-x-preserved : goal.loop-x-preserved
loop-x-preserved c =
    let m = c.before.before in
    (search rules, search rules, rw (m.min-cy.ensures, c.before.min-cx.ensures) (upto_step _ _ _ m.before.before.loop-x.invariant.2))

pub returns-clause-sampled : goal.returns-clause-sampled
returns-clause-sampled c y x below within =
    rw (upto-end _ _ c.args.maxh _ c.loop-y.invariant.2 (omega arith) ∙ upsample_is _ _ _ _ _ _ _ _)
    (upsampled_at _ _ _ _ _ _ _ c.args.out.now c.requires.5 y x below within)

pub returns-clause-rest : goal.returns-clause-rest
returns-clause-rest c p past =
    rw (upto-end _ _ c.args.maxh _ c.loop-y.invariant.2 (omega arith) ∙ upsample_is _ _ _ _ _ _ _ _)
    (upsampled_past _ _ _ _ _ _ _ c.args.out.now p past)
