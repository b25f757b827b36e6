-- Kept: the check finds none of these alone (scripts/answers tries each).
use Rattle.std.proofs.Common.{arith, rules}
use Rattle.fold.proofs.Loops.{upto-call, upto-end}
use Rattle.fold.specs.Fold.{upto}
use Rattle.float.specs.Names.{◌⊖◌}
use Rattle.projection.specs.Projection.{split, split_at}
use Rattle.projection.proofs.projection.split.Goals as goal

pub loop-cy-init : goal.loop-cy-init
unfolding upto
loop-cy-init c = search rules

pub loop-cx-init : goal.loop-cx-init
unfolding upto
loop-cx-init c = search rules

pub loop-cx-preserved : goal.loop-cx-preserved
unfolding split_at
loop-cx-preserved c =
    let m = c.mean_of-mean in
    (search rules, upto-call _ _ _ c.loop-cx.invariant.1 (rw (← m.ensures, ← c.own_px-k.ensures.0, c.change.ensures (λ x. x ⊖ m.result) (λ x y p. search rules))))

pub loop-cy-preserved : goal.loop-cy-preserved
loop-cy-preserved c = (search rules, upto-call _ _ _ c.loop-cy.invariant.1 (upto-end _ _ _ _ c.loop-cx.invariant.1 (omega arith)))

pub returns : goal.returns
unfolding split
returns c = upto-end _ _ _ _ c.loop-cy.invariant.1 (omega arith)
