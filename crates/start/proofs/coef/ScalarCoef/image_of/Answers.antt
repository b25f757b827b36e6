-- Kept: the check finds none of these alone (scripts/answers tries each).
use mathlib.Core.Path.{◌≡◌, ◌∙◌, subst, sym}
use Rattle.start.specs.AsCoef.{scalar}
use Rattle.start.specs.Coef.{Placement, image_once}
use Rattle.start.proofs.Once.{images_agree, once_placed}
use Rattle.start.proofs.coef.ScalarCoef.image_of.Goals as goal

pub returns-in-Once-clause-image : goal.returns-in-Once-clause-image
unfolding image_once
returns-in-Once-clause-image c = rw (c.in-Once.is, ← c.transform.ensures) c.reorder.ensures

pub returns-in-Once-clause-placed : goal.returns-in-Once-clause-placed
unfolding image_once
returns-in-Once-clause-placed c once =
    let s = c.args.self.now in
    let image : c.reorder.new.image ≡ image_once (scalar s) = rw (← c.transform.ensures) c.reorder.ensures in
    subst (Placement (scalar s)) (sym image) (once_placed (scalar s) s.eights)

pub returns-in-Once-clause-narrow : goal.returns-in-Once-clause-narrow
unfolding image_once
returns-in-Once-clause-narrow c narrow =
    let s = c.args.self.now in
    let image : c.reorder.new.image ≡ image_once (scalar s) = rw (← c.transform.ensures) c.reorder.ensures in
    subst (Placement (scalar s)) (sym image) (once_placed (scalar s) s.eights)

pub returns-in-Each-clause-narrow : goal.returns-in-Each-clause-narrow
returns-in-Each-clause-narrow c narrow =
    let s = c.args.self.now in
    subst (Placement (scalar s)) (images_agree (scalar s) s.eights narrow ∙ sym c.reorder_each.ensures) (once_placed (scalar s) s.eights)
