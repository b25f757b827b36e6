-- Kept: the check finds none of these alone (scripts/answers tries each).
use Rattle.gradients.specs.Blend.{blended, totals}
use Rattle.gradients.proofs.blend.Goals as goal

pub returns : goal.returns
unfolding blended totals
returns c =
    let first = c.tv_gradient-tv.ensures in
    let second = c.tgv_gradient-tgv.ensures in
    (rw (← first.0, ← second.0), rw (← first.0, ← first.1, ← second.1))
