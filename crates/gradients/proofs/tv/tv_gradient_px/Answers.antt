-- Kept: the check finds none of these alone (scripts/answers tries each).
use Rattle.gradients.specs.Tv.{tv_gradient_px, tv_total_px}
use Rattle.gradients.proofs.tv.tv_gradient_px.Goals as goal

pub returns : goal.returns
unfolding tv_gradient_px tv_total_px
returns c =
    let d = c.differences-d.ensures in
    let norm = c.g_norm_of-norm.ensures in
    (rw (← d, ← norm, ← c.derivatives.ensures, ← c.store.ensures.0, ← c.store.ensures.1), rw (← d, ← norm) c.mul_add.ensures.is)
