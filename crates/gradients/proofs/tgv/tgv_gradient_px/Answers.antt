-- Kept: the check finds none of these alone (scripts/answers tries each).
use Rattle.gradients.specs.Tgv.{tgv_gradient_px, tgv_total_px}
use Rattle.gradients.proofs.tgv.tgv_gradient_px.Goals as goal

pub returns : goal.returns
unfolding tgv_gradient_px tgv_total_px
returns c =
    let d = c.differences-d.ensures in
    let norm = c.g2_norm_of-norm.ensures in
    (rw (← d, ← norm) c.derivatives.ensures, rw (← d, ← norm) c.add_product.ensures.is)
