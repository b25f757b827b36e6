-- Kept: the check finds none of these alone (scripts/answers tries each).
use Rattle.gradients.specs.Tgv.{tgv_channel_derivatives}
use Rattle.gradients.proofs.tgv.channel_derivatives.Goals as goal

pub returns : goal.returns
unfolding tgv_channel_derivatives
returns c = rw (← c.beside.ensures, ← c.up_down.ensures) c.corners.ensures
