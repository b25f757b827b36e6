-- Kept: the check finds none of these alone (scripts/answers tries each).
use Rattle.gradients.specs.Tv.{bump}
use Rattle.gradients.proofs.grid.ChannelPixel.bump.Goals as goal

pub returns : goal.returns
unfolding bump
returns c = rw (← c.before.before.px-k.ensures.0, ← c.mul_add.ensures.is)
