-- Kept: the check finds none of these alone (scripts/answers tries each).
use Rattle.gradients.specs.Tgv.{tgv_alpha}
use Rattle.gradients.proofs.tgv.alpha_of.Goals as goal

pub returns : goal.returns
unfolding tgv_alpha
returns c = rw c.root_of.ensures
