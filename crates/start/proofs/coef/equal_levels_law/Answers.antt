use Rattle.start.proofs.Equal.{equal_levels}
use Rattle.start.proofs.coef.equal_levels_law.Goals as goal

pub returns : goal.returns
returns c = equal_levels
