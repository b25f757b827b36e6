use Rattle.mild.proofs.Never.{never_blows}
use Rattle.mild.proofs.mild_runs_law.Goals as goal

pub returns : goal.returns
returns c = never_blows
