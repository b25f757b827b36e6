use Rattle.calls.proofs.Runs.{demand3}
use Rattle.calls.proofs.call_lists_law.Goals as goal

pub returns : goal.returns
returns c = demand3
