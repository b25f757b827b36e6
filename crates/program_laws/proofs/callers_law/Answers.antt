-- `program_laws::callers_law` meets its contract.
use Rattle.program.proofs.Callers.{both_shown}
use Rattle.program_laws.proofs.callers_law.Goals as goal

pub returns : goal.returns
returns c = both_shown
