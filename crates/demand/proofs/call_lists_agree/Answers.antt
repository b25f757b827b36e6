use Rattle.demand.proofs.Demand3.{demand3}
use Rattle.demand.proofs.Laws.{laws}
use Rattle.demand.proofs.call_lists_agree.Goals as goal

pub returns-clause-plain_run : goal.returns-clause-plain_run
returns-clause-plain_run c = demand3

pub returns-clause-arithmetic : goal.returns-clause-arithmetic
returns-clause-arithmetic c = laws
