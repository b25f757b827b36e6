-- `smoother::runs::one_by_one_law` meets its contract.
use Rattle.smoother.proofs.OneByOne.{one_by_one_served, mild_calls}
use Rattle.smoother.proofs.runs.one_by_one_law.Goals as goal

pub returns-clause-served : goal.returns-clause-served
returns-clause-served c = one_by_one_served

pub returns-clause-mild : goal.returns-clause-mild
returns-clause-mild c = mild_calls
