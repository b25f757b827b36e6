-- `serve::one_by_one_law` meets its contract.
use Rattle.serve.proofs.Kept.{project_keeps}
use Rattle.serve.proofs.OneByOne.{one_by_one}
use Rattle.serve.proofs.one_by_one_law.Goals as goal

pub returns-clause-served : goal.returns-clause-served
returns-clause-served c = one_by_one

pub returns-clause-kept : goal.returns-clause-kept
returns-clause-kept c = project_keeps
