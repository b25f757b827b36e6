use Rattle.wrong.proofs.Wrong.{without_push, without_data, without_blend, without_move, without_project}
use Rattle.wrong.proofs.skipped_jobs_law.Goals as goal

pub returns-clause-push : goal.returns-clause-push
returns-clause-push c = without_push

pub returns-clause-fidelity : goal.returns-clause-fidelity
returns-clause-fidelity c = without_data

pub returns-clause-blend : goal.returns-clause-blend
returns-clause-blend c = without_blend

pub returns-clause-shift : goal.returns-clause-shift
returns-clause-shift c = without_move

pub returns-clause-project : goal.returns-clause-project
returns-clause-project c = without_project
