use Rattle.unblown.proofs.Unblown.{sheet_never}
use Rattle.unblown.proofs.Text.{contents_never, read_never}
use Rattle.unblown.proofs.mild_sheets_law.Goals as goal

pub returns-clause-runs : goal.returns-clause-runs
returns-clause-runs c = sheet_never

pub returns-clause-contents : goal.returns-clause-contents
returns-clause-contents c = contents_never

pub returns-clause-texts : goal.returns-clause-texts
returns-clause-texts c = read_never
