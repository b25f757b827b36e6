use Rattle.wrong.proofs.Wrong.{accepted, all_done}
use Rattle.wrong.proofs.small_sheet_law.Goals as goal

pub returns-clause-accepted : goal.returns-clause-accepted
returns-clause-accepted c = accepted

pub returns-clause-all_done : goal.returns-clause-all_done
returns-clause-all_done c = all_done
