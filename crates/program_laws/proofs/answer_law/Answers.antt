-- `program_laws::answer_law` meets its contract.
use Rattle.program_laws.proofs.Apart.{never_both}
use Rattle.program_laws.proofs.answer_law.Goals as goal

pub returns-clause-never_both : goal.returns-clause-never_both
returns-clause-never_both c = never_both
