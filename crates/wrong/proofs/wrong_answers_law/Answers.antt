use Rattle.wrong.proofs.Wrong.{none_refused, every_refused, stands_still}
use Rattle.wrong.proofs.wrong_answers_law.Goals as goal

pub returns-clause-none_refused : goal.returns-clause-none_refused
returns-clause-none_refused c = none_refused

pub returns-clause-every_refused : goal.returns-clause-every_refused
returns-clause-every_refused c = every_refused

pub returns-clause-stands_still : goal.returns-clause-stands_still
returns-clause-stands_still c = stands_still
