use Rattle.gradients.proofs.Apart.{not_read, not_written}
use Rattle.gradients.proofs.held_law.Goals as goal

pub returns-clause-written : goal.returns-clause-written
returns-clause-written c = not_written

pub returns-clause-read : goal.returns-clause-read
returns-clause-read c = not_read
