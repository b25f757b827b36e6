-- `stitch::joined_law` meets its contract.
use Rattle.stitch.proofs.CallLaws.{joined_text, joined_legal, joined_copied, joined_in_use}
use Rattle.stitch.proofs.joined_law.Goals as goal

pub returns-clause-text : goal.returns-clause-text
returns-clause-text c = joined_text

pub returns-clause-legal : goal.returns-clause-legal
returns-clause-legal c = joined_legal

pub returns-clause-copied : goal.returns-clause-copied
returns-clause-copied c = joined_copied

pub returns-clause-in_use : goal.returns-clause-in_use
returns-clause-in_use c = joined_in_use
