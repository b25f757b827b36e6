-- `contents::holds_law` meets its contract.
use Rattle.contents.proofs.HoldLaws.{hold_most}
use Rattle.contents.proofs.holds_law.Goals as goal

pub returns : goal.returns
returns c = hold_most
