-- `contents::weights_law` meets its contract.
use Rattle.contents.proofs.ValueLaws.{legal_plain}
use Rattle.contents.proofs.weights_law.Goals as goal

pub returns : goal.returns
returns c = legal_plain
