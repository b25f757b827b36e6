-- `text::weights_law` meets its contract.
use Rattle.text.proofs.SpellingLaws.{weight_written, weight_canonical}
use Rattle.text.proofs.weights_law.Goals as goal

pub returns-clause-read : goal.returns-clause-read
returns-clause-read c = weight_written

pub returns-clause-only : goal.returns-clause-only
returns-clause-only c = weight_canonical
