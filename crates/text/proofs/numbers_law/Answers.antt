-- `text::numbers_law` meets its contract.
use Rattle.text.proofs.DecimalLaws.{number_written, number_canonical}
use Rattle.text.proofs.numbers_law.Goals as goal

pub returns-clause-read : goal.returns-clause-read
returns-clause-read c = number_written

pub returns-clause-only : goal.returns-clause-only
returns-clause-only c = number_canonical
