-- `program_laws::examples_law` meets its contract.
use Rattle.program.proofs.Examples.{whole_example, empty_text}
use Rattle.program_laws.proofs.examples_law.Goals as goal

pub returns-clause-whole : goal.returns-clause-whole
returns-clause-whole c = whole_example

pub returns-clause-empty : goal.returns-clause-empty
returns-clause-empty c = empty_text
