-- `text::levels_law` meets its contract.
use Rattle.text.proofs.SpellingLaws.{level_written, level_canonical}
use Rattle.text.proofs.levels_law.Goals as goal

pub returns-clause-read : goal.returns-clause-read
returns-clause-read c = level_written

pub returns-clause-only : goal.returns-clause-only
returns-clause-only c = level_canonical
