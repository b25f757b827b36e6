-- `grammar::callers_law` meets its contract.
use Rattle.grammar.proofs.PageLaws.{both_callers}
use Rattle.grammar.proofs.callers_law.Goals as goal

pub returns : goal.returns
returns c = λ one other text. (both_callers one other text).same
