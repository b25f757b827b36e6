-- `grammar::equal_law` meets its contract.
use Rattle.grammar.proofs.CanonicalLaws.{equal_pairs}
use Rattle.grammar.proofs.equal_law.Goals as goal

pub returns : goal.returns
returns c = λ limits text s b one other ms. (equal_pairs limits text s b one other ms).same
