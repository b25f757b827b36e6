-- `grammar::accepts_law` meets its contract.
use Rattle.grammar.proofs.CanonicalLaws.{accepts}
use Rattle.grammar.proofs.accepts_law.Goals as goal

pub returns-clause-only : goal.returns-clause-only
returns-clause-only c = λ limits text s h. (accepts limits text s h).only

pub returns-clause-all : goal.returns-clause-all
returns-clause-all c = λ limits text s h. (accepts limits text s h).all
