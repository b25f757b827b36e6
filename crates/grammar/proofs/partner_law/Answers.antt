-- `grammar::partner_law` meets its contract.
use Rattle.grammar.proofs.PartnerLaws.{partner_blind}
use Rattle.grammar.proofs.partner_law.Goals as goal

pub returns-clause-answer : goal.returns-clause-answer
returns-clause-answer c = λ limits text text' one other into p q s. ((partner_blind limits text text' one other).seen p q s into).0

pub returns-clause-buffers : goal.returns-clause-buffers
returns-clause-buffers c = λ limits text text' one other into p q s. ((partner_blind limits text text' one other).seen p q s into).1
