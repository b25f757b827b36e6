-- `grammar::page_law` meets its contract.
use Rattle.grammar.proofs.PageLaws.{raised}
use Rattle.grammar.proofs.page_law.Goals as goal

pub returns-clause-page : goal.returns-clause-page
returns-clause-page c = λ limits most text b. (raised limits most text b).page

pub returns-clause-accepted : goal.returns-clause-accepted
returns-clause-accepted c = λ limits most text d b. (raised limits most text b).accepted d

pub returns-clause-refused : goal.returns-clause-refused
returns-clause-refused c = λ limits most text k line b. (raised limits most text b).refused k line
