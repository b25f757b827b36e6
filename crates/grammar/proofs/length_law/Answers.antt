-- `grammar::length_law` meets its contract.
use Rattle.grammar.proofs.PrefixLaws.{decides, at-most}
use Rattle.grammar.proofs.Examples.{decides_at_32}
use Rattle.grammar.proofs.length_law.Goals as goal

pub returns-clause-most : goal.returns-clause-most
returns-clause-most c = at-most

pub returns-clause-decided : goal.returns-clause-decided
returns-clause-decided c = decides

pub returns-clause-at_32 : goal.returns-clause-at_32
returns-clause-at_32 c = decides_at_32
