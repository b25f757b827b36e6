-- `grammar::staff_law` meets its contract.
use Rattle.grammar.proofs.PartnerLaws.{staff_unmarked}
use Rattle.std.proofs.Common.{refl}
use Rattle.grammar.proofs.staff_law.Goals as goal

pub returns-clause-same : goal.returns-clause-same
returns-clause-same c = λ limits text s b rs ms. (staff_unmarked limits text s b rs ms).same

pub returns-clause-seen : goal.returns-clause-seen
returns-clause-seen c = λ b rs ms. refl
