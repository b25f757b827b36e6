-- `program_laws::partner_law` meets its contract.
use Rattle.std.proofs.Common.{sym, ◌∙◌}
use Rattle.program.proofs.Partner.{partner_sees, refused_alike}
use Rattle.program_laws.proofs.partner_law.Goals as goal

pub returns-clause-sees : goal.returns-clause-sees
returns-clause-sees c = partner_sees

pub returns-clause-refused : goal.returns-clause-refused
returns-clause-refused c = λ limits text who who' into one other r r' p q. p.answer ∙ sym q.answer

pub returns-clause-refusal : goal.returns-clause-refusal
returns-clause-refusal c = refused_alike
