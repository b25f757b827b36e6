-- `sheet::readers_law` meets its contract.
use Rattle.std.proofs.Common.{sym, ◌∙◌}
use Rattle.sheet.proofs.ReadLaws.{refused_kept}
use Rattle.sheet.proofs.readers_law.Goals as goal

pub returns-clause-alike : goal.returns-clause-alike
returns-clause-alike c = λ limits text who other into after last r q p o. p.answer ∙ sym o.answer

pub returns-clause-kept : goal.returns-clause-kept
returns-clause-kept c = refused_kept
