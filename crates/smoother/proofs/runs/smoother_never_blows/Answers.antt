-- Kept: the check finds none of these alone (scripts/answers tries each).
-- `smoother_never_blows`: 1 for what `never_blows` tells of the record.
use mathlib.Core.Path.{◌∙◌}
use native.Mathlib.Omega.{arith}
use Rattle.by_numbers.proofs.SheetLaws.{bit}
use Rattle.smoother.proofs.InNumbers.{lettered}
use Rattle.smoother.proofs.NeverBlows.{told}
use Rattle.smoother.proofs.OneByOne.{calls_never}
use Rattle.smoother.proofs.runs.smoother_never_blows.Goals as goal

pub returns-in-Ok-clause-tells : goal.returns-in-Ok-clause-tells
returns-in-Ok-clause-tells c =
    let l = lettered c.args.run.now c.try_from.result c.try_from.ensures _ c.in-Ok.is in
    told _ l.0 _ l.1 c.never_blows.result c.never_blows.ensures (c.from.ensures ∙ bit c.never_blows.result)

pub returns-in-Ok-clause-calls : goal.returns-in-Ok-clause-calls
returns-in-Ok-clause-calls c = λ e. calls_never _ ((returns-in-Ok-clause-tells c).promise e)

pub returns-in-Err-clause-calls : goal.returns-in-Err-clause-calls
returns-in-Err-clause-calls c = λ e. absurd (omega (arith, e))
