-- Kept: the check finds none of these alone (scripts/answers tries each).
-- `stitch::measure` meets its contract.
use mathlib.Core.Path.{ap, ◌∙◌}
use Rattle.std.specs.Prelude.{Ok}
use Rattle.std.proofs.lemmas.Result.{err_from_is_err_and}
use Rattle.stitch.proofs.CallLaws.{measured_refused, fit, measured_fit}
use Rattle.stitch.proofs.measure.Goals as goal

pub returns-in_err-fit : goal.returns-in_err-fit
returns-in_err-fit c =
    let p = err_from_is_err_and c.from_residual.result c.from_residual.ensures.1 in
    rw (p.1, p.2) (measured_refused c.args.left.now c.args.right.now _ c.in_err-fit.ensures)

pub write-requires : goal.write-requires
write-requires c = (fit c.args.left.now c.args.right.now c.in_ok-fit.fit c.in_ok-fit.ensures).short

pub returns : goal.returns
returns c = ap Ok c.write.ensures.count ∙ measured_fit c.args.left.now c.args.right.now c.in_ok-fit.fit c.in_ok-fit.ensures
