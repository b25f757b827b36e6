-- Kept: the check finds none of these alone (scripts/answers tries each).
-- `stitch::stitch` meets its contract.
use mathlib.Core.Path.{sym, ◌∙◌}
use Rattle.std.proofs.lemmas.Result.{err_from_is_err_and}
use Rattle.stitch.proofs.CallLaws.{stitch_refused, fit, stitch_length, stitch_done}
use Rattle.stitch.proofs.stitch.Goals as goal

pub returns-in_err-fit : goal.returns-in_err-fit
returns-in_err-fit c =
    let p = err_from_is_err_and c.from_residual.result c.from_residual.ensures.1 in
    rw (p.1, p.2) (stitch_refused c.args.left.now c.args.right.now c.args.out.now _ c.in_err-fit.ensures)

pub write-length-requires : goal.write-length-requires
write-length-requires c = (fit c.args.left.now c.args.right.now c.in_ok-fit.fit c.in_ok-fit.ensures).short

pub returns-then-length-out : goal.returns-then-length-out
returns-then-length-out c =
    stitch_length c.args.left.now c.args.right.now c.in_ok-fit.fit c.in_ok-fit.ensures c.args.out.now
    (λ e. c.if-length-out.true (c.write-length.ensures.count ∙ e)) _ c.of_neither.ensures

pub returns : goal.returns
returns c =
    stitch_done c.args.left.now c.args.right.now c.in_ok-fit.fit c.in_ok-fit.ensures c.args.out.now
    (sym c.write-length.ensures.count ∙ c.if-length-out.false) _ c.write.ensures.bytes
