-- Kept: the check finds none of these alone (scripts/answers tries each).
use native.Mathlib.Omega.{arith}
use Rattle.solve.specs.Solve.{number_in}
use Rattle.output.proofs.Fronts.{adds_none, adds_as, said_ok}
use Rattle.program.proofs.Clipped.{none_written, one_written, one_fits}
use Rattle.program.proofs.write_numbers.Goals as goal

pub loop-c-init : goal.loop-c-init
loop-c-init c = (omega arith, (adds_as (none_written (number_in c.args.clipped)) (adds_none _), omega arith))

pub unwrap-requires : goal.unwrap-requires
unwrap-requires c =
    let a = c.args in
    let p = c.requires in
    let l = c.loop-c in
    let t = c.loop-c-test.true in
    said_ok c.write_clipped.ensures.answer (one_fits a.to.now _ _ l.c _ (omega (arith, t, p.0)) (p.1 l.c t) p.2 l.invariant.1)

pub loop-c-preserved : goal.loop-c-preserved
loop-c-preserved c =
    let a = c.args in
    let p = c.requires in
    let l = c.loop-c in
    let t = c.loop-c-test.true in
    (omega arith, one_written (number_in a.clipped) a.to.now _ _ l.c (omega (arith, t, p.0)) (p.1 l.c t) p.2 l.invariant.1 (rw c.unwrap.ensures at c.write_clipped.ensures.writes))
