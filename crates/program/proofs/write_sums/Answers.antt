-- Kept: the check finds none of these alone (scripts/answers tries each).
-- `program::write_sums` meets its contract: the lines of the one run, or of all runs.
use Rattle.output.proofs.Fronts.{said_ok}
use Rattle.program.proofs.Totals.{joint_lines, joint_fits, apart_lines}
use Rattle.program.proofs.write_sums.Goals as goal

pub unwrap-requires : goal.unwrap-requires
unwrap-requires c =
    let a = c.args in
    let p = c.requires in
    said_ok c.write_totals.ensures.answer (joint_fits a.s p.0 a.totals.now c.if-h.true p.1 a.to.now p.2)

pub returns-then-h : goal.returns-then-h
returns-then-h c =
    let a = c.args in
    let p = c.requires in
    joint_lines a.s p.0 a.totals.now c.if-h.true p.1 a.to.now _ p.2 (rw c.unwrap.ensures at c.write_totals.ensures.writes)

pub returns : goal.returns
returns c = apart_lines c.args.s c.requires.0 c.args.totals.now c.if-h.false _ _ c.write_runs.ensures
