-- Kept: the check finds none of these alone (scripts/answers tries each).
-- `solve`: refused as it was, or the runs of the sheet's mode.
use mathlib.Core.Path.{◌≡◌, refl, sym}
use mathlib.Core.List.{[], ◌∷◌}
use lib.ListN.{length}
use Rattle.std.proofs.Common.{rules}
use Rattle.std.specs.Prelude.{Ok, Err}
use Rattle.record.specs.Lent.{levels_in, six_of}
use Rattle.record.specs.Model.{clipped_of}
use Rattle.rounds.specs.Whole.{loan}
use Rattle.rounds.proofs.Steps.{err_ok}
use Rattle.calls.specs.Calls.{lengths, all_six}
use Rattle.rounds.specs.declared.Ran.TheVariants.{Done}
use Rattle.solve.specs.Solve.{whole_of, number_in, solve_refusal, answered, numbers_in}
use Rattle.solve.proofs.Alone.{blown_ends, any_numbers, solve_joint, solve_separate, joint_room}
use Rattle.solve.proofs.solve.Goals as goal

pub run_value-requires : goal.run_value-requires
run_value-requires c =
    let a = c.args in
    rw c.joint_of-run.ensures
    (joint_room a.s (levels_in a.given) a.given.tables.now (loan (six_of a.lent.now) a.totals.now) (sym (rw c.lengths.ensures at c.in_ok-solve_refusal.ensures)) c.if-s.true)

pub returns-in_err-accepted-clause-is : goal.returns-in_err-accepted-clause-is
returns-in_err-accepted-clause-is c =
    let a = c.args in
    let e = c.in_err-accepted.field-0.0 in
    let r = c.run_value.new.run in
    let is : c.from_residual-in_err-accepted.result ≡ Err e = search rules in
    rw is
    (any_numbers a.s (levels_in a.given) a.given.tables.now (loan (six_of a.lent.now) a.totals.now) (Err e) (clipped_of r 0 ∷ clipped_of r 1 ∷ clipped_of r 2 ∷ []) [] _ err_ok
    (solve_joint a.s (levels_in a.given) a.given.tables.now (loan (six_of a.lent.now) a.totals.now) (sym (rw c.lengths.ensures at c.in_ok-solve_refusal.ensures)) (Err e) _ _ c.if-s.true r refl
    (rw c.joint_of-run.ensures at c.in_err-accepted.ensures.is)))

pub returns-in_default-clause-is : goal.returns-in_default-clause-is
returns-in_default-clause-is c =
    let a = c.args in
    let x = c.in_ok-accepted.accepted in
    let r = c.run_value.new.run in
    let ks = clipped_of r 0 ∷ clipped_of r 1 ∷ clipped_of r 2 ∷ [] in
    let L = loan (six_of a.lent.now) a.totals.now in
    let refusal = solve_refusal a.s (levels_in a.given) a.given.tables.now (lengths all_six L.buffers) (length L.totals) in
    blown_ends refusal (whole_of a.s (levels_in a.given) a.given.tables.now) L x (number_in ks) (number_in []) _ c.in_default.not-Done
    (solve_joint a.s (levels_in a.given) a.given.tables.now L (sym (rw c.lengths.ensures at c.in_ok-solve_refusal.ensures)) (Ok x) ks _ c.if-s.true r refl
    (rw c.joint_of-run.ensures at c.in_ok-accepted.ensures.is))

pub returns-then-s-clause-is : goal.returns-then-s-clause-is
returns-then-s-clause-is c =
    let a = c.args in
    solve_joint a.s (levels_in a.given) a.given.tables.now (loan (six_of a.lent.now) a.totals.now) (sym (rw c.lengths.ensures at c.in_ok-solve_refusal.ensures)) (Ok Done) c.numbers_of.result _ c.if-s.true c.run_value.new.run c.numbers_of.ensures
    (rw (c.joint_of-run.ensures, c.in-Done.is) at c.in_ok-accepted.ensures.is)

pub returns-clause-is : goal.returns-clause-is
returns-clause-is c =
    let a = c.args in
    let r = c.separate.result in
    solve_separate a.s (levels_in a.given) a.given.tables.now (loan (six_of a.lent.now) a.totals.now) (sym (rw c.lengths.ensures at c.in_ok-solve_refusal.ensures)) (answered r) (numbers_in r) _ c.if-s.false c.separate.ensures.is
