-- Kept: the check finds none of these alone (scripts/answers tries each).
use mathlib.Core.Path.{◌≡◌, refl, ap}
use mathlib.Core.List.{[]}
use Rattle.std.proofs.Common.{rules}
use Rattle.std.specs.Prelude.{Ok, Err}
use Rattle.rounds.proofs.Steps.{ok_same, err_ok}
use native.Mathlib.Omega.{arith}
use Rattle.record.specs.Lent.{levels_in, six_of}
use Rattle.rounds.specs.Whole.{loan}
use Rattle.solve.specs.Solve.{separately, number_in}
use Rattle.solve.proofs.Alone.{blown_ends, joint_legal, few_channels, begins, alone_asks, goes-on, stops, ends}
use Rattle.solve.proofs.separate.separate.Goals as goal

pub loop-c-init : goal.loop-c-init
loop-c-init c = (begins _ _ _ _ c.requires _ refl, search rules)

pub alone_value-requires : goal.alone_value-requires
alone_value-requires c =
    let s = c.loop-c in
    record { alone = c.alone_of-run.ensures; asks = alone_asks _ _ _ _ c.requires _ _ _ s.invariant.0 c.loop-c-test.true }

pub returns-in_err-accepted-clause-is : goal.returns-in_err-accepted-clause-is
returns-in_err-accepted-clause-is c =
    let s = c.loop-c in
    let e = c.in_err-accepted.field-0.0 in
    let is : c.from_residual.result ≡ Err e = search rules in
    rw is (stops _ _ _ _ c.requires _ _ _ s.invariant.0 c.loop-c-test.true (Err e) c.alone_value.new.run _ c.in_err-accepted.ensures.is err_ok [])

pub returns-in_default-clause-is : goal.returns-in_default-clause-is
returns-in_default-clause-is c =
    let s = c.loop-c in
    let a = c.in_ok-accepted in
    let g = c.args in
    blown_ends 0 (separately g.s (levels_in g.given) g.given.tables.now) (loan (six_of g.lent.now) g.totals.now) a.accepted (number_in []) (number_in []) _ c.in_default.not-Done
    (stops _ _ _ _ c.requires _ _ _ s.invariant.0 c.loop-c-test.true (Ok a.accepted) c.alone_value.new.run _ a.ensures.is (λ e. c.in_default.not-Done (ok_same e)) [])

pub overflow_cast-clipped : goal.overflow_cast-clipped
overflow_cast-clipped c =
    let a = c.args in
    record { fits = omega (arith, few_channels a.s (joint_legal a.s (levels_in a.given) a.given.tables.now (loan (six_of a.lent.now) a.totals.now) c.requires.accepted), c.loop-c-test.true) }

pub offset_bounds-clipped-c : goal.offset_bounds-clipped-c
offset_bounds-clipped-c c =
    let a = c.args in
    omega (arith, few_channels a.s (joint_legal a.s (levels_in a.given) a.given.tables.now (loan (six_of a.lent.now) a.totals.now) c.requires.accepted), c.loop-c-test.true)

pub bounds-clipped-c : goal.bounds-clipped-c
bounds-clipped-c c =
    let a = c.args in
    omega (arith, few_channels a.s (joint_legal a.s (levels_in a.given) a.given.tables.now (loan (six_of a.lent.now) a.totals.now) c.requires.accepted), c.loop-c-test.true)

pub overflow_step-c : goal.overflow_step-c
overflow_step-c c =
    let a = c.args in
    omega (arith, few_channels a.s (joint_legal a.s (levels_in a.given) a.given.tables.now (loan (six_of a.lent.now) a.totals.now) c.requires.accepted), c.loop-c-test.true)

pub loop-c-preserved : goal.loop-c-preserved
loop-c-preserved c =
    let s = c.loop-c in
    let a = c.in_ok-accepted in
    (goes-on _ _ _ _ c.requires _ _ _ s.invariant.0 c.loop-c-test.true (Ok a.accepted) c.alone_value.new.run _ a.ensures.is (ap Ok c.in-Done.is) c.clipped_of.result c.clipped_of.ensures, search rules)

pub returns-clause-is : goal.returns-clause-is
returns-clause-is c =
    let s = c.loop-c in
    ends _ _ _ _ c.requires _ _ _ s.invariant.0 c.loop-c-test.false
