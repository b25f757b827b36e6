-- Kept: the check finds none of these alone (scripts/answers tries each).
-- `run_value`: refused as start refuses, or all rounds from what start leaves.
use mathlib.Core.Path.{◌≡◌, refl}
use Rattle.std.proofs.Common.{rules}
use Rattle.std.specs.Prelude.{Ok, Err}
use Rattle.record.specs.Lent.{levels_in, six_of}
use Rattle.rounds.proofs.Rest.{rest_same, rest_on}
use Rattle.rounds.proofs.Ends.{leaves, rest_started, end_is, refuses, started, run_asks, runs_on}
use Rattle.rounds.proofs.run_value.Goals as goal

pub returns-in_err-start-clause-is : goal.returns-in_err-start-clause-is
returns-in_err-start-clause-is c =
    let a = c.args in
    let e = c.in_err-start.field-0.0 in
    let is : c.from_residual.result ≡ Err e = search rules in
    rw is (refuses a.run.now (levels_in a.given) a.given.tables.now (six_of a.lent.now) a.totals.now (Err e) c.start.new.run _ c.in_err-start.ensures.is e refl)

pub all_rounds-requires : goal.all_rounds-requires
all_rounds-requires c =
    let a = c.args in
    let f = c.in_ok-start.field-0 in
    run_asks a.run.now (levels_in a.given) a.given.tables.now (six_of a.lent.now) a.totals.now (Ok f) c.start.new.run _ c.in_ok-start.ensures.is (started a.run.now (levels_in a.given) a.given.tables.now (six_of a.lent.now) a.totals.now (Ok f) c.start.new.run _ c.in_ok-start.ensures.is f refl) c.requires

pub returns-clause-is : goal.returns-clause-is
returns-clause-is c =
    let a = c.args in
    let f = c.in_ok-start.field-0 in
    runs_on a.run.now (levels_in a.given) a.given.tables.now (six_of a.lent.now) a.totals.now (Ok f) c.start.new.run _ c.in_ok-start.ensures.is (started a.run.now (levels_in a.given) a.given.tables.now (six_of a.lent.now) a.totals.now (Ok f) c.start.new.run _ c.in_ok-start.ensures.is f refl) c.all_rounds.result c.all_rounds.new.run _ c.all_rounds.ensures.is

pub returns-in_err-start-clause-refused : goal.returns-in_err-start-clause-refused
returns-in_err-start-clause-refused c =
    let a = c.args in
    let e = c.in_err-start.field-0.0 in
    let is : c.from_residual.result ≡ Err e = search rules in
    rw is (leaves a.run.now (levels_in a.given) a.given.tables.now (six_of a.lent.now) a.totals.now (Err e) c.start.new.run _ c.in_err-start.ensures.is e refl)

pub returns-in_err-start-clause-rest : goal.returns-in_err-start-clause-rest
returns-in_err-start-clause-rest c =
    let a = c.args in
    let same = leaves a.run.now (levels_in a.given) a.given.tables.now (six_of a.lent.now) a.totals.now (Err c.in_err-start.field-0.0) c.start.new.run _ c.in_err-start.ensures.is c.in_err-start.field-0.0 refl in
    rw same (rest_same a.run.now)

pub returns-clause-rest : goal.returns-clause-rest
returns-clause-rest c =
    let a = c.args in
    let f = c.in_ok-start.field-0 in
    rest_on _ _ _
    (rest_started a.run.now (levels_in a.given) a.given.tables.now (six_of a.lent.now) a.totals.now (Ok f) c.start.new.run _ c.in_ok-start.ensures.is (started a.run.now (levels_in a.given) a.given.tables.now (six_of a.lent.now) a.totals.now (Ok f) c.start.new.run _ c.in_ok-start.ensures.is f refl))
    c.all_rounds.ensures.rest

pub returns-clause-at_end : goal.returns-clause-at_end
returns-clause-at_end c =
    let a = c.args in
    let f = c.in_ok-start.field-0 in
    λ e.
    end_is a.run.now (levels_in a.given) a.given.tables.now (six_of a.lent.now) a.totals.now (Ok f) c.start.new.run _ c.in_ok-start.ensures.is (started a.run.now (levels_in a.given) a.given.tables.now (six_of a.lent.now) a.totals.now (Ok f) c.start.new.run _ c.in_ok-start.ensures.is f refl)
    c.all_rounds.new.run (c.all_rounds.ensures.at_end e)
