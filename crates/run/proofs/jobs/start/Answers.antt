-- Kept: the check finds none of these alone (scripts/answers tries each).
-- `start`: refused as it was, or every channel started and the record cleared.
use mathlib.Core.Path.{◌≡◌, sym}
use Rattle.std.proofs.Common.{rules}
use Rattle.std.specs.Prelude.{Err}
use Rattle.calls.specs.Calls.{lengths, all_six}
use Rattle.record.specs.Lent.{levels_in, six_of}
use Rattle.run.proofs.Startable.{start_refused, startable, start_result}
use Rattle.run.proofs.jobs.start.Goals as goal

pub returns-in_err-legal-clause-is : goal.returns-in_err-legal-clause-is
returns-in_err-legal-clause-is c =
    let a = c.args in
    let e = c.in_err-legal.field-0.0 in
    let is : c.from_residual.result ≡ Err e = search rules in
    start_refused a.run.now (levels_in a.given) a.given.tables.now (six_of a.lent.now) e is (rw c.lengths.ensures at c.in_err-legal.ensures.number)

pub start_parts-requires : goal.start_parts-requires
start_parts-requires c =
    let h = (let a = c.args in
    startable a.run.now (levels_in a.given) a.given.tables.now (lengths all_six (six_of a.lent.now)) (sym (rw c.lengths.ensures at c.in_ok-legal.ensures.number))) in
    rw c.in_ok-legal.ensures.ok (h.fed_all, (h.long.0, h.long.1.0, h.long.1.1.0, h.long.1.1.1.0, h.long.1.1.1.1.0, h.long.1.1.1.1.1.0))

pub returns-clause-is : goal.returns-clause-is
returns-clause-is c =
    let a = c.args in
    start_result a.run.now (levels_in a.given) a.given.tables.now (six_of a.lent.now)
    (sym (rw c.lengths.ensures at c.in_ok-legal.ensures.number))
    (rw c.in_ok-legal.ensures.ok at c.cleared.ensures) (rw c.in_ok-legal.ensures.ok at c.start_parts.ensures.started)
