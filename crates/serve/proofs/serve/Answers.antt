-- Kept: the check finds none of these alone (scripts/answers tries each).
-- `serve`: refused whole, or start and the list of calls.
use mathlib.Core.Path.{◌≡◌, sym}
use lib.ListN.{length}
use Rattle.std.proofs.Common.{rules}
use Rattle.std.specs.Prelude.{Ok, Err}
use Rattle.record.specs.Lent.{levels_in, six_of}
use Rattle.calls.specs.Calls.{start_refusal, all_six, lengths}
use Rattle.record.specs.Model.{places_of, given_of}
use Rattle.serve.proofs.Served.{passed, refused_whole, starts, done_whole}
use Rattle.serve.proofs.serve.Goals as goal

pub returns-in_err-start-clause-is : goal.returns-in_err-start-clause-is
returns-in_err-start-clause-is c =
    let a = c.args in
    let e = c.in_err-start.field-0.0 in
    absurd (starts a.run.now a.jobs.now a.channels.now a.answers.now (levels_in a.given) a.given.tables.now (six_of a.lent.now) (sym (rw c.lengths.ensures at c.in_ok-serve_refusal.ensures)) e c.in_err-start.ensures.is)

pub make_calls-requires : goal.make_calls-requires
make_calls-requires c =
    let a = c.args in
    let p = passed (start_refusal (given_of a.run.now (levels_in a.given) a.given.tables.now) (places_of a.run.now) (lengths all_six (six_of a.lent.now))) a.jobs.now (length a.channels.now) (length a.answers.now)
    (sym (rw c.lengths.ensures at c.in_ok-serve_refusal.ensures)) in
    (p.channels_long, p.bytes_long, p.all-jobs)

pub returns-clause-is : goal.returns-clause-is
returns-clause-is c =
    let a = c.args in
    done_whole a.run.now a.jobs.now a.channels.now a.answers.now (levels_in a.given) a.given.tables.now (six_of a.lent.now)
    (sym (rw c.lengths.ensures at c.in_ok-serve_refusal.ensures)) (Ok c.in_ok-start.field-0) c.in_ok-start.ensures.is c.make_calls.ensures.is
