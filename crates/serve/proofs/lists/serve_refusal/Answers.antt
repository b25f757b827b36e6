-- Kept: the check finds none of these alone (scripts/answers tries each).
-- `serve_refusal`: each return has the outcome of the tests before it.
use borrow.Author.Tests.{ne_eqb}
use mathlib.Core.Path.{◌≡◌, refl, sym, ◌∙◌}
use mathlib.Core.Logic.{◌≢◌}
use mathlib.Core.Bool.{not}
use mathlib.Core.List.{List, [], ◌∷◌}
use Prim.Native.Nat.{ℕ, zero, suc}
use native.Mathlib.Omega.{arith}
use Rattle.std.proofs.Common.{rules}
use Rattle.record.specs.Lent.{levels_in}
use Rattle.refusal.specs.Refusal.{number_of, answer_number}
use Rattle.refusal.proofs.Laws.{number_of-positive}
use Rattle.calls.specs.Calls.{first, test}
use Rattle.record.specs.Model.{given_of, places_of}
use Rattle.serve.specs.Serve.{all_jobs, serve_refusal}
use Rattle.serve.proofs.Served.{only-records, no_record}
use Rattle.serve.proofs.lists.serve_refusal.Goals as goal

-- a number that counts
stands : (t : ℕ) (ts : List ℕ) → t ≢ 0 → t ≡ first (t ∷ ts)
stands zero ts n = absurd (n refl)
stands (suc t) ts n = refl

pub returns-then-not-legal : goal.returns-then-not-legal
unfolding serve_refusal
returns-then-not-legal c =
    let a = c.args in
    rw (no_record (given_of a.run (levels_in a.given) a.given.tables.now) (places_of a.run) a.lengths.now (sym c.legal.ensures ∙ c.if-not-legal.true))

pub returns-then-not-long : goal.returns-then-not-long
unfolding serve_refusal
returns-then-not-long c =
    let a = c.args in
    let only = only-records (given_of a.run (levels_in a.given) a.given.tables.now) (places_of a.run) a.lengths.now (sym c.legal.ensures ∙ c.if-not-legal.false) in
    rw (ne_eqb _ 13 only, c.if-not-long.true)

pub returns-in_err-start_refusal : goal.returns-in_err-start_refusal
unfolding serve_refusal
returns-in_err-start_refusal c =
    let a = c.args in
    let e = c.in_err-start_refusal.field-0.0 in
    let same : answer_number c.from_residual.result ≡ number_of e = search rules in
    let only = only-records (given_of a.run (levels_in a.given) a.given.tables.now) (places_of a.run) a.lengths.now (sym c.legal.ensures ∙ c.if-not-legal.false) in
    same ∙ rw (ne_eqb _ 13 only, c.if-not-long.false, sym c.in_err-start_refusal.ensures.number) (stands (number_of e) (test 9 (not (all_jobs a.jobs.now)) ∷ []) (λ z. absurd (omega (arith, z, number_of-positive e))))

pub returns-then-not-all_jobs : goal.returns-then-not-all_jobs
unfolding serve_refusal
returns-then-not-all_jobs c =
    rw (sym c.in_ok-start_refusal.ensures.number, c.if-not-long.false, ← c.all_jobs.ensures, c.if-not-all_jobs.true)

pub returns : goal.returns
unfolding serve_refusal
returns c =
    rw (sym c.in_ok-start_refusal.ensures.number, c.if-not-long.false, ← c.all_jobs.ensures, c.if-not-all_jobs.false)
