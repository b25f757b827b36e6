-- Kept: the check finds none of these alone (scripts/answers tries each).
-- `job_refusal`: by what is lent, and then by turn.
use mathlib.Core.Path.{◌≡◌, sym, ◌∙◌}
use native.Mathlib.Omega.{arith}
use Rattle.std.proofs.Common.{rules}
use Rattle.refusal.specs.Refusal.{number_of, answer_number}
use Rattle.refusal.proofs.Laws.{number_of-positive}
use Rattle.calls.specs.Jobs.{on}
use Rattle.calls.proofs.Tests.{by_lent, by-turn}
use Rattle.record.specs.Model.{places_of, given_of}
use Rattle.record.proofs.refusals.job_refusal.Goals as goal

pub returns-in_err-lend_refusal-clause-number : goal.returns-in_err-lend_refusal-clause-number
returns-in_err-lend_refusal-clause-number c =
    let e = c.in_err-lend_refusal.field-0.0 in
    let same : answer_number c.from_residual.result ≡ number_of e = search rules in
    λ j ls ts t l.
    same ∙ by_lent (given_of c.args.run ls ts) (places_of c.args.run) (on j c.args.c) c.args.lengths.now (rw l (c.in_err-lend_refusal.ensures.number ls ts)) (λ z. absurd (omega (arith, z, number_of-positive e)))

pub returns-clause-number : goal.returns-clause-number
returns-clause-number c =
    λ j ls ts t l.
    by-turn (given_of c.args.run ls ts) (places_of c.args.run) (on j c.args.c) c.args.lengths.now
    (rw l (sym (c.in_ok-lend_refusal.ensures.number ls ts))) (rw (← c.in_ok-lend_refusal.ensures.ok) (c.turn_refusal.ensures.number j t))
