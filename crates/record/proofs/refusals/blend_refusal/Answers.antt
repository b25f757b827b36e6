-- Kept: the check finds none of these alone (scripts/answers tries each).
-- `blend_refusal`: by what is lent, and then by turn.
use mathlib.Core.Path.{◌≡◌, sym, ◌∙◌}
use native.Mathlib.Omega.{arith}
use Rattle.std.proofs.Common.{rules}
use Rattle.refusal.specs.Refusal.{number_of, answer_number}
use Rattle.refusal.proofs.Laws.{number_of-positive}
use Rattle.calls.specs.Jobs.{blend}
use Rattle.calls.proofs.Tests.{by_lent, by-turn}
use Rattle.record.specs.Model.{places_of, given_of}
use Rattle.record.proofs.refusals.blend_refusal.Goals as goal

pub returns-in_err-legal-clause-number : goal.returns-in_err-legal-clause-number
returns-in_err-legal-clause-number c =
    let e = c.in_err-legal.field-0.0 in
    let same : answer_number c.from_residual.result ≡ number_of e = search rules in
    λ ls ts.
    same ∙ by_lent (given_of c.args.run ls ts) (places_of c.args.run) blend c.args.lengths.now (c.in_err-legal.ensures.number ls ts) (λ z. absurd (omega (arith, z, number_of-positive e)))

pub returns-in_err-blend_turn_refusal-clause-number : goal.returns-in_err-blend_turn_refusal-clause-number
returns-in_err-blend_turn_refusal-clause-number c =
    let same : answer_number c.from_residual-in_err-blend_turn_refusal.result ≡ number_of c.in_err-blend_turn_refusal.field-0.0 = search rules in
    λ ls ts.
    same ∙ by-turn (given_of c.args.run ls ts) (places_of c.args.run) blend c.args.lengths.now
    (sym (c.in_ok-legal.ensures.number ls ts)) (rw (← c.in_ok-legal.ensures.ok) c.in_err-blend_turn_refusal.ensures)

pub returns-clause-number : goal.returns-clause-number
returns-clause-number c =
    λ ls ts.
    by-turn (given_of c.args.run ls ts) (places_of c.args.run) blend c.args.lengths.now
    (sym (c.in_ok-legal.ensures.number ls ts)) (rw (← c.in_ok-legal.ensures.ok) c.in_ok-blend_turn_refusal.ensures)
