-- Kept: the check finds none of these alone (scripts/answers tries each).
-- `fed_refusal`: by what is lent, and then by turn.
use mathlib.Core.Path.{◌≡◌, sym, ◌∙◌}
use native.Mathlib.Omega.{arith}
use Rattle.std.proofs.Common.{rules}
use Rattle.refusal.specs.Refusal.{number_of, answer_number}
use Rattle.refusal.proofs.Laws.{number_of-positive}
use Rattle.record.specs.Lent.{levels_in}
use Rattle.calls.specs.Jobs.{on}
use Rattle.calls.specs.Calls.{start_refusal}
use Rattle.calls.proofs.Tests.{by_lent, by-turn}
use Rattle.record.specs.Model.{places_of, given_of}
use Rattle.record.proofs.refusals.fed_refusal.Goals as goal

pub returns-in_err-start_refusal-clause-number : goal.returns-in_err-start_refusal-clause-number
unfolding start_refusal
returns-in_err-start_refusal-clause-number c =
    let e = c.in_err-start_refusal.field-0.0 in
    let same : answer_number c.from_residual.result ≡ number_of e = search rules in
    λ j t l.
    same ∙ by_lent (given_of c.args.run (levels_in c.args.given) c.args.given.tables.now) (places_of c.args.run) (on j c.args.c) c.args.lengths.now (rw l c.in_err-start_refusal.ensures.number) (λ z. absurd (omega (arith, z, number_of-positive e)))

pub returns-clause-number : goal.returns-clause-number
unfolding start_refusal
returns-clause-number c =
    λ j t l.
    by-turn (given_of c.args.run (levels_in c.args.given) c.args.given.tables.now) (places_of c.args.run) (on j c.args.c) c.args.lengths.now
    (rw l (sym c.in_ok-start_refusal.ensures.number)) (rw (← c.in_ok-start_refusal.ensures.ok) (c.turn_refusal.ensures.number j t))
