-- Kept: the check finds none of these alone (scripts/answers tries each).
-- `start_refusal`: each return has the outcome of the tests before it.
use mathlib.Core.Path.{◌≡◌, refl, sym, ◌∙◌}
use Rattle.std.proofs.Common.{rules}
use Rattle.record.specs.Lent.{levels_in}
use Rattle.refusal.specs.Refusal.{number_of, answer_number}
use Rattle.refusal.proofs.Laws.{number_of-positive}
use Rattle.calls.specs.Calls.{start_refusal, levels_fault}
use Rattle.calls.proofs.Tests.{first_one}
use Rattle.record.specs.Model.{places_of, given_of}
use Rattle.record.proofs.Tested.{lend_refused, lend_passed}
use Rattle.record.proofs.refusals.start_refusal.Goals as goal

pub returns-in_err-legal-clause-number : goal.returns-in_err-legal-clause-number
unfolding start_refusal
returns-in_err-legal-clause-number c =
    let e = c.in_err-legal.field-0.0 in
    let levels = levels_in c.args.given in
    let same : answer_number c.from_residual.result ≡ number_of e = search rules in
    same ∙ lend_refused (given_of c.args.run levels c.args.given.tables.now) (places_of c.args.run) c.args.lengths.now (number_of-positive e) (c.in_err-legal.ensures.number levels c.args.given.tables.now)

pub returns-then-not-values_long-clause-number : goal.returns-then-not-values_long-clause-number
unfolding start_refusal
returns-then-not-values_long-clause-number c =
    let levels = levels_in c.args.given in
    lend_passed (given_of c.args.run levels c.args.given.tables.now) (places_of c.args.run) c.args.lengths.now (c.in_ok-legal.ensures.number levels c.args.given.tables.now)
    (sym c.if-not-values_long.true ∙ rw (← c.in_ok-legal.ensures.ok) c.values_long.ensures) refl

pub returns-then-not-tables_ok-clause-number : goal.returns-then-not-tables_ok-clause-number
unfolding start_refusal
returns-then-not-tables_ok-clause-number c =
    let levels = levels_in c.args.given in
    lend_passed (given_of c.args.run levels c.args.given.tables.now) (places_of c.args.run) c.args.lengths.now (c.in_ok-legal.ensures.number levels c.args.given.tables.now)
    (sym c.if-not-values_long.false ∙ rw (← c.in_ok-legal.ensures.ok) c.values_long.ensures) (sym c.if-not-tables_ok.true ∙ c.tables_ok.ensures)

pub returns-in_err-levels_fault-clause-number : goal.returns-in_err-levels_fault-clause-number
unfolding start_refusal
returns-in_err-levels_fault-clause-number c =
    let levels = levels_in c.args.given in
    let same : answer_number c.from_residual-in_err-levels_fault.result ≡ number_of c.in_err-levels_fault.field-0.0 = search rules in
    same ∙ c.in_err-levels_fault.ensures ∙ sym (first_one (levels_fault levels))
    ∙ lend_passed (given_of c.args.run levels c.args.given.tables.now) (places_of c.args.run) c.args.lengths.now (c.in_ok-legal.ensures.number levels c.args.given.tables.now)
    (sym c.if-not-values_long.false ∙ rw (← c.in_ok-legal.ensures.ok) c.values_long.ensures) (sym c.if-not-tables_ok.false ∙ c.tables_ok.ensures)

pub returns-clause-number : goal.returns-clause-number
unfolding start_refusal
returns-clause-number c =
    let levels = levels_in c.args.given in
    c.in_ok-levels_fault.ensures ∙ sym (first_one (levels_fault levels))
    ∙ lend_passed (given_of c.args.run levels c.args.given.tables.now) (places_of c.args.run) c.args.lengths.now (c.in_ok-legal.ensures.number levels c.args.given.tables.now)
    (sym c.if-not-values_long.false ∙ rw (← c.in_ok-legal.ensures.ok) c.values_long.ensures) (sym c.if-not-tables_ok.false ∙ c.tables_ok.ensures)
