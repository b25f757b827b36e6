-- Kept: the check finds none of these alone (scripts/answers tries each).
-- `data`: refused as it was, or the channel's gradient anew; of a held channel only its turn is taken.
use mathlib.Core.Path.{◌≡◌, refl, sym, ap, ◌∙◌}
use mathlib.Core.List.{List}
use lib.Ieee.{Float}
use Rattle.std.proofs.Common.{rules}
use Rattle.std.specs.Prelude.{Err}
use Rattle.record.specs.Lent.{levels_in}
use Rattle.calls.specs.Jobs.{fidelity, on}
use Rattle.record.specs.Model.{given_of}
use Rattle.run.specs.Public.{state_of, for_data}
use Rattle.run.proofs.Ready.{call_refused, accepted, fed, job_result}
use Rattle.run.proofs.JobLaws.{held_buffers, free_buffers, data_buffers}
use Rattle.run.proofs.jobs.data.Goals as goal
use Rattle.run.proofs.jobs.data.Goals.{then-not-held, else-not-held}

pub returns-in_err-turn : goal.returns-in_err-turn
returns-in_err-turn c =
    let a = c.args in
    let e = c.in_err-turn.field-0.0 in
    let is : c.from_residual.result ≡ Err e = search rules in
    λ o.
    call_refused a.run.now (levels_in a.given) a.given.tables.now (on fidelity a.c) (for_data o a.gradient.now a.saved.now) e is (c.in_err-turn.ensures.number fidelity refl refl)

pub invariant_of-handed : goal.invariant_of-handed
invariant_of-handed c =
    let t = c.in_ok-turn.ensures.ok in
    record { fed = rw (t.0, t.1) (fed c.args.run.now _ _ fidelity c.args.c _ refl (sym (c.in_ok-turn.ensures.number fidelity refl refl))) }

pub data-requires : goal.data-requires
data-requires c =
    let h = accepted c.args.run.now _ _ fidelity c.args.c _ (sym (c.in_ok-turn.ensures.number fidelity refl refl)) in
    rw c.in_ok-turn.ensures.ok.0 (h.long.0, h.long.1.0)

pub returns : goal.returns
returns c =
    let a = c.args in
    let r = a.run.now in
    let t = c.in_ok-turn.ensures.ok in
    let held = rw (t.0, t.1) at c.held.ensures in
    let levels = levels_in a.given in
    let G = given_of r levels a.given.tables.now in
    λ o.
    let s = state_of r (for_data o a.gradient.now a.saved.now) in
    job_result r levels a.given.tables.now fidelity a.c (for_data o a.gradient.now a.saved.now) (sym (c.in_ok-turn.ensures.number fidelity refl refl)) (rw (t.0, t.1) at c.advanced.ensures)
    (elim c.if-not-held.branch [
      | then-not-held w ↦
          free_buffers G fidelity a.c s (sym held ∙ w.if-not-held.true)
          ∙ data_buffers G a.c o a.gradient.now a.saved.now
          ∙ sym (ap (λ (xs : List Float). for_data o xs a.saved.now) (w.gradient-is ∙ (rw (t.0, t.1) at w.«data».ensures)))
      | else-not-held w ↦ held_buffers G fidelity a.c s (sym held ∙ w.if-not-held.false) ∙ sym (ap (λ (xs : List Float). for_data o xs a.saved.now) w.gradient-is)
    ])
