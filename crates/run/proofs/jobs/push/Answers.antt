-- Kept: the check finds none of these alone (scripts/answers tries each).
-- `push`: refused as it was, or the channel's part pushed; of a held channel only its turn is taken.
use mathlib.Core.Path.{◌≡◌, refl, sym, ap, ◌∙◌}
use mathlib.Core.List.{[]}
use Prim.Native.Nat.{◌*◌, ◌/◌}
use Rattle.std.proofs.Common.{rules}
use Rattle.std.specs.Prelude.{Err}
use Rattle.start.specs.Coef.{pairs}
use Rattle.calls.specs.Run.{place}
use Rattle.calls.specs.Jobs.{push, on}
use Rattle.steps.specs.Solve.{Planes}
use Rattle.demand.specs.Solver.{constants_of}
use Rattle.record.specs.Model.{sheet_of, places_of, given_of}
use Rattle.record.proofs.Sizes.{part_ends}
use Rattle.run.specs.Public.{state_of, for_push}
use Rattle.run.proofs.Ready.{call_refused, accepted, job_result}
use Rattle.run.proofs.JobLaws.{held_buffers, free_buffers, push_buffers}
use Rattle.run.proofs.jobs.push.Goals as goal
use Rattle.run.proofs.jobs.push.Goals.{then-not-held, else-not-held}

pub returns-in_err-turn : goal.returns-in_err-turn
returns-in_err-turn c =
    let a = c.args in
    let e = c.in_err-turn.field-0.0 in
    let is : c.from_residual.result ≡ Err e = search rules in
    λ levels tables o.
    call_refused a.run.now levels tables (on push a.c) (for_push o a.plane.now a.prior.now) e is (c.in_err-turn.ensures.number push levels tables refl refl)

pub push_channel-requires : goal.push_channel-requires
push_channel-requires c =
    let h = accepted c.args.run.now _ _ push c.args.c _ (sym (c.in_ok-turn.ensures.number push (pairs [] []) [] refl refl)) in
    (rw (c.area.ensures, c.in_ok-turn.ensures.ok.0, h.long.0) (part_ends c.args.run.now h.is-legal c.args.c h.below), h.long.0 ∙ sym h.long.1.0)

pub returns : goal.returns
returns c =
    let a = c.args in
    let r = a.run.now in
    let t = c.in_ok-turn.ensures.ok in
    let held = rw (t.0, t.1) at c.held.ensures in
    λ levels tables o.
    let G = given_of r levels tables in
    let s = state_of r (for_push o a.plane.now a.prior.now) in
    job_result r levels tables push a.c (for_push o a.plane.now a.prior.now) (sym (c.in_ok-turn.ensures.number push levels tables refl refl)) (rw (t.0, t.1) at c.advanced.ensures)
    (elim c.if-not-held.branch [
      | then-not-held w ↦
          let done = rw (w.constants_of-k.ensures, w.area.ensures, t.0, t.1) at w.push_channel.ensures in
          free_buffers G push a.c s (sym held ∙ w.if-not-held.true)
          ∙ push_buffers (r.w * r.h) a.c o (constants_of (sheet_of r) ((place (places_of r) a.c).position / 5)) a.plane.now a.prior.now
          ∙ sym (ap (λ (p : Planes). for_push o p.plane p.prior) done)
          ∙ (λ i. for_push o (sym w.plane-is i) (sym w.prior-is i))
      | else-not-held w ↦ held_buffers G push a.c s (sym held ∙ w.if-not-held.false) ∙ (λ i. for_push o (sym w.plane-is i) (sym w.prior-is i))
    ])
