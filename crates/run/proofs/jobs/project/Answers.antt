-- Kept: the check finds none of these alone (scripts/answers tries each).
-- `project`: refused as it was, or the channel's part projected, with the mark that its new values give.
use mathlib.Core.Path.{◌≡◌, refl, sym, ap, ◌∙◌}
use mathlib.Core.Bool.{true, false}
use Rattle.std.proofs.Common.{rules}
use Rattle.std.specs.Prelude.{Ok, Err}
use Rattle.record.specs.Lent.{levels_in}
use Rattle.projection.specs.Projection.{Box}
use Rattle.calls.specs.Buffers.{channel}
use Rattle.calls.specs.Jobs.{project, on}
use Rattle.record.specs.declared.Accepted.TheVariants.{Projected}
use Rattle.record.specs.Model.{given_of, seen_of}
use Rattle.run.specs.Public.{state_of, for_project}
use Rattle.run.proofs.Ready.{call_refused, accepted, fed, project_result}
use Rattle.run.proofs.JobLaws.{held_buffers, free_buffers, told_is, project_buffers, project_marks, project_clips}
use Rattle.run.proofs.jobs.project.Goals as goal
use Rattle.run.proofs.jobs.project.Goals.{then-held, else-held}

pub returns-in_err-turn : goal.returns-in_err-turn
returns-in_err-turn c =
    let a = c.args in
    let e = c.in_err-turn.field-0.0 in
    let is : c.from_residual.result ≡ Err e = search rules in
    λ o.
    call_refused a.run.now (levels_in a.given) a.given.tables.now (on project a.c) (for_project o a.plane.now a.across.now a.down.now a.saved.now) e is (c.in_err-turn.ensures.number project refl refl)

pub held_seen-seen-requires : goal.held_seen-seen-requires
held_seen-seen-requires c =
    let h = accepted c.args.run.now _ _ project c.args.c _ (sym (c.in_ok-turn.ensures.number project refl refl)) in
    rw c.in_ok-turn.ensures.ok.0 (h.long.0, h.long.1.1.1.0)

pub invariant_of-handed : goal.invariant_of-handed
invariant_of-handed c =
    let t = c.in_ok-turn.ensures.ok in
    record { fed = rw (t.0, t.1) (fed c.args.run.now _ _ project c.args.c _ refl (sym (c.in_ok-turn.ensures.number project refl refl))) }

pub project-seen-requires : goal.project-seen-requires
project-seen-requires c =
    let l = (accepted c.args.run.now _ _ project c.args.c _ (sym (c.in_ok-turn.ensures.number project refl refl))).long in
    rw c.in_ok-turn.ensures.ok.0 (l.0, l.1.0, l.1.1.0, l.1.1.1.0)

pub returns : goal.returns
unfolding channel
returns c =
    let a = c.args in
    let r = a.run.now in
    let t = c.in_ok-turn.ensures.ok in
    let levels = levels_in a.given in
    let G = given_of r levels a.given.tables.now in
    λ o.
    let B = for_project o a.plane.now a.across.now a.down.now a.saved.now in
    elim c.if-held.branch [
      | then-held w ↦
          let held = sym (rw (t.0, t.1) at c.held.ensures) ∙ w.if-held.true in
          let p = rw (t.0, t.1) at w.held_seen-seen.ensures in
          project_result r levels a.given.tables.now a.c B (sym (c.in_ok-turn.ensures.number project refl refl))
          (seen_of c.if-held.seen)
          (told_is G a.c (state_of r B) true held ∙ (λ i. record { blown = sym p.0 i; clipped = sym p.1 i }) ∙ sym (ap seen_of w.seen-is))
          (Ok (Projected c.if-held.seen.clipped c.if-held.seen.blown)) refl (rw (t.0, t.1) at c.projected.ensures)
          (held_buffers G project a.c (state_of r B) held ∙ (λ i. for_project o (sym w.plane-is i) (sym w.across-is i) (sym w.down-is i) (sym w.saved-is i)))
      | else-held w ↦
          let free = sym (rw (t.0, t.1) at c.held.ensures) ∙ w.if-held.false in
          let p = rw (t.0, t.1) at w.project-seen.ensures in
          project_result r levels a.given.tables.now a.c B (sym (c.in_ok-turn.ensures.number project refl refl))
          (seen_of c.if-held.seen)
          (told_is G a.c (state_of r B) false free ∙ (λ i.
          record {
            blown = (project_marks G a.c o a.plane.now a.across.now a.down.now a.saved.now ∙ sym p.1) i;
            clipped = (project_clips G a.c o a.plane.now a.across.now a.down.now a.saved.now ∙ sym p.2) i;
          }) ∙ sym (ap seen_of w.seen-is))
          (Ok (Projected c.if-held.seen.clipped c.if-held.seen.blown)) refl (rw (t.0, t.1) at c.projected.ensures)
          (free_buffers G project a.c (state_of r B) free
          ∙ project_buffers G a.c o a.plane.now a.across.now a.down.now a.saved.now
          ∙ sym (ap (λ (b : Box). for_project o b.plane b.across b.down b.saved) p.0)
          ∙ (λ i. for_project o (sym w.plane-is i) (sym w.across-is i) (sym w.down-is i) (sym w.saved-is i)))
    ]
