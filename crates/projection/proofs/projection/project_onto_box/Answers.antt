-- Kept: the check finds none of these alone (scripts/answers tries each).
use Rattle.std.proofs.Common.{[], ◌∙◌, arith}
use Rattle.start.specs.AsCoef.{as_coef}
use Rattle.start.proofs.Cover.{own_fits}
use Rattle.projection.specs.Projection.{Box, back, project_full, project_means, project_onto_box, transformed}
use Rattle.projection.proofs.Exact.{clipped_exact}
use Rattle.projection.proofs.projection.project_onto_box.Goals as goal

pub returns-then-not-resample-clause-boxed : goal.returns-then-not-resample-clause-boxed
unfolding project_onto_box
returns-then-not-resample-clause-boxed c = rw (← c.resample.ensures, c.if-not-resample.true) (c.project_full.ensures.0 _)

pub returns-then-not-resample-clause-counted : goal.returns-then-not-resample-clause-counted
unfolding transformed
returns-then-not-resample-clause-counted c = rw (← c.resample.ensures, c.if-not-resample.true) c.project_full.ensures.1

pub returns-then-not-resample-clause-exact : goal.returns-then-not-resample-clause-exact
returns-then-not-resample-clause-exact c sheet =
    let s = c.args.coef.now in
    returns-then-not-resample-clause-counted c
    ∙ clipped_exact (as_coef s) s.w s.h _ s.covers.eights (omega (arith, c.requires.1, own_fits s.own s.w s.h s.covers)) sheet

pub returns-clause-boxed : goal.returns-clause-boxed
unfolding project_onto_box project_full project_means
returns-clause-boxed c =
    let s = c.args.coef.now in
    let f = c.project_full-moved.ensures in
    rw (← c.resample.ensures, c.if-not-resample.false, ← c.split.ensures)
    (rw c.back.ensures (λ i. let b : Box = f.0 [] i in record { plane = back s.own s.w b.plane c.split.new.plane; across = b.across; down = b.plane; saved = b.saved }))

pub returns-clause-counted : goal.returns-clause-counted
unfolding transformed
returns-clause-counted c = rw (← c.resample.ensures, c.if-not-resample.false, ← c.split.ensures) c.project_full-moved.ensures.1

pub returns-clause-exact : goal.returns-clause-exact
returns-clause-exact c sheet =
    let s = c.args.coef.now in
    returns-clause-counted c
    ∙ clipped_exact (as_coef s) s.w s.h _ s.covers.eights (omega (arith, c.requires.1, own_fits s.own s.w s.h s.covers)) sheet
