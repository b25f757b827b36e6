-- Kept: the check finds none of these alone (scripts/answers tries each).
-- `project`: the parts that are lent on are the channel's, and so are those that are looked at afterwards; the number clipped fits.
use mathlib.Core.Path.{ap, ◌∙◌}
use Prim.Native.Nat.{◌*◌}
use native.Mathlib.Omega.{arith}
use Rattle.projection.specs.Projection.{Box}
use Rattle.projection.specs.Blown.{is_blown}
use Rattle.calls.specs.Run.{coefs}
use Rattle.calls.specs.Buffers.{part_of}
use Rattle.record.specs.Lent.{levels_in}
use Rattle.record.specs.Model.{sheet_of}
use Rattle.record.proofs.Sizes.{area_small, coefs_fit}
use Rattle.parts.specs.Handed.{given_in}
use Rattle.parts.proofs.Projected.{part_projected, part_clipped, clipped_small, project_blown}
use Rattle.parts.proofs.Handed.project.Goals as goal

-- the number is small: no more than the channel's coefficients
pub overflow_cast-result : goal.overflow_cast-result
overflow_cast-result c =
    let a = c.args in
    let h = a.self.now in
    let r = h.turn.legal.run in
    let b : Box = record { plane = a.plane.now; across = a.across.now; down = a.down.now; saved = a.saved.now } in
    record {
      fits = omega (
        arith,
        c.project_onto_box-clipped.ensures.counted ∙ part_clipped r h.turn.c (levels_in h.given) h.given.tables.now b c.span-s.ensures.0 c.span-s.ensures.1 c.coef.ensures,
        clipped_small (given_in h) h.turn.c b,
        coefs_fit r h.turn.legal.holds h.turn.c h.turn.below,
        area_small r h.turn.legal.holds,
      );
    }

pub returns : goal.returns
returns c =
    let a = c.args in
    let h = a.self.now in
    let r = h.turn.legal.run in
    let b : Box = record { plane = a.plane.now; across = a.across.now; down = a.down.now; saved = a.saved.now } in
    let e = part_projected r h.turn.c (levels_in h.given) h.given.tables.now b c.span-s.ensures.0 c.span-s.ensures.1 c.coef.ensures c.project_onto_box-clipped.ensures.boxed in (
      e,
      c.blown_part.ensures
          ∙ ap (λ (b : Box). is_blown (coefs (sheet_of r) h.turn.c) (part_of (r.w * r.h) h.turn.c b.plane) (part_of (r.w * r.h) h.turn.c b.saved)) e
          ∙ project_blown (given_in h) h.turn.c h.turn.below b (record { plane_long = c.requires.0; across_long = c.requires.1; down_long = c.requires.2; saved_long = c.requires.3 }),
      c.project_onto_box-clipped.ensures.counted ∙ part_clipped r h.turn.c (levels_in h.given) h.given.tables.now b c.span-s.ensures.0 c.span-s.ensures.1 c.coef.ensures,
    )
