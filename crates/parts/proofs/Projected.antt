-- Channel c's part of the four buffers after project: what the condition of job 5 looks at.
use mathlib.Core.Path.{◌≡◌, ◌∙◌}
use Prim.Native.Nat.{ℕ, ◌+◌, ◌*◌, ◌≤◌, ◌<◌}
use mathlib.Core.List.{List}
use Rattle.fold.specs.Part.{part, splice}
use Rattle.start.specs.Coef.{Coef, Levels}
use Rattle.projection.specs.Projection.{Box, clipped, project_onto_box, transformed}
use Rattle.projection.specs.Blown.{is_blown}
use Rattle.projection.proofs.Lengths.{BoxLong, projected_long}
use Rattle.projection.proofs.Writes.{clipped_most}
use Rattle.calls.specs.Run.{Given, count, area, coefs}
use Rattle.calls.specs.Buffers.{part_of}
use Rattle.calls.proofs.Parts.{length_part, length-put, part_put_same}
use Rattle.demand.specs.Solver.{coef_of}
use Rattle.record.specs.declared.Run.{Run}
use Rattle.record.specs.Model.{given_of}
use Rattle.parts.specs.Parts.{part_box, projected_box, projected_part, blown_part, clipped_part}

-- project clips no more coefficients than the channel has
pub clipped_small : (G : Given) (c : ℕ) (b : Box) → clipped_part G c b ≤ coefs G.sheet c
unfolding coef_of
clipped_small G c b = clipped_most (coef_of G c) (transformed (coef_of G c) G.sheet.W G.sheet.H (part_box (area G) c b))

-- the parts put together as the code does
module _ (r : Run) (c : ℕ) (levels : Levels) (tables : List ℕ) (b : Box) where
  pub part_projected : {from to : ℕ} → from ≡ c * (r.w * r.h) → to ≡ c * (r.w * r.h) + r.w * r.h
      → {C : Coef} {w h : ℕ} → (C ≡ coef_of (given_of r levels tables) c) × (w ≡ r.w) × (h ≡ r.h)
      → {x : Box} → x ≡ project_onto_box C w h (record { plane = part b.plane from to; across = part b.across from to; down = part b.down from to; saved = part b.saved from to })
      → record {
        plane = splice b.plane from to x.plane;
        across = splice b.across from to x.across;
        down = splice b.down from to x.down;
        saved = splice b.saved from to x.saved;
      }
      ≡ projected_part (given_of r levels tables) c b
  part_projected f t k e =
      λ i.
      let x : Box = (e ∙ (λ j. project_onto_box (k.0 j) (k.1 j) (k.2 j) (record { plane = part b.plane (f j) (t j); across = part b.across (f j) (t j); down = part b.down (f j) (t j); saved = part b.saved (f j) (t j) }))) i in
      record {
        plane = splice b.plane (f i) (t i) x.plane;
        across = splice b.across (f i) (t i) x.across;
        down = splice b.down (f i) (t i) x.down;
        saved = splice b.saved (f i) (t i) x.saved;
      }

  pub part_clipped : {from to : ℕ} → from ≡ c * (r.w * r.h) → to ≡ c * (r.w * r.h) + r.w * r.h
      → {C : Coef} {w h : ℕ} → (C ≡ coef_of (given_of r levels tables) c) × (w ≡ r.w) × (h ≡ r.h)
      → clipped C (transformed C w h (record { plane = part b.plane from to; across = part b.across from to; down = part b.down from to; saved = part b.saved from to }))
      ≡ clipped_part (given_of r levels tables) c b
  part_clipped f t k =
      λ i. clipped (k.0 i) (transformed (k.0 i) (k.1 i) (k.2 i) (record { plane = part b.plane (f i) (t i); across = part b.across (f i) (t i); down = part b.down (f i) (t i); saved = part b.saved (f i) (t i) }))

module _ (G : Given) (c : ℕ) (below : c < count G) (b : Box) (long : BoxLong (count G * area G) b) where
  parts_long : BoxLong (area G) (part_box (area G) c b)
  parts_long =
      record {
        plane_long = length_part (area G) c (count G) b.plane long.plane_long below;
        across_long = length_part (area G) c (count G) b.across long.across_long below;
        down_long = length_part (area G) c (count G) b.down long.down_long below;
        saved_long = length_part (area G) c (count G) b.saved long.saved_long below;
      }

  pub project_blown : is_blown (coefs G.sheet c) (part_of (area G) c (projected_part G c b).plane) (part_of (area G) c (projected_part G c b).saved)
      ≡ blown_part G c b
  project_blown =
      let x = projected_box G c b in
      let l = projected_long (coef_of G c) G.sheet.W G.sheet.H (area G) (part_box (area G) c b) parts_long in
      λ i.
      is_blown (coefs G.sheet c) (part_put_same (area G) c (count G) b.plane long.plane_long below x.plane l.plane_long i)
      (part_put_same (area G) c (count G) b.saved long.saved_long below x.saved l.saved_long i)

  pub project_long : BoxLong (count G * area G) (projected_part G c b)
  project_long =
      let x = projected_box G c b in
      let l = projected_long (coef_of G c) G.sheet.W G.sheet.H (area G) (part_box (area G) c b) parts_long in
      record {
        plane_long = length-put (area G) c (count G) b.plane long.plane_long below x.plane l.plane_long ∙ long.plane_long;
        across_long = length-put (area G) c (count G) b.across long.across_long below x.across l.across_long ∙ long.across_long;
        down_long = length-put (area G) c (count G) b.down long.down_long below x.down l.down_long ∙ long.down_long;
        saved_long = length-put (area G) c (count G) b.saved long.saved_long below x.saved l.saved_long ∙ long.saved_long;
      }
