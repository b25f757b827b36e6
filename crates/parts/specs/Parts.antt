-- What a job of channel c is handed, once the call has looked at everything: asked by the functions that do the jobs.
use Rattle.std.specs.Prelude.{ℕ, ◌*◌, ◌<◌, ◌≡◌, Bool, List, length, Float}
use Rattle.start.specs.Buffers.{Buffers}
use Rattle.start.specs.Coef.{Levels, Long}
use Rattle.fidelity.specs.DctGradient.{data_gradient}
use Rattle.projection.specs.Projection.{Box, clipped, project_onto_box, transformed}
use Rattle.projection.specs.Blown.{is_blown}
use Rattle.calls.specs.Run.{Given, own, area, coefs, levels_before}
use Rattle.calls.specs.Buffers.{part_of, put_part, put_channel}
use Rattle.demand.specs.Solver.{coef_of, jobs}
use Rattle.record.specs.declared.Run.{Run}
use Rattle.record.specs.Model.{Legal, sheet_of}

-- a legal record, a channel of it, and levels and tables of its lengths
pub record Fed (r : Run) (c : ℕ) (levels : Levels) (tables : List ℕ) : Type 0 where
  pub is-legal : Legal r
  pub below : c < r.count
  pub levels-long : Long levels (levels_before (sheet_of r) r.count)
  pub tables_long : length tables ≡ r.count * 64

-- a lent buffer of the record's length
abbrev pub Whole : Run → List Float → Type 0
Whole r xs = length xs ≡ r.count * (r.w * r.h)

-- all six of the record's length
abbrev pub SixWhole : Run → Buffers → Type 0
SixWhole r B = Whole r B.plane × Whole r B.prior × Whole r B.gradient × Whole r B.across × Whole r B.down × Whole r B.saved

-- the four buffers of project: channel c's part, and with that part replaced
abbrev pub part_box : ℕ → ℕ → Box → Box
part_box n c b = record { plane = part_of n c b.plane; across = part_of n c b.across; down = part_of n c b.down; saved = part_of n c b.saved }

abbrev pub put_box : ℕ → ℕ → Box → Box → Box
put_box n c b x =
    record {
      plane = put_part n c b.plane x.plane;
      across = put_part n c b.across x.across;
      down = put_part n c b.down x.down;
      saved = put_part n c b.saved x.saved;
    }

-- channel c's values after job 5
abbrev pub projected_box : Given → ℕ → Box → Box
projected_box G c b = project_onto_box (coef_of G c) G.sheet.W G.sheet.H (part_box (area G) c b)

-- job 5 on channel c's part
abbrev pub projected_part : Given → ℕ → Box → Box
projected_part G c b = put_box (area G) c b (projected_box G c b)

-- the condition of job 5: the mark that channel c's values then give
abbrev pub blown_part : Given → ℕ → Box → Bool
blown_part G c b = is_blown (coefs G.sheet c) (projected_box G c b).plane (projected_box G c b).saved

-- how many coefficients job 5 clips of channel c's part (M-104)
abbrev pub clipped_part : Given → ℕ → Box → ℕ
clipped_part G c b = clipped (coef_of G c) (transformed (coef_of G c) G.sheet.W G.sheet.H (part_box (area G) c b))

-- job 2 on channel c's part: its gradient from its saved coefficients
abbrev pub fitted_part : Given → ℕ → List Float → List Float → List Float
fitted_part G c gradient saved =
    put_part (area G) c gradient (data_gradient (coef_of G c) G.sheet.W G.sheet.H (own G.sheet c).data_weight (part_of (area G) c saved))

-- start of channel c: its part of each of the six is its start's
abbrev pub started_part : Given → ℕ → Buffers → Buffers
started_part G c B = put_channel (area G) c B (jobs.start G c)

-- levels and tables of the record's lengths, for every channel of a legal record
abbrev pub FedAll : Run → Levels → List ℕ → Type 0
FedAll r levels tables = (c : ℕ) → c < r.count → Fed r c levels tables
