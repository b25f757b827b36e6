-- The model's jobs are the solver's: each job of document 01, "Jobs and positions", of a channel of the run.
use Rattle.std.specs.Prelude.{ℕ, ◌+◌, ◌*◌}
use Rattle.fold.specs.Part.{part}
use Rattle.steps.specs.declared.solve.Constants.{Constants}
use Rattle.steps.specs.Solve.{constants}
use Rattle.start.specs.Buffers.{Buffers}
use Rattle.start.specs.Coef.{Coef, coef}
use Rattle.work.specs.Work.{starting, pushing, data_job, blending, blend_totals, moving, projecting, clipping}
use Rattle.calls.specs.Run.{Sheet, Given, own, count, coefs, levels_before, levels_part, held}
use Rattle.calls.specs.Jobs.{Job, push, fidelity, move, project, Jobs}

-- channel c's coefficients: its own sides and factors, and its part of the levels and the tables
unfoldable pub coef_of : Given → ℕ → Coef
coef_of G c =
    let o = own G.sheet c in
    let at = levels_before G.sheet c in
    coef (record { width = o.width; height = o.height; horizontal = o.across; vertical = o.down })
    (levels_part G.levels at (at + coefs G.sheet c))
    (part G.tables (c * 64) (c * 64 + 64))

-- "all four follow from the sheet and the step's number", steps counted from 0
abbrev pub constants_of : Sheet → ℕ → Constants
constants_of S step = constants S.W S.H S.N S.smoothing step

-- a job of a channel that is not held; the model leaves the others as they are
abbrev pub work : Job → Given → ℕ → ℕ → Buffers → Buffers
work push G c step b = pushing (constants_of G.sheet step) b
work fidelity G c step b = data_job (coef_of G c) G.sheet.W G.sheet.H (own G.sheet c).data_weight b
work move G c step b = moving (constants_of G.sheet step) b
work project G c step b = projecting (coef_of G c) G.sheet.W G.sheet.H b

abbrev pub jobs : Jobs
jobs =
    record {
      start = λ G c. starting G.sheet.reorder (coef_of G c) G.sheet.W G.sheet.H;
      work = work;
      blending = λ G step B. blending G.sheet.W G.sheet.H (count G) (λ c. held G.sheet c step) (constants_of G.sheet step) B;
      totals =
          λ G step B.
          let t = blend_totals G.sheet.W G.sheet.H (count G) (λ c. held G.sheet c step) (constants_of G.sheet step) B in
          (t.tv, t.tgv);
      clip = λ G c b. clipping (coef_of G c) G.sheet.W G.sheet.H b;
    }
