-- The jobs of document 01, "Jobs and positions", over the definitions of the Rust's files. A buffer that a job does not name is as it was.
use Rattle.std.specs.Prelude.{◌≡◌, ℕ, ◌%◌, ◌<◌, ◌≤◌, Bool, nat_abs, ◌≤ℤ◌, Float}
use Rattle.float.specs.Names.{val}
use Rattle.interval.specs.Interval.{InInterval}
use Rattle.steps.specs.declared.solve.Constants.{Constants}
use Rattle.steps.specs.Solve.{pushed}
use Rattle.steps.specs.Step.{moved}
use Rattle.gradients.specs.declared.Totals.{Totals}
use Rattle.gradients.specs.Blend.{blended, totals}
use Rattle.start.specs.declared.coef.Reorder.{Reorder}
use Rattle.start.specs.Buffers.{Buffers}
use Rattle.start.specs.Coef.{Coef, low_at, high_at, mid_at, px_count, quant_at}
use Rattle.start.specs.Auxiliary.{aux_init}
use Rattle.fidelity.specs.DctGradient.{data_gradient}
use Rattle.projection.specs.Projection.{Box, clipped, project_onto_box, transformed}

-- start, of a channel with the coefficients C, at full sides W and H, reordered as R says: "plane and prior are the upsampled start, saved coefficients are level × quantiser, other values 0"
abbrev pub starting : Reorder → Coef → ℕ → ℕ → Buffers
starting R C W H = aux_init R C W H

-- 1, push
unfoldable pub pushing : Constants → Buffers → Buffers
pushing k b =
    let s = pushed k.factor (record { plane = b.plane; prior = b.prior }) in
    record { plane = s.plane; prior = s.prior; gradient = b.gradient; across = b.across; down = b.down; saved = b.saved }

-- 2, data
unfoldable pub data_job : Coef → ℕ → ℕ → Float → Buffers → Buffers
data_job C W H weight b =
    let g = data_gradient C W H weight b.saved in
    record { plane = b.plane; prior = b.prior; gradient = g; across = b.across; down = b.down; saved = b.saved }

-- 3, blend, of the lent buffers, which hold those of all n channels; those that are held are left out (M-108)
unfoldable pub blending : ℕ → ℕ → ℕ → (ℕ → Bool) → Constants → Buffers → Buffers
blending W H n held k B =
    let t = blended W H n held k.second B.plane (record { gradient = B.gradient; across = B.across; down = B.down }) in
    record { plane = B.plane; prior = B.prior; gradient = t.gradient; across = t.across; down = t.down; saved = B.saved }

-- and the totals of both its gradients
unfoldable pub blend_totals : ℕ → ℕ → ℕ → (ℕ → Bool) → Constants → Buffers → Totals
blend_totals W H n held k B = totals W H n held k.second B.plane (record { gradient = B.gradient; across = B.across; down = B.down })

-- 4, move
unfoldable pub moving : Constants → Buffers → Buffers
moving k b =
    let p = moved k.step_size b.gradient b.plane in
    record { plane = p; prior = b.prior; gradient = b.gradient; across = b.across; down = b.down; saved = b.saved }

-- 5, project
abbrev pub box_of : Buffers → Box
box_of b = record { plane = b.plane; across = b.across; down = b.down; saved = b.saved }

unfoldable pub projecting : Coef → ℕ → ℕ → Buffers → Buffers
projecting C W H b =
    let y = project_onto_box C W H (box_of b) in
    record { plane = y.plane; prior = b.prior; gradient = b.gradient; across = y.across; down = y.down; saved = y.saved }

-- M-104: the number of coefficients that it moves, which are those whose transformed value lies outside its interval
abbrev pub clipping : Coef → ℕ → ℕ → Buffers → ℕ
clipping C W H b = clipped C (transformed C W H (box_of b))

-- ---- what the laws speak of

-- levels within ±2,047, the lowest not above the highest, of which start and data take the half sum; and quantisers up to 255
pub record Legal (C : Coef) : Type 0 where
  pub lows_ok : (k : ℕ) → nat_abs (low_at C.levels k) ≤ 2047
  pub highs_ok : (k : ℕ) → nat_abs (high_at C.levels k) ≤ 2047
  pub order : (k : ℕ) → low_at C.levels k ≤ℤ high_at C.levels k
  pub middle_is : (k : ℕ) → C.middle k ≡ mid_at C.levels k
  pub table-ok : (j : ℕ) → quant_at C.table j ≤ 255

-- saved coefficient k of a channel with the coefficients C is in the interval of its levels and quantiser; and so is every one
abbrev pub CoefIn : Coef → ℕ → Buffers → Type 0
CoefIn C k b = InInterval (low_at C.levels k) (high_at C.levels k) (quant_at C.table (k % 64)) (val b.saved k)

abbrev pub CoefsIn : Coef → Buffers → Type 0
CoefsIn C b = (k : ℕ) → k < px_count C.own → CoefIn C k b
