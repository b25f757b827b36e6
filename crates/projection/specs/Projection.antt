-- projection.rs: the projection of each block onto its coefficients' intervals.
use Rattle.std.specs.Prelude.{ℕ, ◌+◌, ◌*◌, ◌%◌, ◌<◌, Bool, cond, not, ◌||◌, List, ◌==◌, slice_set, Float}
use Rattle.fold.specs.Fold.{upto}
use Rattle.float.specs.Names.{◌⊕◌, ◌⊖◌, ◌⊘◌, f0, float, val}
use Rattle.utils.specs.Blocks.{from_blocks, on_block, to_blocks}
use Rattle.utils.specs.Dct.{dct8x8, idct8x8}
use Rattle.interval.specs.Interval.{OfSheet, clamp_to, lies_outside, outside}
use Rattle.start.specs.declared.coef.Own.{Own}
use Rattle.start.specs.Coef.{Coef, block_w, block_h, block_count, px_count, Levels, low_at, high_at, quant_at, spot, change}

-- what project works on: plane (fdata), across (pixel_diff.x), down (pixel_diff.y) and saved (cos)
pub record Box : Type 0 where
  pub plane : List Float
  pub across : List Float
  pub down : List Float
  pub saved : List Float

-- own sides that are not the full sides, whatever the factors
abbrev pub resample : Own → ℕ → ℕ → Bool
resample o W H = not (o.width == W) || not (o.height == H)

-- ---- downsample and keep the difference

-- the sum of the places of (cx, cy), for each sx, for each sy, and their mean
abbrev pub sum_at : Own → ℕ → List Float → ℕ → ℕ → ℕ → ℕ → Float → Float
sum_at o W plane cy cx sy sx t = t ⊕ val plane (spot o W cy cx sy sx)

abbrev pub sum_row : Own → ℕ → List Float → ℕ → ℕ → ℕ → Float → Float
sum_row o W plane cy cx sy t = upto (sum_at o W plane cy cx sy) o.horizontal t

unfoldable pub mean_of : Own → ℕ → List Float → ℕ → ℕ → Float
mean_of o W plane cy cx = upto (sum_row o W plane cy cx) o.vertical f0 ⊘ float (o.horizontal * o.vertical)

-- fdata[spot] -= mean, and fdata[spot] += mean
abbrev pub less : Own → ℕ → Float → ℕ → ℕ → List Float → List Float
less o W mean cy cx plane = change (λ x. x ⊖ mean) o W cy cx plane

abbrev pub more : Own → ℕ → Float → ℕ → ℕ → List Float → List Float
more o W mean cy cx plane = change (λ x. x ⊕ mean) o W cy cx plane

-- plane and the means, which go to `down`
pub record Split : Type 0 where
  pub plane : List Float
  pub down : List Float

unfoldable pub split_at : Own → ℕ → ℕ → ℕ → Split → Split
split_at o W cy cx s =
    let mean = mean_of o W s.plane cy cx in
    record { plane = less o W mean cy cx s.plane; down = slice_set s.down (cy * o.width + cx) mean }

abbrev pub split_row : Own → ℕ → ℕ → Split → Split
split_row o W cy s = upto (split_at o W cy) o.width s

unfoldable pub split : Own → ℕ → Split → Split
split o W s = upto (split_row o W) o.height s

-- ---- transform, clamp, and keep a copy

-- place j of block i: min = (level - 0.5) * quantiser, max = (level + 0.5) * quantiser, of the low and the high level
unfoldable pub clamp_at : Levels → List ℕ → ℕ → ℕ → List Float → List Float
clamp_at levels table i j x =
    let k = i * 64 + j in
    slice_set x k (clamp_to (low_at levels k) (high_at levels k) (quant_at table j) (val x k))

unfoldable pub clamp_block : Levels → List ℕ → ℕ → List Float → List Float
clamp_block levels table i x = upto (clamp_at levels table i) 64 x

-- the blocks' coefficients, clamped
unfoldable pub clamped : Coef → List Float → List Float
clamped C x = upto (clamp_block C.levels C.table) (block_count C.own) (upto (on_block dct8x8) (block_count C.own) x)

-- cos = pixel_diff.x.clone(), of its first n values: what stands after them stays
abbrev pub keep_at : List Float → ℕ → List Float → List Float
keep_at x k saved = slice_set saved k (val x k)

unfoldable pub keep : ℕ → List Float → List Float → List Float
keep n x saved = upto (keep_at x) n saved

-- the coefficients of the blocks in x, kept in saved, and then the blocks' new values
pub record Boxed : Type 0 where
  pub across : List Float
  pub saved : List Float

unfoldable pub onto_box : Coef → Boxed → Boxed
onto_box C b =
    let x = clamped C b.across in
    record { across = upto (on_block idct8x8) (block_count C.own) x; saved = keep (px_count C.own) x b.saved }

-- ---- add back the difference

abbrev pub back_at : Own → ℕ → List Float → ℕ → ℕ → List Float → List Float
back_at o W down cy cx plane = more o W (val down (cy * o.width + cx)) cy cx plane

abbrev pub back_row : Own → ℕ → List Float → ℕ → List Float → List Float
back_row o W down cy plane = upto (back_at o W down cy) o.width plane

unfoldable pub back : Own → ℕ → List Float → List Float → List Float
back o W down plane = upto (back_row o W down) o.height plane

-- ---- the whole

-- own sides that are the full sides: the blocks of the plane itself; down is not touched
unfoldable pub project_full : Coef → Box → Box
project_full C b =
    let o = C.own in
    let y = onto_box C (record { across = to_blocks o.width (block_w o) (block_h o) b.plane b.across; saved = b.saved }) in
    record {
      plane = from_blocks o.width (block_w o) (block_h o) y.across b.plane;
      across = y.across;
      down = b.down;
      saved = y.saved;
    }

-- otherwise: the blocks of the means, which stand in down, and the difference added back
unfoldable pub project_means : Coef → ℕ → Box → Box
project_means C W b =
    let o = C.own in
    let s = split o W (record { plane = b.plane; down = b.down }) in
    let y = onto_box C (record { across = to_blocks o.width (block_w o) (block_h o) s.down b.across; saved = b.saved }) in
    let new = from_blocks o.width (block_w o) (block_h o) y.across s.down in
    record { plane = back o W new s.plane; across = y.across; down = new; saved = y.saved }

-- project_onto_box
unfoldable pub project_onto_box : Coef → ℕ → ℕ → Box → Box
project_onto_box C W H b = cond (resample C.own W H) (project_means C W b) (project_full C b)

-- the coefficients before they are clamped: what project transforms the own plane into
unfoldable pub transformed : Coef → ℕ → ℕ → Box → List Float
transformed C W H b =
    let o = C.own in
    let own = cond (resample o W H) (split o W (record { plane = b.plane; down = b.down })).down b.plane in
    upto (on_block dct8x8) (block_count o) (to_blocks o.width (block_w o) (block_h o) own b.across)

-- ---- M-104: how many of them were clipped

-- one more, if so
abbrev pub tally : Bool → ℕ → ℕ
tally more n = cond more (n + 1) n

-- place k, if its value in x lies outside its interval
abbrev pub count_at : Coef → List Float → ℕ → ℕ → ℕ
count_at C x k n = tally (outside (low_at C.levels k) (high_at C.levels k) (quant_at C.table (k % 64)) (val x k)) n

-- the number of the places k < w × h whose value in x lies outside its interval
unfoldable pub clipped : Coef → List Float → ℕ
clipped C x = upto (count_at C x) (px_count C.own) 0

-- the same by the exact intervals: place k, if its value in x lies outside its own
abbrev pub exactly_at : Coef → List Float → ℕ → ℕ → ℕ
exactly_at C x k n = tally (lies_outside (low_at C.levels k) (high_at C.levels k) (quant_at C.table (k % 64)) (val x k)) n

-- how many of the w × h block places hold a value of x that lies outside its exact interval
unfoldable pub clipped_exactly : Coef → List Float → ℕ
clipped_exactly C x = upto (exactly_at C x) (px_count C.own) 0

-- levels and quantisers are those of a sheet, at each of the w × h places
abbrev pub FromSheet : Coef → Type 0
FromSheet C = (k : ℕ) → k < px_count C.own → OfSheet (low_at C.levels k) (high_at C.levels k) (quant_at C.table (k % 64))

-- the number block by block, on from n: place j of block i
abbrev pub clipped_at : Levels → List ℕ → List Float → ℕ → ℕ → ℕ → ℕ
clipped_at levels table x i j n =
    let k = i * 64 + j in
    tally (outside (low_at levels k) (high_at levels k) (quant_at table j) (val x k)) n

unfoldable pub clipped_block : Levels → List ℕ → List Float → ℕ → ℕ → ℕ
clipped_block levels table x i n = upto (clipped_at levels table x i) 64 n
