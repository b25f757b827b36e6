-- What a caller may test of its own declarations: the bytes of the run's record as a C struct.
use Rattle.std.specs.Prelude.{ℕ, ◌+◌, ◌*◌, ◌/◌, Bool, List, [], ◌∷◌, Float, length}
use Rattle.record.specs.declared.Channel.{Channel}
use Rattle.record.specs.Model.{no_channel}
use Rattle.smoother.specs.declared.LentRun.{LentRun}

-- C's layout of these fields: four bytes for a u32 or an f32, one for a bool, and what follows it, a field or the struct's end, at a multiple of four
abbrev pub struct_bytes : List ℕ → List Float → List Bool → ℕ
struct_bytes numbers floats bools = (length numbers * 4 + length floats * 4 + length bools + 3) / 4 * 4

abbrev pub channel_bytes : Channel → ℕ
channel_bytes x = struct_bytes (x.width ∷ x.height ∷ x.across ∷ x.down ∷ x.held ∷ x.position ∷ x.clipped ∷ []) (x.weight ∷ []) (x.mark ∷ [])

-- the record's own fields, and three channels
abbrev pub run_bytes : LentRun → ℕ
run_bytes r = struct_bytes (r.w ∷ r.h ∷ r.n ∷ r.reorder ∷ r.count ∷ []) (r.smoothing ∷ []) [] + 3 * channel_bytes no_channel
