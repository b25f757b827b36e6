-- No refusal has the number 0.
use Rattle.std.specs.Prelude.{◌≤◌}
use native.Mathlib.Omega.{arith}
use Rattle.refusal.specs.declared.Refusal.{Refusal}
use Rattle.refusal.specs.declared.Refusal.TheVariants as refusal
use Rattle.refusal.specs.Refusal.{number_of}

pub number_of-positive : (r : Refusal) → 1 ≤ number_of r
number_of-positive refusal.Form = omega arith
number_of-positive refusal.Size = omega arith
number_of-positive refusal.Factor = omega arith
number_of-positive refusal.Table = omega arith
number_of-positive refusal.Level = omega arith
number_of-positive refusal.Weight = omega arith
number_of-positive refusal.Cut = omega arith
number_of-positive refusal.Length = omega arith
number_of-positive refusal.Turn = omega arith
number_of-positive refusal.Blown = omega arith
number_of-positive refusal.Done = omega arith
number_of-positive refusal.Channel = omega arith
number_of-positive refusal.Record = omega arith
number_of-positive refusal.Range = omega arith
number_of-positive refusal.Page = omega arith
number_of-positive refusal.Seam = omega arith
number_of-positive refusal.Hold = omega arith
number_of-positive refusal.Mark = omega arith
number_of-positive refusal.Segment = omega arith
number_of-positive refusal.Precision = omega arith
