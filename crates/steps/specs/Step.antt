-- scalar/step.rs, `solver_step`: the weight of the data term, and job 4, move.
use Rattle.std.specs.Prelude.{ℕ, cond, List, length, slice_set, Float}
use Rattle.std.specs.Float.Ieee.{neg, ne}
use Rattle.fold.specs.Fold.{upto}
use Rattle.fold.specs.Part.{part, splice}
use Rattle.float.specs.Ops.{mul_add, fused, root}
use Rattle.float.specs.Names.{◌⊗◌, ◌⊘◌, f0, f2, f255, val}

-- pweight * 2 * 255 * √2
unfoldable pub data_alpha : Float → Float
data_alpha w = w ⊗ f2 ⊗ f255 ⊗ root f2

-- √ of the fold |acc, x| mul_add!(x, x, acc), by rising index
abbrev pub square_at : List Float → ℕ → Float → Float
square_at g k acc = mul_add (val g k) (val g k) acc

unfoldable pub gradient_norm : List Float → Float
gradient_norm g = root (upto (square_at g) (length g) f0)

-- plane[k] = step_size.mul_add(-(gradient[k] / norm), plane[k]), if the norm isn't 0
abbrev pub move_at : Float → Float → List Float → ℕ → List Float → List Float
move_at step-size norm g k plane = slice_set plane k (fused step-size (neg (val g k ⊘ norm)) (val plane k))

unfoldable pub moved_by : Float → Float → List Float → List Float → List Float
moved_by step-size norm g plane = cond (ne norm f0) (upto (move_at step-size norm g) (length plane) plane) plane

unfoldable pub moved : Float → List Float → List Float → List Float
moved step-size g plane = moved_by step-size (gradient_norm g) g plane

-- the same of the parts from a to e
abbrev pub moved_part : Float → ℕ → ℕ → List Float → List Float → List Float
moved_part step-size a e g plane = splice plane a e (moved step-size (part g a e) (part plane a e))
