-- The example on push, by computation.
use Rattle.std.proofs.Common.{◌≡◌, false, [], ◌∷◌, negsuc, refl}
use lib.Count.{count_trailing_zeros}
use lib.Ieee.{fin, add, sub, mul, sum, round, units, odd, size, span, climb, of_bits, of_fields, neg, of_int}
use Rattle.float.specs.Ops.{mul_add}
use Rattle.float.specs.Names.{f1, float}
use Rattle.steps.specs.Solve.{pushed}

-- factor 0.5, plane 3, prior 1: push gives 4 and 3
pub push_example : pushed (fin false 1 (negsuc 0)) (record { plane = float 3 ∷ []; prior = f1 ∷ [] }) ≡ record { plane = float 4 ∷ []; prior = float 3 ∷ [] }
unfolding pushed mul_add add sub mul sum round units odd size span climb neg of_int of_bits of_fields count_trailing_zeros
push_example = refl
