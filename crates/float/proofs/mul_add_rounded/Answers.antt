-- `float::mul_add_rounded` meets its contract.
use Rattle.std.proofs.Common.{refl}
use lib.Ieee.{binary32}
use Rattle.float.proofs.ResultLaws.{add_is}
use Rattle.float.proofs.mul_add_rounded.Goals as goal

pub returns-clause-sum : goal.returns-clause-sum
returns-clause-sum c = add_is binary32 _ _ _ refl
