-- `float::midpoint` meets its contract: the clause `once` follows from the clause `is` on either way out.
use Rattle.std.proofs.Common.{arith}
use Rattle.float.proofs.Fields.{not_finite}
use Rattle.float.proofs.Values.{midpoint_left, midpoint_right, midpoint_value}
use Rattle.float.proofs.ResultLaws.{midpoint_is}
use Rattle.float.proofs.midpoint.Goals as goal

pub returns-then-not-is_finite-clause-once : goal.returns-then-not-is_finite-clause-once
returns-then-not-is_finite-clause-once c = midpoint_is c.args.a c.args.b _ (grind (arith, midpoint_left, midpoint_right, not_finite))

pub returns-clause-once : goal.returns-clause-once
returns-clause-once c = midpoint_is c.args.a c.args.b _ (grind (arith, midpoint_value))
