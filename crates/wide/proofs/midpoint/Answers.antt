-- `wide::midpoint` meets its contract: std's method is `midpoint`, which is the exact half sum rounded once.
use Rattle.std.proofs.Common.{arith}
use Rattle.float.proofs.MidpointStd.{midpoint_std}
use Rattle.float.proofs.ResultLaws.{midpoint_is}
use Rattle.wide.proofs.midpoint.Goals as goal

pub returns-clause-once : goal.returns-clause-once
returns-clause-once c = midpoint_is c.args.a c.args.b _ (grind (arith, midpoint_std))
