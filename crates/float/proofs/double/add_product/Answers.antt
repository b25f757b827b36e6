-- `float::double::add_product` meets its contract: widening is exact, so the sum is that of the rounded product.
use Rattle.std.proofs.Common.{ap}
use lib.Ieee.{binary64, add}
use Rattle.float.proofs.ResultLaws.{add_is}
use Rattle.float.proofs.double.add_product.Goals as goal

pub returns-clause-sum : goal.returns-clause-sum
returns-clause-sum c = add_is binary64 _ _ _ (ap (add binary64 c.args.t) c.from.ensures)
