-- Kept: the check finds none of these alone (scripts/answers tries each).
-- `copying::Writer::put_decimal` meets its contract.
use Rattle.digits.specs.Written.{decimal}
use Rattle.copying.proofs.Writer.put_decimal.Goals as goal

pub put_digits-requires : goal.put_digits-requires
unfolding decimal
put_digits-requires c = c.requires

pub returns : goal.returns
unfolding decimal
returns c = c.put_digits.ensures
