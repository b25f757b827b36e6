-- Kept: the check finds none of these alone (scripts/answers tries each).
-- `copying::refit` meets its contract.
use native.Mathlib.Omega.{arith}
use Rattle.copying.specs.Parts.{refitted}
use Rattle.copying.proofs.PartLaws.{put_more, refit_long}
use Rattle.copying.proofs.refit.Goals as goal

pub copy-old-requires : goal.copy-old-requires
copy-old-requires c = omega (arith, refit_long c.args.n c.args.text.now)

pub put_decimal-requires : goal.put_decimal-requires
put_decimal-requires c = omega (arith, refit_long c.args.n c.args.text.now)

pub put_byte-requires : goal.put_byte-requires
put_byte-requires c = omega (arith, refit_long c.args.n c.args.text.now)

pub returns-clause-put : goal.returns-clause-put
unfolding refitted
returns-clause-put c = put_more c.copy-old.ensures.put (put_more c.put_decimal.ensures c.put_byte.ensures)
