-- Kept: the check finds none of these alone (scripts/answers tries each).
-- `copying::Writer::put_digits`, which calls itself, meets its contract.
use mathlib.Core.Path.{sym}
use Rattle.copying.proofs.PartLaws.{put_as, put_more, digits_more}
use Rattle.copying.proofs.Writer.+put_digits.Goals as goal

pub returns : goal.returns
returns t c = put_as (sym (digits_more _ _ c.if-k-eq0.false c.if-n-lt10.false)) (put_more c.put_digits.ensures c.put_byte-2.ensures)
