-- Kept: the check finds none of these alone (scripts/answers tries each).
-- `output::put_head` meets its contract.
use Rattle.copying.proofs.PartLaws.{put_more}
use Rattle.output.proofs.put_head.Goals as goal

pub returns : goal.returns
returns c = put_more (put_more c.put_byte.ensures c.put_number.ensures) c.put_number-2.ensures
