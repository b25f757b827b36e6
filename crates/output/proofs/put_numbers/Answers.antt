-- Kept: the check finds none of these alone (scripts/answers tries each).
-- `output::put_numbers` meets its contract.
use Rattle.copying.proofs.PartLaws.{put_more}
use Rattle.output.proofs.put_numbers.Goals as goal

pub returns : goal.returns
returns c = put_more c.put_head.ensures c.put_byte.ensures
