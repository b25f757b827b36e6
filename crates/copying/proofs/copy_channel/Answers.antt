-- Kept: the check finds none of these alone (scripts/answers tries each).
-- `copying::copy_channel` meets its contract.
use Rattle.copying.proofs.PartLaws.{put_more}
use Rattle.copying.proofs.copy_channel.Goals as goal

pub returns-clause-put : goal.returns-clause-put
returns-clause-put c =
    let p = put_more c.refit-factors.ensures.put (put_more c.copy-left.ensures.put c.copy_rows.ensures.put) in
    rw (c.copy-left.ensures.rest, c.refit-factors.ensures.rest, c.skip-right.ensures) at p
