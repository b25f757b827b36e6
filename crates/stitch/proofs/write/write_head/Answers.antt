-- Kept: the check finds none of these alone (scripts/answers tries each).
-- `stitch::write::write_head` meets its contract.
use Rattle.copying.proofs.PartLaws.{put_more}
use Rattle.stitch.proofs.write.write_head.Goals as goal

pub returns-clause-put : goal.returns-clause-put
returns-clause-put c =
    let p = put_more c.refit-after_sides.ensures.put (put_more c.refit-after_picture.ensures.put c.copy.ensures.put) in
    rw (c.refit-after_picture.ensures.rest, c.refit-after_sides.ensures.rest) at p
