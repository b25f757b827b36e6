-- Kept: the check finds none of these alone (scripts/answers tries each).
-- `stitch::marks::write_last` meets its contract.
use Rattle.copying.proofs.PartLaws.{put_more}
use Rattle.stitch.proofs.marks.write_last.Goals as goal

pub returns : goal.returns
returns c =
    let p = put_more c.copy-end.ensures.put (put_more c.write_marks.ensures c.copy.ensures.put) in
    rw (c.copy-end.ensures.rest, c.count.ensures, c.count-2.ensures) at p
