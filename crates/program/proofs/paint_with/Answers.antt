-- Kept: the check finds none of these alone (scripts/answers tries each).
-- `program::paint_with` meets its contract: finish is handed what it accepts, and the text of its picture has room.
use Rattle.output.proofs.Fronts.{said_ok}
use Rattle.program.proofs.Printing.{finishes, paints, paint_fits}
use Rattle.program.proofs.paint_with.Goals as goal

pub unwrap-requires : goal.unwrap-requires
unwrap-requires c =
    let a = c.args in
    let p = c.requires in
    finishes a.rounding a.h p.0 a.planes.now p.1 a.rgb.now _ p.2 c.finish.result c.finish.ensures.made

pub unwrap-requires-2 : goal.unwrap-requires-2
unwrap-requires-2 c =
    let a = c.args in
    let p = c.requires in
    said_ok c.write_picture.ensures.answer (paint_fits a.rounding a.h p.0 a.planes.now p.1 a.rgb.now _ p.2 _ c.finish.ensures.made _ p.3)

pub returns : goal.returns
returns c =
    let a = c.args in
    let p = c.requires in
    paints a.rounding a.h p.0 a.planes.now p.1 a.rgb.now _ p.2 _ c.finish.ensures.made a.to.now _ (rw c.unwrap-2.ensures at c.write_picture.ensures.writes)
