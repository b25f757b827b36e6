-- Kept: the check finds none of these alone (scripts/answers tries each).
-- `stitch::marks::write_marks` meets its contract.
use mathlib.Core.Path.{ap, ◌∙◌, sym}
use native.Mathlib.Omega.{arith}
use native.Mathlib.Numerals.{add-one}
use lib.ListN.{length}
use Rattle.copying.specs.Parts.{past}
use Rattle.copying.proofs.PartLaws.{put_more, put_as}
use Rattle.stitch.specs.Bytes.{moved_line}
use Rattle.stitch.proofs.WriteLaws.{lines_more, lines_past, lines_room}
use Rattle.stitch.proofs.marks.write_marks.Goals as goal

pub write_mark-rest-requires : goal.write_mark-rest-requires
write_mark-rest-requires c =
    let a = c.args in
    omega (arith, lines_room a.s c.loop-mark.mark a.n a.right.now c.loop-mark-test.true, ap (λ l. length (moved_line a.s l)) c.loop-mark.invariant.rest)

pub loop-mark-preserved : goal.loop-mark-preserved
loop-mark-preserved c =
    let w = c.loop-mark.invariant in
    let a = c.args in
    let m = c.loop-mark.mark in
    let p = put_more w.put c.write_mark-rest.ensures.put in
    record {
      rest = rw add-one (c.write_mark-rest.ensures.rest ∙ ap (past 10 1) w.rest ∙ sym (lines_past m a.right.now));
      put = rw add-one (put_as (sym (lines_more a.s m a.right.now)) (rw w.rest at p));
    }
