-- Kept: the check finds none of these alone (scripts/answers tries each).
-- `copying::copy_rows` meets its contract.
use mathlib.Core.Path.{ap, ◌∙◌, sym}
use native.Mathlib.Omega.{arith}
use native.Mathlib.Numerals.{add-one}
use lib.ListN.{length}
use Rattle.copying.specs.Parts.{up_to, past}
use Rattle.copying.proofs.PartLaws.{rows_room, rows_more, past_more, put_more, put_as}
use Rattle.copying.proofs.copy_rows.Goals as goal

pub copy-left-requires : goal.copy-left-requires
copy-left-requires c =
    omega (arith, rows_room c.loop-row.row c.args.n c.args.a c.args.b c.args.from.left.now c.args.from.right.now c.loop-row-test.true, ap (λ l. length (up_to 10 c.args.a l)) c.loop-row.invariant.left)

pub copy-right-requires : goal.copy-right-requires
copy-right-requires c =
    omega (arith, rows_room c.loop-row.row c.args.n c.args.a c.args.b c.args.from.left.now c.args.from.right.now c.loop-row-test.true, ap (λ l. length (up_to 10 c.args.a l)) c.loop-row.invariant.left, ap (λ l. length (up_to 10 c.args.b l)) c.loop-row.invariant.right)

pub loop-row-preserved : goal.loop-row-preserved
loop-row-preserved c =
    let w = c.loop-row.invariant in
    let a = c.args in
    let xs = a.from.left.now in
    let ys = a.from.right.now in
    let m = c.loop-row.row in
    let p = put_more w.put (put_more c.copy-left.ensures.put c.copy-right.ensures.put) in
    let q = rw (w.left, w.right) at p in
    record {
      left = rw add-one (c.copy-left.ensures.rest ∙ ap (past 10 a.a) w.left ∙ sym (past_more m a.a xs));
      right = rw add-one (c.copy-right.ensures.rest ∙ ap (past 10 a.b) w.right ∙ sym (past_more m a.b ys));
      put = rw add-one (put_as (sym (rows_more m a.a a.b xs ys)) q);
    }
