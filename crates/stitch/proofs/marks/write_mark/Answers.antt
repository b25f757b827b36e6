-- Kept: the check finds none of these alone (scripts/answers tries each).
-- `stitch::marks::write_mark` meets its contract.
use mathlib.Core.Path.{ap}
use native.Mathlib.Omega.{arith}
use lib.ListN.{length}
use Rattle.digits.specs.Written.{decimal}
use Rattle.copying.proofs.PartLaws.{put_more}
use Rattle.stitch.specs.Bytes.{moved_line}
use Rattle.stitch.proofs.WriteLaws.{line_long}
use Rattle.stitch.proofs.marks.write_mark.Goals as goal

pub copy-requires : goal.copy-requires
copy-requires c = omega (arith, line_long c.args.s c.args.right.now)

pub put_decimal-requires : goal.put_decimal-requires
put_decimal-requires c =
    let e = rw c.mark_at.ensures at c.moved_column-column.ensures in
    omega (arith, line_long c.args.s c.args.right.now, ap (λ n. length (decimal n)) e)

pub put_byte-requires : goal.put_byte-requires
put_byte-requires c =
    let e = rw c.mark_at.ensures at c.moved_column-column.ensures in
    omega (arith, line_long c.args.s c.args.right.now, ap (λ n. length (decimal n)) e)

pub returns-clause-put : goal.returns-clause-put
unfolding moved_line
returns-clause-put c =
    let p = put_more c.copy.ensures.put (put_more c.put_decimal.ensures c.put_byte.ensures) in
    rw (c.moved_column-column.ensures, c.mark_at.ensures) at p
