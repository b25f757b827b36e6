-- Kept: the check finds none of these alone (scripts/answers tries each).
-- `stitch::write::write` meets its contract.
use native.Mathlib.Omega.{arith}
use Rattle.std.proofs.Common.{rules}
use Rattle.copying.specs.Parts.{Put}
use Rattle.copying.proofs.PartLaws.{put_more}
use Rattle.stitch.specs.Bytes.{stitch_text}
use Rattle.stitch.proofs.WriteLaws.{stitch_long}
use Rattle.stitch.proofs.write.write.Goals as goal

pub write_open-blocks-requires : goal.write_open-blocks-requires
write_open-blocks-requires c = let a = c.args in omega (arith, stitch_long a.fit.left a.fit.right a.from.left.now a.from.right.now, c.new-to.ensures.at, c.requires)

pub write_pairs-requires : goal.write_pairs-requires
write_pairs-requires c =
    let a = c.args in
    let o = c.write_open-blocks.ensures in
    rw (o.left, o.right) (omega (arith, stitch_long a.fit.left a.fit.right a.from.left.now a.from.right.now, o.put.next, c.new-to.ensures.at, c.requires))

pub returns-clause-count : goal.returns-clause-count
returns-clause-count c =
    let o = c.write_open-blocks.ensures in
    omega (arith, stitch_long c.args.fit.left c.args.fit.right c.args.from.left.now c.args.from.right.now, o.put.next, (rw (o.left, o.right) at c.write_pairs.ensures).next, c.new-to.ensures.at)

pub returns-clause-bytes : goal.returns-clause-bytes
unfolding stitch_text
returns-clause-bytes c =
    let o = c.write_open-blocks.ensures in
    let w : Put c.new-to.result (stitch_text c.args.fit.left c.args.fit.right c.args.from.left.now c.args.from.right.now) c.write_pairs.new.to = put_more o.put (rw (o.left, o.right) at c.write_pairs.ensures) in
    search rules
