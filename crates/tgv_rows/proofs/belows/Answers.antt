-- Kept: the check finds none of these alone (scripts/answers tries each).
use Rattle.std.proofs.Common.{◌≤◌, ◌+◌, ◌*◌, arith, length}
use Rattle.fold.proofs.Grid.{row_end}
use Rattle.tgv_rows.proofs.TgvRow.{sums_in, negs_in, belows_by}
use Rattle.tgv_rows.proofs.belows.Goals as goal

pub returns : goal.returns
returns c =
    let a = c.args in
    let r = a.row.now in
    let e = row_end a.c r.g.n r.g.w c.requires.0 in
    let hm : a.c * r.g.w + r.g.w ≤ length r.xy.now = omega (arith, e) in
    let hy : a.c * r.g.w + r.g.w ≤ length r.yy.now = omega (arith, e) in
    belows_by r.g.w r.g.h r.alpha r.norm.now r.xx.now r.xy.now r.yy.now r.y a.c _ _ a.gradient.now _ _
    (sums_in r.g.w r.g.h r.alpha r.norm.now r.xx.now r.xy.now r.yy.now r.y a.c _ (omega arith) r.yy.now r.xy.now hy hm c.sum_quotients.ensures)
    (negs_in r.g.w r.g.h r.alpha r.norm.now r.xx.now r.xy.now r.yy.now r.y a.c _ (omega arith) r.xy.now hm c.neg_quotients.ensures)
    c.below.ensures c.below_left.ensures
