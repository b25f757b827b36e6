-- Kept: the check finds none of these alone (scripts/answers tries each).
use Rattle.std.proofs.Common.{◌≤◌, ◌+◌, ◌*◌, arith, length}
use Rattle.fold.proofs.Grid.{row_end}
use Rattle.tgv_rows.proofs.TgvRow.{sums_in, owns_in, besides_by}
use Rattle.tgv_rows.proofs.besides.Goals as goal

pub returns : goal.returns
returns c =
    let a = c.args in
    let r = a.row.now in
    let e = row_end a.c r.g.n r.g.w c.requires.0 in
    let hx : a.c * r.g.w + r.g.w ≤ length r.xx.now = omega (arith, e) in
    let hm : a.c * r.g.w + r.g.w ≤ length r.xy.now = omega (arith, e) in
    let hy : a.c * r.g.w + r.g.w ≤ length r.yy.now = omega (arith, e) in
    besides_by r.g.w r.g.h r.alpha r.norm.now r.xx.now r.xy.now r.yy.now r.y a.c _ _ _ a.gradient.now _ _ _
    (sums_in r.g.w r.g.h r.alpha r.norm.now r.xx.now r.xy.now r.yy.now r.y a.c _ (omega arith) r.xy.now r.xx.now hm hx c.sum_quotients.ensures)
    (owns_in r.g.w r.g.h r.alpha r.norm.now r.xx.now r.xy.now r.yy.now r.y a.c _ (omega arith) hx hm hy c.own_quotients.ensures)
    (sums_in r.g.w r.g.h r.alpha r.norm.now r.xx.now r.xy.now r.yy.now r.y a.c _ (omega arith) r.xy.now r.xx.now hm hx c.sum_quotients-2.ensures)
    c.right.ensures c.own.ensures c.left.ensures
