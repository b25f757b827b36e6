-- Kept: the check finds none of these alone (scripts/answers tries each).
use Rattle.std.proofs.Common.{◌+◌, ◌*◌, arith, rules}
use Rattle.fold.specs.Fold.{upto}
use Rattle.fold.proofs.Grid.{row_end}
use Rattle.fold.proofs.Loops.{upto-call}
use Rattle.rows.proofs.Lent.{keep_whole}
use Rattle.tgv_rows.proofs.second_rows.Goals as goal

pub loop-c-init : goal.loop-c-init
unfolding upto
loop-c-init c = search rules

pub loop-c-preserved : goal.loop-c-preserved
loop-c-preserved c =
    let a = c.args in let p = c.requires in let s = c.loop-c in let h = c.loop-c-test.true in let b = s.c * a.g.w in let r = row_end s.c a.g.n a.g.w h in
    let v = s.invariant in (
      search rules,
      search rules,
      search rules,
      search rules,
      search rules,
      search rules,
      upto-call _ _ _ v.6 (keep_whole _ _ _ b (b + a.g.w) a.g.w (omega arith) (omega (arith, r)) (omega arith) c.left_row.ensures),
      upto-call _ _ _ v.7 (keep_whole _ _ _ b (b + a.g.w) a.g.w (omega arith) (omega (arith, r)) (omega arith) c.cross_row.ensures),
      upto-call _ _ _ v.8 (keep_whole _ _ _ b (b + a.g.w) a.g.w (omega arith) (omega (arith, r)) (omega arith) c.above_row.ensures),
    )
