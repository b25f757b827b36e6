use mathlib.Core.Path.{◌≡◌}
use Prim.Native.Nat.{◌-◌, ◌≤◌}
use lib.ListN.{length}
use Rattle.fold.specs.Fold.{upto}
use Rattle.gradients.specs.Tgv.{tgv_gradient_row, tgv_total_row}
use Rattle.rows.specs.Rows.{none}
use Rattle.tgv_rows.proofs.tgv_gradient.Given as goal

abbrev pub invariant-loop-y : goal.invariant-loop-y
invariant-loop-y l =
    (l.y ≤ l.h) × (length l.gradient ≡ length l.initial.gradient) × (length l.xx ≡ 1536) × (length l.xy ≡ 1536) × (length l.yy ≡ 1536) × (length l.norm ≡ l.g.w) × (length l.q ≡ l.g.w)
    × (l.gradient ≡ upto (tgv_gradient_row l.g.w l.g.h l.g.n none l.part l.across l.down) l.y l.initial.gradient)
    × (l.tv2 ≡ upto (tgv_total_row l.g.w l.g.h l.g.n none l.part l.across l.down) l.y l.initial.tv2)

abbrev pub decreases-loop-y : goal.decreases-loop-y
decreases-loop-y l = l.h - l.y
