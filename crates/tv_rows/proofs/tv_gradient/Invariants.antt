use mathlib.Core.Path.{◌≡◌}
use Prim.Native.Nat.{◌-◌, ◌≤◌}
use lib.ListN.{length}
use Rattle.fold.specs.Fold.{upto}
use Rattle.gradients.specs.Tv.{tv_gradient_row, tv_total_row}
use Rattle.rows.specs.Rows.{none}
use Rattle.tv_rows.proofs.tv_gradient.Given as goal

abbrev pub invariant-loop-y : goal.invariant-loop-y
invariant-loop-y l =
    (l.y ≤ l.h) × (length l.gradient ≡ length l.initial.gradient) × (length l.across ≡ length l.initial.across) × (length l.down ≡ length l.initial.down) × (length l.norm ≡ l.g.w) × (length l.q ≡ l.g.w)
    × (record { gradient = l.gradient; across = l.across; down = l.down } ≡ upto (tv_gradient_row l.g.w l.g.h l.g.n none l.alpha l.plane) l.y (record { gradient = l.initial.gradient; across = l.initial.across; down = l.initial.down }))
    × (l.tv ≡ upto (tv_total_row l.g.w l.g.h l.g.n none l.alpha l.plane) l.y l.initial.tv)

abbrev pub decreases-loop-y : goal.decreases-loop-y
decreases-loop-y l = l.h - l.y
