use Prim.Native.Nat.{◌-◌, ◌≤◌}
use lib.ListN.{length}
use mathlib.Core.Path.{◌≡◌}
use Rattle.fold.specs.Fold.{upto}
use Rattle.gradients.specs.Held.{flag}
use Rattle.gradients.specs.Tv.{tv_gradient_px, tv_gradient_row, tv_total_px, tv_total_row}
use Rattle.gradients.proofs.tv.tv_gradient.Given as goal

abbrev pub invariant-loop-x : goal.invariant-loop-x
invariant-loop-x l =
    (l.x ≤ l.w) × (length l.gradient ≡ length l.initial.gradient) × (length l.across ≡ length l.initial.across) × (length l.down ≡ length l.initial.down)
    × (record { gradient = l.gradient; across = l.across; down = l.down } ≡ upto (tv_gradient_px l.g.w l.g.h l.g.n (flag l.g.held) l.alpha l.plane l.y) l.x (record { gradient = l.initial.gradient; across = l.initial.across; down = l.initial.down }))
    × (l.tv ≡ upto (tv_total_px l.g.w l.g.h l.g.n (flag l.g.held) l.alpha l.plane l.y) l.x l.initial.tv)

abbrev pub decreases-loop-x : goal.decreases-loop-x
decreases-loop-x l = l.w - l.x

abbrev pub invariant-loop-y : goal.invariant-loop-y
invariant-loop-y l =
    (l.y ≤ l.h) × (length l.gradient ≡ length l.initial.gradient) × (length l.across ≡ length l.initial.across) × (length l.down ≡ length l.initial.down)
    × (record { gradient = l.gradient; across = l.across; down = l.down } ≡ upto (tv_gradient_row l.g.w l.g.h l.g.n (flag l.g.held) l.alpha l.plane) l.y (record { gradient = l.initial.gradient; across = l.initial.across; down = l.initial.down }))
    × (l.tv ≡ upto (tv_total_row l.g.w l.g.h l.g.n (flag l.g.held) l.alpha l.plane) l.y l.initial.tv)

abbrev pub decreases-loop-y : goal.decreases-loop-y
decreases-loop-y l = l.h - l.y
