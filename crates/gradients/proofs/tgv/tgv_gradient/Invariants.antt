use Prim.Native.Nat.{◌-◌, ◌≤◌}
use lib.ListN.{length}
use mathlib.Core.Path.{◌≡◌}
use Rattle.fold.specs.Fold.{upto}
use Rattle.gradients.specs.Held.{flag}
use Rattle.gradients.specs.Tgv.{tgv_gradient_px, tgv_gradient_row, tgv_total_px, tgv_total_row}
use Rattle.gradients.proofs.tgv.tgv_gradient.Given as goal

abbrev pub invariant-loop-x : goal.invariant-loop-x
invariant-loop-x l =
    (l.x ≤ l.w) × (length l.gradient ≡ length l.initial.gradient) × (l.gradient ≡ upto (tgv_gradient_px l.g.w l.g.h l.g.n (flag l.g.held) l.alpha_over_root l.across l.down l.y) l.x l.initial.gradient)
    × (l.tv2 ≡ upto (tgv_total_px l.g.w l.g.h l.g.n (flag l.g.held) l.alpha_over_root l.across l.down l.y) l.x l.initial.tv2)

abbrev pub decreases-loop-x : goal.decreases-loop-x
decreases-loop-x l = l.w - l.x

abbrev pub invariant-loop-y : goal.invariant-loop-y
invariant-loop-y l =
    (l.y ≤ l.h) × (length l.gradient ≡ length l.initial.gradient) × (l.gradient ≡ upto (tgv_gradient_row l.g.w l.g.h l.g.n (flag l.g.held) l.alpha_over_root l.across l.down) l.y l.initial.gradient)
    × (l.tv2 ≡ upto (tgv_total_row l.g.w l.g.h l.g.n (flag l.g.held) l.alpha_over_root l.across l.down) l.y l.initial.tv2)

abbrev pub decreases-loop-y : goal.decreases-loop-y
decreases-loop-y l = l.h - l.y
