use mathlib.Core.Path.{◌≡◌}
use Prim.Native.Nat.{◌≤◌, ◌-◌}
use lib.ListN.{length}
use Rattle.fold.specs.Fold.{upto}
use Rattle.utils.specs.Auxiliary.{upsample_at, upsample_row}
use Rattle.utils.proofs.auxiliary.upsample_pixels.Given as goal

abbrev pub invariant-loop-x : goal.invariant-loop-x
invariant-loop-x l =
    (l.x ≤ l.maxw) × (length l.out ≡ length l.initial.out) × (l.out ≡ upto (upsample_at l.image l.w l.h l.horizontal l.vertical l.maxw l.y) l.x l.initial.out)

abbrev pub decreases-loop-x : goal.decreases-loop-x
decreases-loop-x l = l.maxw - l.x

abbrev pub invariant-loop-y : goal.invariant-loop-y
invariant-loop-y l =
    (l.y ≤ l.maxh) × (length l.out ≡ length l.initial.out) × (l.out ≡ upto (upsample_row l.image l.w l.h l.horizontal l.vertical l.maxw) l.y l.initial.out)

abbrev pub decreases-loop-y : goal.decreases-loop-y
decreases-loop-y l = l.maxh - l.y
