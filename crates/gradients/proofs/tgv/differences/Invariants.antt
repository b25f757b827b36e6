use Prim.Native.Nat.{◌-◌, ◌≤◌}
use mathlib.Core.Path.{◌≡◌}
use Rattle.fold.specs.Fold.{upto}
use Rattle.gradients.specs.Held.{live, flag}
use Rattle.gradients.specs.Tgv.{tgv_differences_at}
use Rattle.gradients.proofs.tgv.differences.Given as goal

abbrev pub invariant-loop-c : goal.invariant-loop-c
invariant-loop-c l = (l.c ≤ l.n) × (l.d ≡ upto (live (flag l.held) (tgv_differences_at l.g.w l.g.h l.across l.down l.y l.x)) l.c l.initial.d)

abbrev pub decreases-loop-c : goal.decreases-loop-c
decreases-loop-c l = l.n - l.c
