use Prim.Native.Nat.{◌-◌, ◌≤◌}
use lib.ListN.{length}
use mathlib.Core.Path.{◌≡◌}
use Rattle.fold.specs.Fold.{upto}
use Rattle.gradients.specs.Held.{live, flag}
use Rattle.gradients.specs.Tv.{tv_derivatives_at}
use Rattle.gradients.proofs.tv.derivatives.Given as goal

abbrev pub invariant-loop-c : goal.invariant-loop-c
invariant-loop-c l = (l.c ≤ l.n) × (length l.gradient ≡ length l.initial.gradient) × (l.gradient ≡ upto (live (flag l.held) (tv_derivatives_at l.p.g.w l.p.g.h l.p.alpha l.p.norm l.d l.p.y l.p.x)) l.c l.initial.gradient)

abbrev pub decreases-loop-c : goal.decreases-loop-c
decreases-loop-c l = l.n - l.c
