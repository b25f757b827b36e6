use Prim.Native.Nat.{◌-◌, ◌≤◌}
use lib.ListN.{length}
use mathlib.Core.Path.{◌≡◌}
use Rattle.fold.specs.Fold.{upto}
use Rattle.gradients.specs.Held.{live, flag}
use Rattle.gradients.specs.Tv.{forward_of, store_at}
use Rattle.gradients.proofs.tv.store.Given as goal

abbrev pub invariant-loop-c : goal.invariant-loop-c
invariant-loop-c l =
    (l.c ≤ l.n) × (length l.across ≡ length l.initial.across) × (length l.down ≡ length l.initial.down)
    × (l.across ≡ upto (live (flag l.held) (store_at l.g.w l.g.h (λ c. (forward_of l.d c).g_x) l.y l.x)) l.c l.initial.across)
    × (l.down ≡ upto (live (flag l.held) (store_at l.g.w l.g.h (λ c. (forward_of l.d c).g_y) l.y l.x)) l.c l.initial.down)

abbrev pub decreases-loop-c : goal.decreases-loop-c
decreases-loop-c l = l.n - l.c
