use mathlib.Core.Path.{◌≡◌}
use Prim.Native.Nat.{◌-◌, ◌≤◌}
use lib.ListN.{length}
use Rattle.fold.specs.Fold.{upto}
use Rattle.float.specs.Names.{val}
use Rattle.tv_rows.specs.TvRows.{tv_kinds, kept_in}
use Rattle.tv_rows.proofs.spread_rows.Given as goal

abbrev pub invariant-loop-c : goal.invariant-loop-c
invariant-loop-c l =
    (l.c ≤ l.n) × (length l.gradient ≡ length l.initial.gradient) × (length l.q ≡ length l.initial.q)
    × (l.gradient ≡ upto (tv_kinds l.row.g.w l.row.g.h l.row.alpha (λ x. val l.row.norm.now x) (kept_in l.row.g.w l.row.g.h l.row.across.now l.row.y) (kept_in l.row.g.w l.row.g.h l.row.down.now l.row.y) l.row.y) l.c l.initial.gradient)

abbrev pub decreases-loop-c : goal.decreases-loop-c
decreases-loop-c l = l.n - l.c
