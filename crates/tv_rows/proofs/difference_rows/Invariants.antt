use mathlib.Core.Path.{◌≡◌}
use Prim.Native.Nat.{◌-◌, ◌≤◌}
use lib.ListN.{length}
use Rattle.fold.specs.Fold.{upto}
use Rattle.rows.specs.Rows.{keep_row}
use Rattle.tv_rows.specs.TvRows.{across_of, down_of}
use Rattle.tv_rows.proofs.difference_rows.Given as goal

abbrev pub invariant-loop-c : goal.invariant-loop-c
invariant-loop-c l = (l.c ≤ l.n) × (length l.across ≡ length l.initial.across) × (length l.down ≡ length l.initial.down) × (l.across ≡ upto (λ k. upto (keep_row l.g.w l.g.h (across_of l.g.w l.g.h l.plane l.y k) l.y k) l.g.w) l.c l.initial.across) × (l.down ≡ upto (λ k. upto (keep_row l.g.w l.g.h (down_of l.g.w l.g.h l.plane l.y k) l.y k) l.g.w) l.c l.initial.down)

abbrev pub decreases-loop-c : goal.decreases-loop-c
decreases-loop-c l = l.n - l.c
