use mathlib.Core.Path.{◌≡◌}
use Prim.Native.Nat.{◌-◌, ◌≤◌}
use lib.ListN.{length}
use Rattle.fold.specs.Fold.{upto}
use Prim.Native.Nat.{◌*◌}
use Rattle.rows.specs.Rows.{store_from}
use Rattle.tgv_rows.specs.TgvRows.{xx_of, xy_of, yy_of}
use Rattle.tgv_rows.proofs.second_rows.Given as goal

abbrev pub invariant-loop-c : goal.invariant-loop-c
invariant-loop-c l = (l.c ≤ l.n) × (length l.xx ≡ length l.initial.xx) × (length l.xy ≡ length l.initial.xy) × (length l.yy ≡ length l.initial.yy) × (length l.s ≡ length l.initial.s) × (length l.t ≡ length l.initial.t) × (l.xx ≡ upto (λ k. upto (store_from (k * l.g.w) (xx_of l.g.w l.g.h l.across l.y k)) l.g.w) l.c l.initial.xx) × (l.xy ≡ upto (λ k. upto (store_from (k * l.g.w) (xy_of l.g.w l.g.h l.across l.down l.y k)) l.g.w) l.c l.initial.xy) × (l.yy ≡ upto (λ k. upto (store_from (k * l.g.w) (yy_of l.g.w l.g.h l.down l.y k)) l.g.w) l.c l.initial.yy)

abbrev pub decreases-loop-c : goal.decreases-loop-c
decreases-loop-c l = l.n - l.c
