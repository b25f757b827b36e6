use mathlib.Core.Path.{◌≡◌}
use Prim.Native.Nat.{◌-◌, ◌≤◌}
use lib.ListN.{length}
use Rattle.fold.specs.Fold.{upto}
use Rattle.float.specs.Names.{val}
use Rattle.tgv_rows.specs.TgvRows.{tgv_turn, row_in}
use Rattle.tgv_rows.proofs.pixel.Given as goal

abbrev pub invariant-loop-c : goal.invariant-loop-c
invariant-loop-c l =
    (l.c ≤ l.n) × (length l.gradient ≡ length l.initial.gradient)
    × (l.gradient ≡ upto (λ d. tgv_turn l.row.g.w l.row.g.h l.row.alpha (λ z. val l.row.norm.now z) (row_in l.row.g.w l.row.xx.now) (row_in l.row.g.w l.row.xy.now) (row_in l.row.g.w l.row.yy.now) l.row.y d l.x) l.c l.initial.gradient)

abbrev pub decreases-loop-c : goal.decreases-loop-c
decreases-loop-c l = l.n - l.c
