-- `tgv_rows::pixels` meets its contract: pixel by pixel is kind by kind (`by_kinds`).
use mathlib.Core.Path.{◌≡◌}
use Prim.Native.Nat.{◌-◌, ◌≤◌}
use lib.ListN.{length}
use Rattle.fold.specs.Fold.{upto}
use Rattle.float.specs.Names.{val}
use Rattle.tgv_rows.specs.TgvRows.{tgv_turn, row_in}
use Rattle.tgv_rows.proofs.pixels.Given as goal

abbrev pub invariant-loop-x : goal.invariant-loop-x
invariant-loop-x l =
    (l.x ≤ l.w) × (length l.gradient ≡ length l.initial.gradient)
    × (l.gradient ≡ upto (λ z. upto (λ c. tgv_turn l.row.g.w l.row.g.h l.row.alpha (λ k. val l.row.norm.now k) (row_in l.row.g.w l.row.xx.now) (row_in l.row.g.w l.row.xy.now) (row_in l.row.g.w l.row.yy.now) l.row.y c z) l.row.g.n) l.x l.initial.gradient)

abbrev pub decreases-loop-x : goal.decreases-loop-x
decreases-loop-x l = l.w - l.x
