-- `tv_rows::pixels` meets its contract: pixel by pixel is kind by kind (`tv-kinds`).
use mathlib.Core.Path.{◌≡◌}
use Prim.Native.Nat.{◌-◌, ◌≤◌}
use lib.ListN.{length}
use Rattle.fold.specs.Fold.{upto}
use Rattle.float.specs.Names.{val}
use Rattle.tv_rows.specs.TvRows.{tv_turn, kept_in}
use Rattle.tv_rows.proofs.pixels.Given as goal

abbrev pub invariant-loop-x : goal.invariant-loop-x
invariant-loop-x l =
    (l.x ≤ l.w) × (length l.gradient ≡ length l.initial.gradient)
    × (l.gradient ≡ upto (λ z. upto (λ c. tv_turn l.row.g.w l.row.g.h l.row.alpha (λ k. val l.row.norm.now k) (kept_in l.row.g.w l.row.g.h l.row.across.now l.row.y) (kept_in l.row.g.w l.row.g.h l.row.down.now l.row.y) l.row.y c z) l.row.g.n) l.x l.initial.gradient)

abbrev pub decreases-loop-x : goal.decreases-loop-x
decreases-loop-x l = l.w - l.x
