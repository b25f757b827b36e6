use mathlib.Core.Path.{◌≡◌}
use Prim.Native.Nat.{◌-◌, ◌≤◌}
use lib.ListN.{length}
use Rattle.fold.specs.Fold.{upto}
use mathlib.Core.Path.{◌≡◌}
use Prim.Native.Nat.{◌-◌, ◌≤◌}
use Rattle.fold.specs.Fold.{upto}
use Rattle.float.specs.Names.{f0}
use Rattle.rows.specs.Rows.{Row}
use Rattle.tgv_rows.specs.TgvRows.{tgv_squares, row_in}
use Rattle.tgv_rows.proofs.norm_row.Given as goal

abbrev pub invariant-loop-c : goal.invariant-loop-c
invariant-loop-c l = (l.c ≤ l.n) × (length l.norm ≡ length l.initial.norm) × Row l.w l.norm (λ x. upto (tgv_squares (row_in l.w l.xx) (row_in l.w l.xy) (row_in l.w l.yy) x) l.c f0)

abbrev pub decreases-loop-c : goal.decreases-loop-c
decreases-loop-c l = l.n - l.c
