use mathlib.Core.Path.{◌≡◌}
use Prim.Native.Nat.{◌≤◌}
use lib.Ieee.{Float}
use Rattle.fold.specs.Fold.{upto}
use Rattle.start.specs.Coef.{change_at, change_row}
use Rattle.start.proofs.coef.Sample.change.Given as goal

abbrev pub invariant-loop-sx : goal.invariant-loop-sx
invariant-loop-sx g l =
    (l.sx ≤ l.sx-end)
    × ((f : Float → Float) → ((x y : Float) → goal.F-post g l.f x y → y ≡ f x) → l.plane ≡ upto (change_at f l.self.coef.now.own l.self.coef.now.w l.self.cy l.self.cx l.sy) l.sx l.initial.plane)

abbrev pub invariant-loop-sy : goal.invariant-loop-sy
invariant-loop-sy g l =
    (l.sy ≤ l.sy-end)
    × ((f : Float → Float) → ((x y : Float) → goal.F-post g l.f x y → y ≡ f x) → l.plane ≡ upto (change_row f l.self.coef.now.own l.self.coef.now.w l.self.cy l.self.cx) l.sy l.initial.plane)
