use mathlib.Core.Path.{◌≡◌}
use Prim.Native.Nat.{◌≤◌}
use lib.ListN.{length}
use Rattle.fold.specs.Fold.{upto}
use Rattle.start.proofs.Held.{hold, put, take_unit}
use Rattle.start.proofs.Units.{power}
use Rattle.start.proofs.coef.ScalarCoef.reorder_each.Given as goal

abbrev pub invariant-loop-y : goal.invariant-loop-y
invariant-loop-y l =
    (l.y ≤ 8) × (length l.held ≡ length l.initial.held) × (l.held ≡ upto (put l.self.own.width l.power l.image l.i) l.y l.initial.held)

abbrev pub invariant-loop-i : goal.invariant-loop-i
invariant-loop-i l =
    (l.i ≤ l.i-end) × (l.power ≡ power l.self.own.width l.i) × (length l.held ≡ length l.initial.held) × (l.held ≡ upto (hold l.self.own.width l.image) l.i l.initial.held)

abbrev pub invariant-loop-u : goal.invariant-loop-u
invariant-loop-u l =
    (l.u ≤ l.u-end) × (length l.image ≡ length l.initial.image) × (l.image ≡ upto (take_unit l.self.own.width l.power l.held) l.u l.initial.image)
