use mathlib.Core.Path.{◌≡◌}
use Prim.Native.Nat.{◌*◌}
use Rattle.fold.specs.Fold.{upto}
use Rattle.rows.specs.Rows.{hit_in}
use Rattle.rows.proofs.put.Given as goal

abbrev pub invariant-loop-k : goal.invariant-loop-k
invariant-loop-k l = l.gradient ≡ upto (hit_in l.alpha l.norm l.q) (l.k * 8) l.initial.gradient
