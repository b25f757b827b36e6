use Prim.Native.Nat.{◌≤◌}
use mathlib.Core.Path.{◌≡◌}
use lib.ListN.{set}
use Rattle.fold.specs.Fold.{upto}
use Rattle.float.specs.Names.{val}
use Rattle.float.specs.Ops.{fused}
use Rattle.fidelity.proofs.row.add_each.Given as goal

abbrev pub invariant-loop-j : goal.invariant-loop-j
invariant-loop-j l = (l.j ≤ 8) × (l.row ≡ upto (λ j t. set t j (fused l.alpha (val l.v j) (val t j))) l.j l.initial.row)
