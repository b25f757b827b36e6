use Prim.Native.Nat.{◌≤◌}
use mathlib.Core.Path.{◌≡◌}
use lib.Ieee.{neg}
use lib.ListN.{set}
use Rattle.fold.specs.Fold.{upto}
use Rattle.float.specs.Names.{◌⊘◌, val}
use Rattle.float.specs.Ops.{fused}
use Rattle.steps.proofs.step.move_each.Given as goal

abbrev pub invariant-loop-j : goal.invariant-loop-j
invariant-loop-j l =
    (l.j ≤ 8)
    × (l.plane ≡ upto (λ j t. set t j (fused l.step_size (neg (val l.gradient j ⊘ l.norm)) (val t j))) l.j l.initial.plane)
