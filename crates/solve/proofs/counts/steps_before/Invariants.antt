-- `steps_before`: the sum so far is that of the channels passed.
use mathlib.Core.Path.{◌≡◌}
use Prim.Native.Nat.{◌-◌, ◌*◌, ◌≤◌}
use Rattle.solve.specs.Solve.{steps_before}
use Rattle.solve.proofs.counts.steps_before.Given as goal

abbrev pub invariant-loop-k : goal.invariant-loop-k
invariant-loop-k l = (l.k ≤ l.c) × (l.sum ≡ steps_before l.s l.k) × (l.sum ≤ l.k * 4294967295)

abbrev pub decreases-loop-k : goal.decreases-loop-k
decreases-loop-k l = l.c - l.k
