use Rattle.std.proofs.Common.{◌≡◌, ◌*◌, ◌≤◌, false, take}
use Rattle.projection.specs.Blown.{any_bad}
use Rattle.projection.proofs.blown.any_bad.Given as goal

abbrev pub invariant-loop-k : goal.invariant-loop-k
invariant-loop-k l = (l.k ≤ l.n) × (any_bad (take (l.k * 8) l.xs) ≡ false)
