use Rattle.std.proofs.Common.{◌≡◌, ◌≤◌, ◌-◌, length, take}
use Rattle.fold.proofs.copy.Given as goal

abbrev pub invariant-loop-k : goal.invariant-loop-k
invariant-loop-k g l = (l.k ≤ l.k-end) × (length l.to ≡ length l.initial.to) × (take l.k l.to ≡ take l.k l.from)

abbrev pub decreases-loop-k : goal.decreases-loop-k
decreases-loop-k g l = l.k-end - l.k
