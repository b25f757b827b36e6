use Rattle.std.proofs.Common.{◌≤◌, length}
use Rattle.words.proofs.running.count.Given as goal

abbrev pub invariant-loop : goal.invariant-loop
invariant-loop g l = (l.from ≤ l.to) × (l.to ≤ length l.text)
