use Rattle.std.proofs.Common.{◌≤◌, ◌-◌, length}
use Rattle.words.proofs.running.count_lines.Given as goal

abbrev pub invariant-loop-n : goal.invariant-loop-n
invariant-loop-n g l = (l.at ≤ l.to) × (l.to ≤ length l.text) × goal.F-IsAlwaysCallable g l.same

abbrev pub decreases-loop-n : goal.decreases-loop-n
decreases-loop-n g l = l.to - l.at
