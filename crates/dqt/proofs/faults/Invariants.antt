-- `dqt::faults` meets its contract: the tables passed have no fault, and the others are left. Assumes nothing.
use Rattle.std.proofs.Common.{◌≡◌, ℕ, ◌<◌, length, drop}
use Rattle.dqt.specs.Dqt.{fault, start}
use Rattle.dqt.proofs.faults.Given as goal

abbrev pub invariant-loop-table : goal.invariant-loop-table
invariant-loop-table l =
    (l.table-iterator.size ≡ 65) × (l.table-iterator.rest.now ≡ drop (start (length l.yielded)) l.s) × ((k : ℕ) → k < length l.yielded → fault l.s (start k) ≡ 0)
