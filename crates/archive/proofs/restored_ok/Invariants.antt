-- `archive::restored_ok` meets its contract: `first` is the sum of the differences so far and within its range, and so are the levels passed. Assumes nothing.
use mathlib.Core.Path.{◌≡◌}
use mathlib.Core.Bool.{true}
use Prim.Native.Nat.{◌+◌, ◌-◌, ◌/◌, ◌≤◌}
use lib.ListN.{take}
use Rattle.answers.specs.Tests.{all, level_ok}
use Rattle.archive.specs.Archive.{restored, chain}
use Rattle.archive.proofs.restored_ok.Given as goal

abbrev pub invariant-loop-p : goal.invariant-loop-p
invariant-loop-p l =
    (l.p ≤ l.p-end) × (level_ok l.first ≡ true) × (l.first ≡ chain l.stored ((l.p + 63) / 64))
    × (true ≡ all level_ok (take l.p (restored l.stored)))

abbrev pub decreases-loop-p : goal.decreases-loop-p
decreases-loop-p l = l.p-end - l.p
