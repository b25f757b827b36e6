-- `archive::restore_all` meets its contract: `first` is the sum of the differences so far, and `out` has the levels passed. Assumes nothing.
use mathlib.Core.Path.{◌≡◌}
use mathlib.Core.Bool.{true}
use Prim.Native.Nat.{◌+◌, ◌-◌, ◌/◌, ◌≤◌}
use lib.IntN.{pos}
use lib.ListN.{length}
use Rattle.fold.proofs.Stores.{store_at}
use Rattle.fold.specs.Fold.{upto}
use Rattle.answers.specs.Tests.{level_ok}
use Rattle.archive.specs.Archive.{restored_at, chain}
use Rattle.archive.proofs.restore_all.Given as goal

abbrev pub invariant-loop-p : goal.invariant-loop-p
invariant-loop-p l =
    (l.p ≤ l.p-end) × (level_ok l.first ≡ true) × (l.first ≡ chain l.stored ((l.p + 63) / 64)) × (length l.out ≡ length l.stored)
    × (l.out ≡ upto (store_at (pos 0) (restored_at l.stored)) l.p l.initial.out)

abbrev pub decreases-loop-p : goal.decreases-loop-p
decreases-loop-p l = l.p-end - l.p
