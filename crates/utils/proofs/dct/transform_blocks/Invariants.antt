use mathlib.Core.Path.{◌≡◌}
use Prim.Native.Nat.{◌≤◌, ◌-◌}
use lib.ListN.{length}
use Rattle.fold.specs.Fold.{upto}
use Rattle.utils.specs.Blocks.{on_block}
use Rattle.utils.specs.Dct.{transform8x8}
use Rattle.utils.proofs.dct.transform_blocks.Given as goal

abbrev pub invariant-loop-i : goal.invariant-loop-i
invariant-loop-i l = (l.i ≤ l.i-end) × (length l.xs ≡ length l.initial.xs) × (l.xs ≡ upto (on_block (transform8x8 l.transform)) l.i l.initial.xs)

abbrev pub decreases-loop-i : goal.decreases-loop-i
decreases-loop-i l = l.i-end - l.i
