-- `levels_fault`: the pairs passed have no fault.
use mathlib.Core.Path.{◌≡◌}
use lib.ListN.{length, drop}
use Rattle.start.specs.Coef.{pairs}
use Rattle.calls.specs.Calls.{first, pair_faults, levels_fault}
use Rattle.record.proofs.scans.levels_fault.Given as goal

abbrev pub invariant-loop-low : goal.invariant-loop-low
invariant-loop-low l = levels_fault (pairs l.lows l.highs) ≡ first (drop (length l.yielded) (pair_faults l.lows l.highs))
