use mathlib.Core.Path.{◌≡◌}
use Prim.Native.Nat.{◌≤◌}
use Rattle.fold.specs.Fold.{upto}
use Rattle.start.specs.Coef.{dequantise}
use Rattle.start.specs.AsCoef.{scalar}
use Rattle.start.proofs.coef.ScalarCoef.init_dct_target_into.Given as goal

abbrev pub invariant-loop-i : goal.invariant-loop-i
invariant-loop-i l = (l.i ≤ l.i-end) × (l.out ≡ upto (dequantise (scalar l.self).middle l.self.table.now) l.i l.initial.out)
