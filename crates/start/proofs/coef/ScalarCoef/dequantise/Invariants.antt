use Prim.Native.Nat.{◌≤◌}
use mathlib.Core.Path.{◌≡◌}
use Rattle.fold.specs.Fold.{upto}
use Rattle.start.specs.Coef.{dequantise_at}
use Rattle.start.specs.AsCoef.{scalar}
use Rattle.start.proofs.coef.ScalarCoef.dequantise.Given as goal

abbrev pub invariant-loop-j : goal.invariant-loop-j
invariant-loop-j l = (l.j ≤ 64) × (l.out ≡ upto (dequantise_at (scalar l.self).middle l.self.table.now l.i) l.j l.initial.out)
