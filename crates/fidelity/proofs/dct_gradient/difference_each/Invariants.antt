use Prim.Native.Nat.{◌≤◌}
use mathlib.Core.Path.{◌≡◌}
use Rattle.fold.specs.Fold.{upto}
use Rattle.start.specs.AsCoef.{as_coef}
use Rattle.fidelity.specs.DctGradient.{cosb_at}
use Rattle.fidelity.proofs.dct_gradient.difference_each.Given as goal

abbrev pub invariant-loop-j : goal.invariant-loop-j
invariant-loop-j l = (l.j ≤ 64) × (l.cosbs ≡ upto (cosb_at (as_coef l.coef).middle l.coef.table.now l.i) l.j l.initial.cosbs)
