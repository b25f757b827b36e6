use Prim.Native.Nat.{◌+◌, ◌*◌, ◌≤◌}
use mathlib.Core.Path.{◌≡◌}
use Rattle.fold.specs.Fold.{upto}
use Rattle.start.specs.AsCoef.{as_coef}
use Rattle.fidelity.specs.DctGradient.{cosb_at}
use Rattle.fidelity.proofs.dct_gradient.difference_by_bytes.Given as goal

abbrev pub invariant-loop-y : goal.invariant-loop-y
invariant-loop-y l =
    (l.y ≤ 8) × (l.cosbs ≡ upto (λ y t. upto (λ j. cosb_at (as_coef l.coef).middle l.coef.table.now l.i (y * 8 + j)) 8 t) l.y l.initial.cosbs)
