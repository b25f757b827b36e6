use Prim.Native.Nat.{◌≤◌}
use mathlib.Core.Path.{◌≡◌}
use Rattle.fold.specs.Fold.{upto}
use Rattle.fidelity.specs.DctGradient.{cell_row}
use Rattle.fidelity.proofs.dct_gradient.add_block.Given as goal

abbrev pub invariant-loop-y : goal.invariant-loop-y
invariant-loop-y l = (l.y ≤ 8) × (l.gradient ≡ upto (cell_row l.coef.own l.coef.w l.alpha l.cosbs l.by l.bx) l.y l.initial.gradient)
