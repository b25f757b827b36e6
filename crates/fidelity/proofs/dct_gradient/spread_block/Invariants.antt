use Prim.Native.Nat.{◌≤◌}
use mathlib.Core.Path.{◌≡◌}
use Rattle.fold.specs.Fold.{upto}
use Rattle.fidelity.specs.DctGradient.{cell_at, cell_row}
use Rattle.fidelity.proofs.dct_gradient.spread_block.Given as goal

abbrev pub invariant-loop-x : goal.invariant-loop-x
invariant-loop-x l = (l.x ≤ 8) × (l.gradient ≡ upto (cell_at l.coef.own l.coef.w l.alpha l.cosbs l.by l.bx l.y) l.x l.initial.gradient)

abbrev pub invariant-loop-y : goal.invariant-loop-y
invariant-loop-y l = (l.y ≤ 8) × (l.gradient ≡ upto (cell_row l.coef.own l.coef.w l.alpha l.cosbs l.by l.bx) l.y l.initial.gradient)
