use Prim.Native.Nat.{◌≤◌}
use mathlib.Core.Path.{◌≡◌}
use Rattle.fold.specs.Fold.{upto}
use Rattle.start.specs.AsCoef.{as_coef}
use Rattle.fidelity.specs.DctGradient.{gradient_block, gradient_line}
use Rattle.fidelity.proofs.dct_gradient.dct_gradient.Given as goal

abbrev pub invariant-loop-bx : goal.invariant-loop-bx
invariant-loop-bx l = (l.bx ≤ l.bx-end) × (l.gradient ≡ upto (gradient_block (as_coef l.coef) l.coef.w l.alpha l.cos l.by) l.bx l.initial.gradient)

abbrev pub invariant-loop-by : goal.invariant-loop-by
invariant-loop-by l = (l.by ≤ l.by-end) × (l.gradient ≡ upto (gradient_line (as_coef l.coef) l.coef.w l.alpha l.cos) l.by l.initial.gradient)
