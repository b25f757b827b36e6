use Rattle.std.proofs.Common.{◌≡◌, ◌≤◌}
use Rattle.fold.specs.Fold.{upto}
use Rattle.projection.specs.Projection.{back_at, back_row}
use Rattle.projection.proofs.projection.back.Given as goal

abbrev pub invariant-loop-cx : goal.invariant-loop-cx
invariant-loop-cx l = (l.cx ≤ l.cx-end) × (l.plane ≡ upto (back_at l.coef.own l.coef.w l.down l.cy) l.cx l.initial.plane)

abbrev pub invariant-loop-cy : goal.invariant-loop-cy
invariant-loop-cy l = (l.cy ≤ l.cy-end) × (l.plane ≡ upto (back_row l.coef.own l.coef.w l.down) l.cy l.initial.plane)
