use Rattle.std.proofs.Common.{◌≡◌, ◌≤◌}
use Rattle.fold.specs.Fold.{upto}
use Rattle.projection.specs.Projection.{split_at, split_row}
use Rattle.projection.proofs.projection.split.Given as goal

abbrev pub invariant-loop-cx : goal.invariant-loop-cx
invariant-loop-cx l = (l.cx ≤ l.cx-end) × (record { plane = l.plane; down = l.down } ≡ upto (split_at l.coef.own l.coef.w l.cy) l.cx (record { plane = l.initial.plane; down = l.initial.down }))

abbrev pub invariant-loop-cy : goal.invariant-loop-cy
invariant-loop-cy l = (l.cy ≤ l.cy-end) × (record { plane = l.plane; down = l.down } ≡ upto (split_row l.coef.own l.coef.w) l.cy (record { plane = l.initial.plane; down = l.initial.down }))
