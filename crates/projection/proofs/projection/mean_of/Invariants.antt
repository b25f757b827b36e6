use Rattle.std.proofs.Common.{◌≡◌, ◌≤◌}
use Rattle.fold.specs.Fold.{upto}
use Rattle.projection.specs.Projection.{sum_at, sum_row}
use Rattle.projection.proofs.projection.mean_of.Given as goal

abbrev pub invariant-loop-sx : goal.invariant-loop-sx
invariant-loop-sx l = (l.sx ≤ l.sx-end) × (l.mean ≡ upto (sum_at l.sample.coef.now.own l.sample.coef.now.w l.plane l.sample.cy l.sample.cx l.sy) l.sx l.initial.mean)

abbrev pub invariant-loop-sy : goal.invariant-loop-sy
invariant-loop-sy l = (l.sy ≤ l.sy-end) × (l.mean ≡ upto (sum_row l.sample.coef.now.own l.sample.coef.now.w l.plane l.sample.cy l.sample.cx) l.sy l.initial.mean)
