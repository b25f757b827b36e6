use Rattle.std.proofs.Common.{◌≡◌, ◌*◌, ◌≤◌}
use Rattle.fold.specs.Fold.{upto}
use Rattle.start.specs.AsCoef.{as_coef}
use Rattle.projection.specs.Projection.{clamp_block, clipped_block}
use Rattle.projection.proofs.projection.clamped.Given as goal

abbrev pub invariant-loop-i : goal.invariant-loop-i
invariant-loop-i l =
    (l.i ≤ l.n) × (l.moved ≤ l.i * 64) × (l.x ≡ upto (clamp_block (as_coef l.coef).levels l.coef.table.now) l.i l.initial.x) × (l.moved ≡ upto (clipped_block (as_coef l.coef).levels l.coef.table.now l.initial.x) l.i 0)
