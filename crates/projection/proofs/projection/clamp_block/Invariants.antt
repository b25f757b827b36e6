use Rattle.std.proofs.Common.{◌≡◌, ◌+◌, ◌*◌, ◌≤◌}
use Rattle.fold.specs.Fold.{upto}
use Rattle.start.specs.AsCoef.{as_coef}
use Rattle.projection.specs.Projection.{clamp_at, clipped_at}
use Rattle.projection.proofs.projection.clamp_block.Given as goal

abbrev pub invariant-loop-y : goal.invariant-loop-y
invariant-loop-y l =
    (l.y ≤ 8) × (l.moved ≤ l.i * 64 + l.y * 8)
    × (l.x ≡ upto (λ y t. upto (λ j. clamp_at (as_coef l.coef).levels l.coef.table.now l.i (y * 8 + j)) 8 t) l.y l.initial.x)
    × (l.moved ≡ upto (λ y n. upto (λ j. clipped_at (as_coef l.coef).levels l.coef.table.now l.initial.x l.i (y * 8 + j)) 8 n) l.y l.initial.moved)
