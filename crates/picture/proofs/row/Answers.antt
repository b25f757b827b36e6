-- Kept: the check finds none of these alone (scripts/answers tries each).
-- `picture::row` meets its contract.
use Rattle.std.proofs.Common.{rules}
use Rattle.fold.proofs.Joins.{fill_none, fill_more}
use Rattle.picture.proofs.Pixels.{pixel_length}
use Rattle.picture.proofs.row.Goals as goal

pub loop-x-init : goal.loop-x-init
loop-x-init c = record { size = search rules; so_far = fill_none _ 3 (λ x. pixel_length _ _ _ _ _) _ }

pub loop-x-preserved : goal.loop-x-preserved
loop-x-preserved c = record {
  size = search rules;
  so_far = fill_more _ 3 (λ x. pixel_length _ _ _ _ _) _ _ c.loop-x.invariant.so_far (rw (← c.pixel-bytes.ensures, c.copy_from_slice.ensures.after));
}
