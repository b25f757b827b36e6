-- Kept: the check finds none of these alone (scripts/answers tries each).
-- `picture::rows` meets its contract.
use Rattle.std.proofs.Common.{◌*◌, arith, rules}
use Rattle.fold.proofs.Grid.{row_end}
use Rattle.fold.proofs.Joins.{fill_none, fill_more}
use Rattle.picture.proofs.Pixels.{row_length}
use Rattle.picture.proofs.rows.Goals as goal

pub loop-y-init : goal.loop-y-init
loop-y-init c = record { size = search rules; so_far = fill_none _ _ (λ y. row_length _ _ _ _ _ _) _ }

pub loop-y-preserved : goal.loop-y-preserved
loop-y-preserved c =
    let b = row_end c.loop-y.y c.args.height (c.args.width * 3) (omega arith) in
    record {
      size = search rules;
      so_far = fill_more _ _ (λ y. row_length _ _ _ _ _ _) _ _ c.loop-y.invariant.so_far (rw (← c.row.ensures));
    }
