-- Kept: the check finds none of these alone (scripts/answers tries each).
use Rattle.fold.specs.Fold.{upto}
use Rattle.fold.proofs.Loops.{upto-call}
use borrow.Author.Rules.{rules}
use Rattle.tv_rows.proofs.difference_rows.Goals as goal

pub loop-c-init : goal.loop-c-init
unfolding upto
loop-c-init c = search rules

pub loop-c-preserved : goal.loop-c-preserved
loop-c-preserved c = (search rules, search rules, search rules, upto-call _ _ _ c.loop-c.invariant.3 c.across_row.ensures, upto-call _ _ _ c.loop-c.invariant.4 c.down_row.ensures)
