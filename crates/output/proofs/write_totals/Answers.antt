-- `output::write_totals` meets its contract.
use Rattle.output.proofs.Sizes.{totals_adds}
use Rattle.output.proofs.write_totals.Goals as goal

pub returns-clause-writes : goal.returns-clause-writes
returns-clause-writes c = totals_adds _ _ _ c.room.ensures _ c.in_ok-totals_answer.was _ _ _ c.totals_answer.ensures c.put_totals.ensures
