-- `output::write_picture` meets its contract.
use Rattle.output.proofs.Sizes.{picture_adds}
use Rattle.output.proofs.write_picture.Goals as goal

pub returns-clause-writes : goal.returns-clause-writes
returns-clause-writes c = picture_adds _ _ _ c.room.ensures _ c.in_ok-picture_answer.was _ _ _ c.picture_answer.ensures c.put_picture.ensures
