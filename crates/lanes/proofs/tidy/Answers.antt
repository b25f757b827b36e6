use Rattle.lanes.proofs.Words.{tidy_len, tidy_lanes}
use Rattle.lanes.proofs.tidy.Goals as goal

pub returns-clause-len : goal.returns-clause-len
returns-clause-len c = tidy_len c.args.b c.fits-b.0 c.fits-b.1 _ _

pub returns-clause-lanes : goal.returns-clause-lanes
returns-clause-lanes c = tidy_lanes c.args.b c.fits-b.0 c.fits-b.1 c.requires
