use Rattle.lanes.proofs.Words.{high_fits, high_len, high_lanes}
use Rattle.lanes.proofs.high.Goals as goal

pub overflow_cast-result : goal.overflow_cast-result
overflow_cast-result c = high_fits c.args.b c.fits-b.0 c.fits-b.1

pub returns-clause-len : goal.returns-clause-len
returns-clause-len c = high_len c.args.b c.fits-b.0 c.fits-b.1

pub returns-clause-lanes : goal.returns-clause-lanes
returns-clause-lanes c = high_lanes c.args.b c.fits-b.0 c.fits-b.1
