use Rattle.lanes.proofs.Words.{low_fits, low_lanes}
use Rattle.lanes.proofs.low.Goals as goal

pub overflow_cast-result : goal.overflow_cast-result
overflow_cast-result c = low_fits c.args.b c.fits-b.0 c.fits-b.1

pub returns-clause-lanes : goal.returns-clause-lanes
returns-clause-lanes c = low_lanes c.args.b c.fits-b.0 c.fits-b.1
