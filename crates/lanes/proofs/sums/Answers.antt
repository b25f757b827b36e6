use Rattle.lanes.proofs.Floats.{widens_one, widens, sum_lanes}
use Rattle.lanes.proofs.sums.Goals as goal

pub float_to_float-result : goal.float_to_float-result
float_to_float-result c = widens_one c.args.alpha c.type_inv.alpha c.requires.factor

pub float_to_float-result-2 : goal.float_to_float-result-2
float_to_float-result-2 c = widens c.args.q c.fits-q.0 c.fits-q.1 c.requires.factors

pub float_to_float-result-3 : goal.float_to_float-result-3
float_to_float-result-3 c = widens c.args.g c.fits-g.0 c.fits-g.1 c.requires.summands

pub returns-clause-lanes : goal.returns-clause-lanes
returns-clause-lanes c = sum_lanes c.args.alpha c.args.q c.args.g c.fits-q.0 c.fits-g.0
