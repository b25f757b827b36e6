use Rattle.lanes.proofs.Floats.{no_nans, narrowing, narrow_lanes}
use Rattle.lanes.proofs.narrow.Goals as goal

pub float_from_bits-result : goal.float_from_bits-result
float_from_bits-result c = no_nans c.args.b c.tidy.result c.fits-b.1 c.fits-b.0 c.tidy.ensures.len c.requires c.tidy.ensures.lanes

pub float_to_float-result : goal.float_to_float-result
float_to_float-result c = narrowing c.args.b c.tidy.result c.fits-b.1 c.fits-b.0 c.tidy.ensures.len c.requires c.tidy.ensures.lanes

pub returns-clause-lanes : goal.returns-clause-lanes
returns-clause-lanes c = narrow_lanes c.args.b c.tidy.result c.fits-b.1 c.fits-b.0 c.tidy.ensures.len c.requires c.tidy.ensures.lanes
