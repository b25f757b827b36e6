use Rattle.lanes.proofs.Floats.{numbers}
use Rattle.lanes.proofs.patterns.Goals as goal

pub float_to_bits-result : goal.float_to_bits-result
float_to_bits-result c = numbers c.args.s c.fits-s.0 c.requires
