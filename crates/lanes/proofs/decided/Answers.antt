use Rattle.lanes.proofs.Guards.{all_decided}
use Rattle.lanes.proofs.decided.Goals as goal

pub returns : goal.returns
returns c = all_decided c.args.b c.high-high.result c.low-low.result c.high-high.ensures.len c.low-low.ensures.len c.high-high.ensures.lanes c.low-low.ensures.lanes
