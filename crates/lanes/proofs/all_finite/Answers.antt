use Rattle.lanes.proofs.Guards.{guarded}
use Rattle.lanes.proofs.all_finite.Goals as goal

pub returns : goal.returns
returns c = guarded c.args.q c.args.g c.fits-q.0 c.fits-g.0
