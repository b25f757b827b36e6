-- `places::stitched_law` meets its contract.
use Rattle.places.proofs.OutputLaws.{stitched}
use Rattle.places.proofs.stitched_law.Goals as goal

pub returns : goal.returns
returns c = stitched
