-- `places::either_order_law` meets its contract.
use Rattle.places.proofs.ThreeTextLaws.{either_order}
use Rattle.places.proofs.either_order_law.Goals as goal

pub returns : goal.returns
returns c = λ u v w uv vw. (either_order u v w uv vw).same
