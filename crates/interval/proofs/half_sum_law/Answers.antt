use Rattle.interval.proofs.HalfSum.{half_sum}
use Rattle.interval.proofs.half_sum_law.Goals as goal

pub returns : goal.returns
returns c = half_sum
