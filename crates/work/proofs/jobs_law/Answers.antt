use Rattle.work.proofs.Laws.{clipping_most}
use Rattle.work.proofs.Kept.{lengths_kept, intervals_kept, held_left}
use Rattle.work.proofs.jobs_law.Goals as goal

pub returns-clause-lengths : goal.returns-clause-lengths
returns-clause-lengths c = lengths_kept

pub returns-clause-intervals : goal.returns-clause-intervals
returns-clause-intervals c = intervals_kept

pub returns-clause-held_left : goal.returns-clause-held_left
returns-clause-held_left c = held_left

pub returns-clause-few_clipped : goal.returns-clause-few_clipped
returns-clause-few_clipped c = clipping_most
