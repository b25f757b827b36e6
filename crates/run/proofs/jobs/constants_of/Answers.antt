-- Kept: the check finds none of these alone (scripts/answers tries each).
-- `constants_of`: the step is the position's fifth.
use Rattle.record.proofs.Sizes.{facts}
use Rattle.run.proofs.jobs.constants_of.Goals as goal

pub step_constants-requires : goal.step_constants-requires
step_constants-requires c = ((facts c.args.turn.legal.run c.args.turn.legal.holds).W-512, (facts c.args.turn.legal.run c.args.turn.legal.holds).H-512)
