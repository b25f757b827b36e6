use Rattle.interval.proofs.Clamp.{in_test, test_in}
use Rattle.interval.proofs.HalfSum.{ends_apart}
use Rattle.interval.proofs.interval_law.Goals as goal

pub returns-clause-apart : goal.returns-clause-apart
returns-clause-apart c = ends_apart

pub returns-clause-test : goal.returns-clause-test
returns-clause-test c low high q s m e = (test_in low high q s m e, in_test low high q s m e)
