-- Kept: the check finds none of these alone (scripts/answers tries each).
-- `replaced`: channel c at the place p.
use native.Mathlib.Omega.{arith}
use Rattle.record.proofs.Placed.{placed_at}
use Rattle.record.proofs.Sizes.{count_3}
use Rattle.record.proofs.legal.Turn.replaced.Goals as goal

pub bounds-next-self : goal.bounds-next-self
bounds-next-self c = omega (arith, count_3 c.args.self.legal.run c.args.self.legal.holds)

pub returns : goal.returns
returns c = λ p e. placed_at c.args.self.legal.run c.args.self.c p c.args.self.below e
