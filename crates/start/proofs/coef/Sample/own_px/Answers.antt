-- Kept: the check finds none of these alone (scripts/answers tries each).
use native.Mathlib.Omega.{arith}
use Rattle.start.proofs.Cover.{own_place}
use Rattle.start.proofs.coef.Sample.own_px.Goals as goal

pub overflow_mul-result : goal.overflow_mul-result
overflow_mul-result c = let s = c.args.self.now in omega (arith, own_place _ _ _ s.coef.now.covers _ _ s.within.0 s.within.1)

pub overflow_add-result : goal.overflow_add-result
overflow_add-result c = let s = c.args.self.now in omega (arith, own_place _ _ _ s.coef.now.covers _ _ s.within.0 s.within.1)
