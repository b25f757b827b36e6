-- An equal pair of levels is the level itself. Assumes nothing.
use native.Mathlib.Omega.{arith}
use Rattle.interval.proofs.HalfSum.{mid_equal}
use Rattle.start.specs.Coef.{EqualLevels, level_at, pairs}

pub equal_levels : EqualLevels
equal_levels o levels table ok =
    λ i. record { own = o; levels = pairs levels levels; middle = λ k. mid_equal (level_at levels k) (omega (arith, ok k)) i; table = table }
