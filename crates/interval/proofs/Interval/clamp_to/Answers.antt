use mathlib.Core.Path.{subst, sym}
use lib.Dec.{T}
use Rattle.interval.specs.Interval.{outside}
use Rattle.interval.proofs.Clamp.{clamp_in, outside_is}
use Rattle.interval.proofs.Interval.clamp_to.Goals as goal

pub returns-clause-exact : goal.returns-clause-exact
unfolding outside
returns-clause-exact c o =
    let s = c.args.self in
    rw (c.lowest-least.ensures, c.highest-most.ensures) (outside_is s.low s.high s.quantiser o c.args.x (subst T (sym c.well_formed.1.0.1) tt))

pub returns-clause-inside : goal.returns-clause-inside
returns-clause-inside c o number =
    let s = c.args.self in
    rw (c.clamp.ensures, c.lowest-least.ensures, c.highest-most.ensures)
    (clamp_in s.low s.high s.quantiser o.ordered o.low_most o.high_most o.most c.args.x number)
