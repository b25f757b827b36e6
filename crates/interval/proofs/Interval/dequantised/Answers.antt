use borrow.Author.Rules.{rules}
use Rattle.interval.specs.Interval.{dequantised}
use Rattle.interval.proofs.HalfSum.{product_in, product_is_half}
use Rattle.interval.proofs.Interval.dequantised.Goals as goal

pub returns-clause-exact : goal.returns-clause-exact
unfolding dequantised
returns-clause-exact c o =
    let s = c.args.self in
    rw (c.mid.ensures.value) (search (rules, product_is_half s.low s.high s.quantiser o))

pub returns-clause-inside : goal.returns-clause-inside
unfolding dequantised
returns-clause-inside c o =
    let s = c.args.self in
    rw (c.mid.ensures.value) (search (rules, product_in s.low s.high s.quantiser o))
