use borrow.Author.Rules.{rules}
use Prim.Native.Nat.{◌≤◌}
use lib.IntN.{nat_abs}
use Rattle.interval.specs.Interval.{mid}
use Rattle.interval.proofs.Ends.{half_bits}
use Rattle.interval.proofs.HalfSum.{mid_equal, mid_is_half}
use Rattle.interval.proofs.Interval.mid.Goals as goal

pub returns-clause-value : goal.returns-clause-value
unfolding mid
returns-clause-value c = rw half_bits (search rules)

pub returns-clause-exact : goal.returns-clause-exact
unfolding mid
returns-clause-exact c =
    let s = c.args.self in
    let low : nat_abs s.low ≤ 32768 = search rules in
    let high : nat_abs s.high ≤ 32768 = search rules in
    rw half_bits (search (rules, mid_is_half s.low s.high low high))

pub returns-clause-equal : goal.returns-clause-equal
unfolding mid
returns-clause-equal c same =
    let s = c.args.self in
    let low : nat_abs s.low ≤ 32768 = search rules in
    rw half_bits (search (rules, mid_equal s.low low))
