use mathlib.Core.Path.{sym, subst, ◌∙◌}
use lib.Dec.{T}
use lib.Ieee.{binary32, add}
use Rattle.float.proofs.ResultLaws.{fused_is}
use Rattle.wide.proofs.One.{is_one}
use Rattle.lanes.proofs.Vectors.{len}
use Rattle.lanes.proofs.Floats.{finite_of, one_lanes, sum_numbers, all_settled}
use Rattle.lanes.proofs.mul_add_eight.Goals as goal

pub returns-then-alpha-clause-len : goal.returns-then-alpha-clause-len
returns-then-alpha-clause-len c = len (add binary32) c.args.q c.args.g c.fits-q.0 c.fits-g.0

pub returns-then-alpha-clause-lanes : goal.returns-then-alpha-clause-lanes
returns-then-alpha-clause-lanes c t = one_lanes c.args.alpha c.args.q c.args.g c.fits-q.0 c.fits-g.0 (is_one c.args.alpha c.if-alpha.true)

pub returns-then-alpha-clause-once : goal.returns-then-alpha-clause-once
returns-then-alpha-clause-once c t i l = fused_is c.args.alpha _ _ _ (returns-then-alpha-clause-lanes c t i l)

pub sums-requires-clause-factor : goal.sums-requires-clause-factor
sums-requires-clause-factor c = finite_of c.args.alpha (sym c.is_finite.ensures.value ∙ c.if-not-is_finite.false)

pub patterns-b-requires : goal.patterns-b-requires
patterns-b-requires c =
    sum_numbers c.args.alpha c.args.q c.args.g (subst T (sym c.well_formed.0.1) tt) c.fits-q.1 c.fits-g.1 c.fits-q.0 c.fits-g.0 c.sums.result
    (finite_of c.args.alpha (sym c.is_finite.ensures.value ∙ c.if-not-is_finite.false)) (c.all_finite.ensures c.if-not-all_finite.false).0 (c.all_finite.ensures c.if-not-all_finite.false).1
    c.sums.ensures.lanes

pub returns-clause-lanes : goal.returns-clause-lanes
returns-clause-lanes c t =
    all_settled c.args.alpha c.args.q c.args.g (subst T (sym c.well_formed.0.1) tt) c.fits-q.1 c.fits-g.1 c.fits-q.0 c.fits-g.0 c.sums.result c.patterns-b.result c.narrow.result
    (sum_numbers c.args.alpha c.args.q c.args.g (subst T (sym c.well_formed.0.1) tt) c.fits-q.1 c.fits-g.1 c.fits-q.0 c.fits-g.0 c.sums.result
    (finite_of c.args.alpha (sym c.is_finite.ensures.value ∙ c.if-not-is_finite.false)) (c.all_finite.ensures c.if-not-all_finite.false).0 (c.all_finite.ensures c.if-not-all_finite.false).1
    c.sums.ensures.lanes)
    c.sums.ensures.lanes c.patterns-b.ensures.lanes (c.decided.ensures c.if-not-decided.false) c.narrow.ensures.lanes

pub returns-clause-once : goal.returns-clause-once
returns-clause-once c t i l = fused_is c.args.alpha _ _ _ (returns-clause-lanes c t i l)
