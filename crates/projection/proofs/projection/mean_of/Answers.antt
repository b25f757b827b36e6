-- Kept: the check finds none of these alone (scripts/answers tries each).
use Rattle.std.proofs.Common.{◌*◌, ap, arith, rules}
use lib.Ieee.{Float}
use Rattle.float.specs.Names.{◌⊘◌, float}
use Rattle.fold.proofs.Loops.{upto-call, upto-end}
use Rattle.fold.specs.Fold.{upto}
use Rattle.projection.specs.Projection.{mean_of}
use Rattle.projection.proofs.projection.mean_of.Goals as goal

pub loop-sy-init : goal.loop-sy-init
unfolding upto
loop-sy-init c = search rules

pub loop-sx-init : goal.loop-sx-init
unfolding upto
loop-sx-init c = search rules

pub loop-sx-preserved : goal.loop-sx-preserved
loop-sx-preserved c = (search rules, upto-call _ _ _ c.loop-sx.invariant.1 (rw c.spot-k.ensures.0))

pub loop-sy-preserved : goal.loop-sy-preserved
loop-sy-preserved c = (search rules, upto-call _ _ _ c.loop-sy.invariant.1 (upto-end _ _ _ _ c.loop-sx.invariant.1 (omega arith)))

pub returns : goal.returns
unfolding mean_of
returns c = rw c.places.ensures (ap (λ (t : Float). t ⊘ float (c.args.sample.coef.now.own.horizontal * c.args.sample.coef.now.own.vertical)) (upto-end _ _ _ _ c.loop-sy.invariant.1 (omega arith)))
