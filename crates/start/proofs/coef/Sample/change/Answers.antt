-- Kept: the check finds none of these alone (scripts/answers tries each).
use borrow.Author.Rules.{rules}
use native.Mathlib.Omega.{arith}
use Rattle.fold.proofs.Loops.{upto_none, upto-call, upto-end}
use Rattle.start.specs.Coef.{change}
use Rattle.start.proofs.coef.Sample.change.Goals as goal

pub loop-sy-init : goal.loop-sy-init
loop-sy-init g c = (search rules, λ f p. upto_none _ _)

pub loop-sx-init : goal.loop-sx-init
loop-sx-init g c = (search rules, λ f p. upto_none _ _)

pub loop-sx-preserved : goal.loop-sx-preserved
loop-sx-preserved g c = (search rules, λ f p. upto-call _ _ _ (c.loop-sx.invariant.1 f p) (rw (p _ _ c.f.ensures, c.spot-k.ensures.0)))

pub loop-sy-preserved : goal.loop-sy-preserved
loop-sy-preserved g c = (search rules, λ f p. upto-call _ _ _ (c.loop-sy.invariant.1 f p) (upto-end _ _ _ _ (c.loop-sx.invariant.1 f p) (omega arith)))

pub returns : goal.returns
unfolding change
returns g c = λ f p. upto-end _ _ _ _ (c.loop-sy.invariant.1 f p) (omega arith)
