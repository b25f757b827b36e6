-- Kept: the check finds none of these alone (scripts/answers tries each).
use mathlib.Core.Path.{◌≡◌}
use borrow.Author.Rules.{rules}
use lib.ListN.{replicate}
use Prim.Native.Nat.{◌*◌}
use Rattle.float.specs.Names.{f0}
use Rattle.fidelity.specs.DctGradient.{data_gradient}
use Rattle.fidelity.proofs.dct_gradient.data.Goals as goal

pub returns-then-weight : goal.returns-then-weight
unfolding data_gradient
returns-then-weight c =
    let e : c.fill.new.self ≡ replicate (c.args.coef.now.w * c.args.coef.now.h) f0 = search rules in
    rw (c.if-weight.true, ← e, ← c.data_alpha.ensures) c.dct_gradient.ensures

pub returns-else-weight : goal.returns-else-weight
unfolding data_gradient
returns-else-weight c =
    let e : c.fill.new.self ≡ replicate (c.args.coef.now.w * c.args.coef.now.h) f0 = search rules in
    rw (c.if-weight.false, e)
