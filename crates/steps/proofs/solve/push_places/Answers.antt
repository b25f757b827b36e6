use Rattle.std.proofs.Common.{rules, ◌≡◌, ◌<◌, length, take, length-take-le, arith}
use Rattle.std.proofs.lemmas.Grind.{common_steps}
use Rattle.steps.proofs.Laws.{pushed_front, pushed_more}
use Rattle.steps.proofs.solve.push_places.Goals as goal

pub loop-i-preserved : goal.loop-i-preserved
loop-i-preserved c =
    let done = c.loop-i.invariant in
    let few : c.loop-i.i < length (take c.args.n c.args.plane.now) = omega (arith, c.loop-i-test.true, done.plane_length) in
    let under : length (take c.args.n c.args.plane.now) ≡ c.args.n = length-take-le c.args.n c.args.plane.now c.requires.0 in
    pushed_more c.args.factor _ c.loop-i.x-items c.loop-i.prior c.loop-i.i few (omega (arith, few, under, c.requires.1)) done _ (search rules)

pub returns : goal.returns
returns c = pushed_front c.args.factor c.args.plane.now c.args.prior.now c.loop-i.x-items c.loop-i.prior c.args.n c.requires.0 (grind (arith, common_steps, c.loop-i.invariant))
