-- Kept: the check finds none of these alone (scripts/answers tries each).
use mathlib.Core.Path.{◌≡◌, refl, ◌∙◌}
use borrow.Author.Rules.{rules}
use Prim.Native.Nat.{◌*◌, ◌/◌, ◌<◌}
use native.Mathlib.Omega.{arith}
use lib.ListN.{replicate}
use Rattle.float.specs.Names.{f0}
use Rattle.fold.specs.Fold.{upto}
use Rattle.fold.proofs.Loops.{upto_none, upto_step, upto-call, upto-end}
use Rattle.start.specs.Coef.{block_count, px_count, transformed}
use Rattle.start.specs.AsCoef.{scalar}
use Rattle.start.proofs.Held.{hold, power_within, taken}
use Rattle.start.proofs.Units.{power}
use Rattle.start.proofs.coef.ScalarCoef.reorder_each.Goals as goal

pub loop-i-init : goal.loop-i-init
loop-i-init c = (search rules, upto_none _ _, refl, upto_none _ _)

pub loop-y-init : goal.loop-y-init
loop-y-init c = (search rules, refl, upto_none _ _)

pub held_unit-unit-requires-clause-reduced : goal.held_unit-unit-requires-clause-reduced
held_unit-unit-requires-clause-reduced c =
    let o = c.args.self.now.own in
    let i : c.loop-i.i < block_count o = omega (arith, c.block_count-i-end.ensures.0, c.loop-i-test.true) in
    rw c.loop-i.invariant.1 (power_within o c.args.self.now.eights c.loop-i.i i c.loop-i.i)

pub loop-y-preserved : goal.loop-y-preserved
loop-y-preserved c =
    (omega (arith, c.loop-y-test.true), search rules, upto-call _ _ _ c.loop-y.invariant.2 (rw (← c.held_unit-unit.ensures.unit) c.copy8.ensures))

pub overflow_mul-power : goal.overflow_mul-power
overflow_mul-power c =
    let o = c.args.self.now.own in
    let e = c.args.self.now.eights in
    let i : c.loop-i.i < block_count o = omega (arith, c.block_count-i-end.ensures.0, c.loop-i-test.true) in
    omega (arith, c.loop-i.invariant.1, power_within o e c.loop-i.i i c.loop-i.i, c.args.self.now.width_most)

pub loop-i-preserved : goal.loop-i-preserved
loop-i-preserved c = (
  search rules,
  upto_step _ _ _ c.loop-i.invariant.1,
  search rules,
  upto-call _ _ _ c.loop-i.invariant.3 (rw (← c.loop-i.invariant.1) (upto-end _ _ _ _ c.loop-y.invariant.2 (omega arith))),
)

pub loop-u-init : goal.loop-u-init
loop-u-init c = (search rules, refl, upto_none _ _)

pub held_unit-unit-requires-in-loop-u-clause-reduced : goal.held_unit-unit-requires-in-loop-u-clause-reduced
held_unit-unit-requires-in-loop-u-clause-reduced c =
    let o = c.args.self.now.own in
    let i : c.loop-u.u / 8 < block_count o = omega (arith, c.block_count-u-end.ensures.0, c.loop-u-test.true) in
    rw c.loop-i.invariant.1 (power_within o c.args.self.now.eights (c.loop-u.u / 8) i c.loop-i.i)

pub loop-u-preserved : goal.loop-u-preserved
loop-u-preserved c =
    (omega (arith, c.loop-u-test.true), search rules, upto-call _ _ _ c.loop-u.invariant.2 (rw (← c.held_unit-unit-in-loop-u.ensures.unit) c.copy8-in-loop-u.ensures))

pub returns : goal.returns
returns c =
    let C = scalar c.args.self.now in
    let o = c.args.self.now.own in
    let zeros : c.fill.new.self ≡ replicate (px_count o) f0 = search (rules, c.requires) in
    let last : c.loop-i.i ≡ block_count o = omega (arith, c.block_count-i-end.ensures.0, c.loop-i-test.false) in
    let all : c.loop-u.u ≡ block_count o * 8 = omega (arith, c.block_count-u-end.ensures.0, c.loop-u-test.false) in
    let p : c.loop-i.power ≡ power o.width (block_count o) = upto-end _ _ _ _ c.loop-i.invariant.1 last in
    let held : c.loop-i.held ≡ upto (hold o.width (transformed C)) (block_count o) (replicate (px_count o) f0) =
    rw (← c.requires.blocks, ← zeros) (upto-end _ _ _ _ c.loop-i.invariant.3 last) in
    upto-end _ _ _ _ c.loop-u.invariant.2 all ∙ rw (p, held) (taken C c.args.self.now.eights c.args.image.now c.requires.image_long)
