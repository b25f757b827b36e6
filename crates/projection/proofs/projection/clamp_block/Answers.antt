-- Kept: the check finds none of these alone (scripts/answers tries each).
use Rattle.std.proofs.Common.{ℕ, ◌<◌, List, ap, ◌∙◌, arith, rules}
use lib.Ieee.{Float}
use Rattle.float.specs.Names.{val}
use Rattle.fold.proofs.Loops.{upto-call, upto-end, upto_nest}
use Rattle.fold.specs.Fold.{upto}
use Rattle.start.specs.AsCoef.{as_coef}
use Rattle.projection.specs.Projection.{clamp_at, clamp_block, clipped_at, clipped_block}
use Rattle.projection.proofs.Writes.{clamp_row_is, clip_row_is, ends}
use Rattle.projection.proofs.projection.clamp_block.Goals as goal

pub loop-y-init : goal.loop-y-init
unfolding upto
loop-y-init c = search rules

pub loop-y-preserved : goal.loop-y-preserved
loop-y-preserved c =
    let v = c.loop-y.invariant in
    let s = c.args.coef.now in
    let C = as_coef s in
    let i = c.args.i in
    let y = c.loop-y.y in
    let e = ends s.own s.lows.now s.highs.now s.table.now s.lent i y c.requires.0 c.loop-y-test.true in
    let low = λ (j : ℕ) (h : j < 8). ap (λ (l : List Float). val l j) c.least_of-least.ensures ∙ (e j h).0 in
    let high = λ (j : ℕ) (h : j < 8). ap (λ (l : List Float). val l j) c.most_of-most.ensures ∙ (e j h).1 in
    let k = c.clamp_row-moved.ensures in (
      search rules,
      search rules,
      upto-call _ _ _ v.2 (k.clamped ∙ clamp_row_is C.levels C.table i y (val c.least_of-least.result) (val c.most_of-most.result) low high c.loop-y.x),
      upto-call _ _ _ v.3 (k.counted ∙ clip_row_is C.levels C.table i y (val c.least_of-least.result) (val c.most_of-most.result) low high c.args.x.now c.loop-y.x v.2 c.loop-y.moved),
    )

pub returns : goal.returns
unfolding clamp_block clipped_block
returns c =
    let v = c.loop-y.invariant in
    let C = as_coef c.args.coef.now in (
      upto-end _ _ 8 _ v.2 (omega arith) ∙ upto_nest (clamp_at C.levels C.table c.args.i) 8 8 c.args.x.now,
      upto-end _ _ 8 _ v.3 (omega arith) ∙ upto_nest (clipped_at C.levels C.table c.args.x.now c.args.i) 8 8 c.args.n,
      omega arith,
    )
