-- Kept: the check finds none of these alone (scripts/answers tries each).
use Rattle.std.proofs.Common.{◌≡◌, ◌*◌, ◌/◌, ◌++◌, ◌∙◌, ap, arith, drop, length, rules, take}
use lib.Seq.{length-take-le}
use Rattle.utils.specs.Blocks.{on_block}
use Rattle.utils.specs.Dct.{dct8x8}
use Rattle.utils.proofs.Lengths.{blocks_within, dct_length}
use Rattle.fold.proofs.Loops.{upto-call, upto-end}
use Rattle.fold.specs.Fold.{upto}
use Rattle.start.specs.Coef.{block_count}
use Rattle.start.specs.AsCoef.{as_coef}
use Rattle.projection.specs.Projection.{clamped}
use Rattle.projection.proofs.Writes.{clipped_ahead, clipped_blocks}
use Rattle.projection.proofs.projection.clamped.Goals as goal

pub loop-i-init : goal.loop-i-init
unfolding upto
loop-i-init c = search rules

pub loop-i-preserved : goal.loop-i-preserved
loop-i-preserved c =
    let v = c.loop-i.invariant in
    let k = c.clamp_block-moved.ensures in
    let C = as_coef c.args.coef.now in (
      search rules,
      omega arith,
      upto-call _ _ _ v.2 k.0,
      upto-call _ _ _ v.3 (k.1 ∙ rw v.2 (clipped_ahead C.levels C.table _ c.loop-i.i c.loop-i.moved)),
    )

pub returns : goal.returns
unfolding clamped
returns c =
    let v = c.loop-i.invariant in
    let n : c.block_count-n.result ≡ block_count c.args.coef.now.own = rw (← c.scalar.ensures.1) c.block_count-n.ensures.0 in
    let own = take (c.block_count-n.result * 64) c.args.x.now in
    let m : length own / 64 ≡ c.block_count-n.result = omega (arith, length-take-le (c.block_count-n.result * 64) c.args.x.now (search rules)) in
    let transformed : c.dct_blocks.new.xs ++ drop (c.block_count-n.result * 64) c.args.x.now ≡ upto (on_block dct8x8) c.block_count-n.result c.args.x.now =
    ap (λ t. t ++ drop (c.block_count-n.result * 64) c.args.x.now) (rw (c.dct_blocks.ensures, m)) ∙ blocks_within dct8x8 dct_length c.block_count-n.result (c.block_count-n.result * 64) c.args.x.now (search rules) (omega arith) in
    rw (← n, ← transformed)
    (upto-end _ _ _ _ v.2 (omega arith), upto-end _ _ _ _ v.3 (omega arith ∙ n) ∙ clipped_blocks (as_coef c.args.coef.now) c.args.coef.now.covers.eights _)
