-- Kept: the check finds none of these alone (scripts/answers tries each).
use Rattle.std.proofs.Common.{◌≡◌, ◌*◌, ◌/◌, ◌++◌, ◌≤◌, ◌∙◌, ap, sym, arith, drop, length, rules, take}
use lib.Seq.{length-take-le}
use Rattle.fold.specs.Fold.{upto}
use Rattle.utils.specs.Blocks.{on_block}
use Rattle.utils.specs.Dct.{idct8x8}
use Rattle.utils.proofs.Lengths.{blocks_within, idct_length}
use Rattle.start.specs.Coef.{block_count}
use Rattle.start.proofs.Cover.{blocks_fill}
use Rattle.projection.specs.Projection.{keep, onto_box, project_full}
use Rattle.projection.proofs.Writes.{kept}
use Rattle.projection.proofs.projection.project_full.Goals as goal

pub returns : goal.returns
unfolding project_full onto_box
returns c =
    let o = c.args.coef.now.own in
    let m = c.clamped-moved.ensures in
    let w = c.px_count-count.result in
    let x = c.clamped-moved.new.x in
    let long : w ≤ length x = search rules in
    let fill : block_count o * 64 ≡ w = blocks_fill o.width o.height c.args.coef.now.covers.eights.0 c.args.coef.now.covers.eights.1 ∙ sym c.px_count-count.ensures.0 in
    let own : c.copy.new.to ≡ take w x = search rules in
    let saved : c.copy.new.to ++ drop w c.args.saved.now ≡ keep w x c.args.saved.now =
    ap (λ t. t ++ drop w c.args.saved.now) own ∙ kept w x c.args.saved.now long (search rules) in
    let n : length (take w x) / 64 ≡ block_count o = omega (arith, length-take-le w x long, fill) in
    let across : c.idct_blocks.new.xs ++ drop w x ≡ upto (on_block idct8x8) (block_count o) x =
    ap (λ t. t ++ drop w x) (rw (c.idct_blocks.ensures, n)) ∙ blocks_within idct8x8 idct_length (block_count o) w x long (omega (arith, fill)) in (
      λ d. rw (← c.to_blocks.ensures.moved, ← m.0, ← c.px_count-count.ensures.0, ← saved, ← across, ← c.from_blocks.ensures.moved),
      rw (← c.to_blocks.ensures.moved) m.1,
    )
