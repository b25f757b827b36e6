-- The number of coefficients that are clipped is that of those outside their exact intervals.
use mathlib.Core.Path.{◌≡◌, ap}
use Prim.Native.Nat.{ℕ, ◌*◌, ◌%◌, ◌≤◌}
use native.Mathlib.Omega.{arith}
use mathlib.Core.Bool.{Bool, cond}
use mathlib.Core.List.{List}
use lib.Ieee.{Float}
use lib.ListN.{length}
use Rattle.fold.specs.Fold.{upto}
use Rattle.fold.proofs.Loops.{upto_ext}
use Rattle.float.specs.Names.{val}
use Rattle.utils.specs.Blocks.{on_block, to_blocks}
use Rattle.utils.specs.Dct.{dct8x8}
use Rattle.utils.proofs.Fit.{dcts_fit}
use Rattle.utils.proofs.Lengths.{to_blocks_length}
use Rattle.interval.proofs.Clamp.{outside_is}
use Rattle.start.specs.Coef.{Coef, Eights, block_count, block_h, block_w, high_at, low_at, px_count, quant_at}
use Rattle.start.proofs.Cover.{blocks_fill}
use Rattle.projection.specs.Projection.{Box, FromSheet, clipped, clipped_exactly, count_at, exactly_at, resample, split, tally, transformed}

clipped_blocks : (C : Coef) (x : List Float) → Eights C.own → px_count C.own ≤ length x → FromSheet C
    → clipped C (upto (on_block dct8x8) (block_count C.own) x) ≡ clipped_exactly C (upto (on_block dct8x8) (block_count C.own) x)
unfolding clipped clipped_exactly
clipped_blocks C x e h sheet =
    let y = upto (on_block dct8x8) (block_count C.own) x in
    let fill : block_count C.own * 64 ≡ px_count C.own = blocks_fill C.own.width C.own.height e.0 e.1 in
    upto_ext (count_at C y) (exactly_at C y) (px_count C.own) 0
    (λ k n l.
    ap (λ (b : Bool). tally b n)
    (outside_is (low_at C.levels k) (high_at C.levels k) (quant_at C.table (k % 64)) (sheet k l) (val y k)
    (dcts_fit (block_count C.own) x (omega (arith, fill, h)) k (omega (arith, fill, l)))))

pub clipped_exact : (C : Coef) (W H : ℕ) (b : Box) → Eights C.own → px_count C.own ≤ length b.across → FromSheet C
    → clipped C (transformed C W H b) ≡ clipped_exactly C (transformed C W H b)
unfolding transformed
clipped_exact C W H b e h sheet =
    let o = C.own in
    let own : List Float = cond (resample o W H) (split o W (record { plane = b.plane; down = b.down })).down b.plane in
    clipped_blocks C (to_blocks o.width (block_w o) (block_h o) own b.across) e
    (omega (arith, h, to_blocks_length o.width (block_w o) (block_h o) own b.across)) sheet
