-- Start leaves a plane of values of at most 2 ^ 27, and saved coefficients of at most 2 ^ 19.
use mathlib.Core.Path.{◌≡◌, sym, ◌∙◌, subst}
use mathlib.Core.List.{List}
use Prim.Native.Nat.{ℕ, ◌+◌, ◌-◌, ◌*◌, ◌/◌, ◌%◌, ◌^◌, ◌≤◌, ◌<◌}
use native.Mathlib.Nat.{le_of_eq, le_refl}
use native.Mathlib.Omega.{arith}
use lib.Dec.{lit≤, lit<}
use lib.IntN.{nat_abs}
use lib.Signed.{◌≤ℤ◌}
use lib.ListN.{length, replicate, length-replicate}
use lib.Ieee.{Float, nan}
use Rattle.fold.specs.Fold.{upto}
use Rattle.fold.proofs.Loops.{upto-ok}
use Rattle.fold.proofs.Parts.{part_at, part_length}
use Rattle.float.specs.Names.{f0}
use Rattle.utils.specs.Blocks.{block_of, on_block}
use Rattle.utils.specs.Dct.{idct8x8}
use Rattle.utils.proofs.Lengths.{blocks_length, from_blocks_length, idct_length, on_block_length}
use Rattle.fold.proofs.Scatter.{send_at, sent_at}
use Rattle.interval.specs.Interval.{dequantised}
use Rattle.start.specs.Coef.{Coef, Covers, Eights, block_count, block_h, block_w, dequantise, image_block, image_data, image_of, image_once, init_dct_target, low_at, high_at, px_count, quant_at}
use Rattle.start.specs.declared.coef.Reorder.{Reorder}
use Rattle.start.specs.declared.coef.Reorder.TheVariants.{Each, Once}
use Rattle.start.specs.Auxiliary.{init_pixels}
use Rattle.start.proofs.Cover.{blocks_fill}
use Rattle.start.proofs.Lengths.{init_dct_target_length, dequantise_length}
use Rattle.bounds.proofs.Magnitude.{Most}
use Rattle.bounds.proofs.Good.{Good, AllGood, good_more, set_good, zeros_good, upto_inv, Parted, parted, parted_all}
use Rattle.bounds.proofs.Transforms.{idct_good}
use Rattle.bounds.proofs.Copies.{on_block_good, from_parted, upsample_good, idcts_parted}
use Rattle.bounds.proofs.Intervals.{product_good}

-- what is asked of a channel's numbers: levels within ±2,047, the lowest not above the highest, values between them as f32, and quantisers from 1 to 255
pub record CoefOk (C : Coef) : Type 0 where
  pub lows_ok : (k : ℕ) → nat_abs (low_at C.levels k) ≤ 2047
  pub highs_ok : (k : ℕ) → nat_abs (high_at C.levels k) ≤ 2047
  pub order : (k : ℕ) → low_at C.levels k ≤ℤ high_at C.levels k
  pub middle_most : (k : ℕ) → Most (2 ^ 160) (C.middle k)
  pub table_some : (j : ℕ) → j < 64 → 1 ≤ quant_at C.table j
  pub table-ok : (j : ℕ) → quant_at C.table j ≤ 255

-- sides that are multiples of 8
pub eights_width : (n : ℕ) → n % 8 ≡ 0 → n ≡ n / 8 * 8
eights_width n h = omega arith

module _ (C : Coef) (ok : CoefOk C) where
  abbrev start-value : ℕ → ℕ → Float
  start-value i j = dequantised (C.middle (i * 64 + j)) (quant_at C.table j)

  start_good : (i j : ℕ) → Good (2 ^ 168) (start-value i j)
  unfolding dequantised
  start_good i j = product_good (C.middle (i * 64 + j)) (quant_at C.table j) (ok.middle_most (i * 64 + j)) (ok.table-ok j)

  -- one block's levels × quantisers: all places keep a bound of 2 ^ 19 or more, and the block itself has it
  pub dequantise_good : (b i : ℕ) (xs : List Float) → 2 ^ 168 ≤ b → AllGood b xs → AllGood b (dequantise C.middle C.table i xs)
  unfolding dequantise
  dequantise_good b i xs h g =
      upto-ok (AllGood b) (send_at nan (start-value i) (λ j. i * 64 + j))
      (λ j a o. set_good b a (i * 64 + j) (start-value i j) o (good_more (2 ^ 168) b (start-value i j) h (start_good i j))) 64 xs g

  block_good : (i : ℕ) (xs : List Float) → i * 64 + 64 ≤ length xs → AllGood (2 ^ 168) (block_of (dequantise C.middle C.table i xs) i)
  unfolding dequantise
  block_good i xs h k l =
      let d = dequantise C.middle C.table i xs in
      let n : length d ≡ length xs = dequantise_length C.middle C.table i xs in
      let a : i * 64 ≤ i * 64 + 64 = omega arith in
      let b : i * 64 + 64 ≤ length d = omega arith in
      let long = part_length d (i * 64) (i * 64 + 64) a b in
      let m : k < 64 = omega arith in
      subst (Good (2 ^ 168))
      (sym (part_at d (i * 64) (i * 64 + 64) a b k nan (omega arith)
      ∙ sent_at nan (start-value i) (λ j. i * 64 + j) 64 xs (λ j p. omega arith) (λ j j' p q r. omega arith) k m))
      (start_good i k)

  -- saved
  pub target_good : (xs : List Float) → AllGood (2 ^ 168) xs → AllGood (2 ^ 168) (init_dct_target C xs)
  unfolding init_dct_target
  target_good xs g = upto-ok (AllGood (2 ^ 168)) (dequantise C.middle C.table) (λ i a o. dequantise_good (2 ^ 168) i a (le_refl (2 ^ 168)) o) (block_count C.own) xs g

  module _ (e : Eights C.own) where
    abbrev Image : List Float → Type 0
    Image xs = (length xs ≡ px_count C.own) × AllGood (2 ^ 176) xs

    -- a block dequantised and transformed, and the whole plane reordered
    one_block : (i : ℕ) (xs : List Float) → i < block_count C.own → Image xs → Image (image_block C i xs)
    unfolding image_block
    one_block i xs l r =
        let o = C.own in
        let d = dequantise C.middle C.table i xs in
        let x = on_block idct8x8 i d in
        let fill = blocks_fill o.width o.height e.0 e.1 in
        let inside : i * 64 + 64 ≤ length xs = omega (arith, fill, r.0) in
        let n : length x ≡ px_count o = on_block_length idct8x8 idct_length i d ∙ dequantise_length C.middle C.table i xs ∙ r.0 in
        let part : length (block_of d i) ≡ 64 =
        part_length d (i * 64) (i * 64 + 64) (omega arith) (omega (arith, dequantise_length C.middle C.table i xs)) ∙ span i in
        let g = on_block_good idct8x8 (2 ^ 176) i d (dequantise_good (2 ^ 176) i xs (lit≤ tt) r.1) (idct_good 168 (lit< tt) (block_of d i) part (block_good i xs inside)) in (
          from_blocks_length o.width (block_w o) (block_h o) x x ∙ n,
          parted_all (px_count o) (2 ^ 176) (2 ^ 176) (2 ^ 176) _ (le_refl (2 ^ 176)) (le_refl (2 ^ 176))
              (from_parted o.width o.height (block_w o) (block_h o) (eights_width o.width e.0) (eights_width o.height e.1) (2 ^ 176) (2 ^ 176) (2 ^ 176) (2 ^ 176) x x
              (le_of_eq (sym n)) (parted (px_count o) (2 ^ 176) x (le_of_eq (sym n)) g) (parted (px_count o) (2 ^ 176) x (le_of_eq (sym n)) g)),
        )
      where
        span : (i : ℕ) → i * 64 + 64 - i * 64 ≡ 64
        span i = omega arith

    image_good : Image (image_data C)
    unfolding image_data
    image_good =
        upto_inv (λ k. Image) (image_block C) (block_count C.own) one_block (replicate (px_count C.own) f0)
        (length-replicate (px_count C.own) f0, zeros_good (2 ^ 176) (px_count C.own))

    -- M-102's start: all blocks transformed, then one reordering
    once_good : Image (image_once C)
    unfolding image_once
    once_good =
        let o = C.own in
        let n = block_count o in
        let N = px_count o in
        let zeros = replicate N f0 in
        let y = init_dct_target C zeros in
        let x = upto (on_block idct8x8) n y in
        let fill = blocks_fill o.width o.height e.0 e.1 in
        let y-long : length y ≡ N = init_dct_target_length C zeros ∙ length-replicate N f0 in
        let x-long : length x ≡ N = blocks_length idct8x8 idct_length n y ∙ y-long in
        let room : n * 64 ≤ length y = le_of_eq (fill ∙ sym y-long) in
        let blocks : Parted N (2 ^ 176) (2 ^ 168) x =
        subst (λ (z : ℕ). Parted z (2 ^ 176) (2 ^ 168) x) fill
        (idcts_parted 168 (2 ^ 168) n y (lit< tt) room (parted (n * 64) (2 ^ 168) y room (target_good zeros (zeros_good (2 ^ 168) N)))) in (
          from_blocks_length o.width (block_w o) (block_h o) x x ∙ x-long,
          parted_all N (2 ^ 176) (2 ^ 168) (2 ^ 176) _ (le_refl (2 ^ 176)) (lit≤ tt)
              (from_parted o.width o.height (block_w o) (block_h o) (eights_width o.width e.0) (eights_width o.height e.1)
              (2 ^ 176) (2 ^ 168) (2 ^ 176) (2 ^ 168) x x (le_of_eq (sym x-long)) blocks blocks),
        )

    -- of either start
    image-of : (R : Reorder) → Image (image_of R C)
    image-of Each = image_good
    image-of Once = once_good

  pub pixels_good : (R : Reorder) (W H : ℕ) → Covers C.own W H → AllGood (2 ^ 176) (init_pixels (image_of R C) C.own W H)
  unfolding init_pixels
  pixels_good R W H k =
      let o = C.own in
      let g = image-of k.eights R in
      upsample_good (2 ^ 176) (image_of R C) o.width o.height o.horizontal o.vertical W H (replicate (W * H) f0) k.width_some k.height_some
      (le_of_eq (sym g.0)) (length-replicate (W * H) f0) g.1
