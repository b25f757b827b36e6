-- M-102: the image reordered once is T.81's placement; and at own width 8 it is the image that is reordered after each block.
use mathlib.Core.Path.{◌≡◌, refl, ap, ◌∙◌, sym, subst}
use mathlib.Core.Logic.{⊎_elim}
use mathlib.Core.List.{List}
use Prim.Native.Nat.{ℕ, zero, suc, ◌+◌, ◌-◌, ◌*◌, ◌/◌, ◌%◌, ◌<◌, ◌≤◌}
use native.Mathlib.Nat.{eq-or-lt_of_le, le_of_suc-le-suc, not-suc-le-zero}
use native.Mathlib.Omega.{arith}
use lib.ListN.{length, replicate, length-replicate}
use lib.Seq.{ext_get_or}
use lib.Ieee.{Float, nan}
use Rattle.fold.specs.Fold.{upto}
use Rattle.fold.proofs.Grid.{column_of}
use Rattle.fold.proofs.Loops.{upto-keeps}
use Rattle.fold.proofs.Parts.{part_at, part_before, part_length, part_splice}
use Rattle.float.specs.Names.{f0, val}
use Rattle.utils.specs.Blocks.{block_of, from_blocks, on_block}
use Rattle.utils.specs.Dct.{idct8x8}
use Rattle.utils.proofs.Blockwise.{block_done}
use Rattle.utils.proofs.Lengths.{blocks_length, from_blocks_length, idct_length, on_block_length}
use Rattle.utils.proofs.Moves.{from_at, from_one}
use Rattle.fold.proofs.Scatter.{sent_at, sent_length, sent_other}
use Rattle.interval.specs.Interval.{dequantised}
use Rattle.start.specs.declared.coef.Reorder.{Reorder}
use Rattle.start.specs.declared.coef.Reorder.TheVariants.{Each, Once}
use Rattle.start.specs.Coef.{Coef, Eights, Placement, block_count, block_h, block_values, block_w, dequantise, image_block, image_data, image_once, init_dct_target, px_count, quant_at, transformed}
use Rattle.start.specs.Auxiliary.{aux_init, init_pixels}
use Rattle.start.proofs.Cover.{block_in, blocks_fill}
use Rattle.start.proofs.Lengths.{dequantise_length, init_dct_target_length}
use Rattle.start.proofs.Writes.{init_dct_target_at}

-- a block by its values, and a list by its blocks
same_block : (x y : List Float) (i : ℕ) → i * 64 + 64 ≤ length x → length y ≡ 64 → ((j : ℕ) → j < 64 → val x (i * 64 + j) ≡ val y j) → block_of x i ≡ y
same_block x y i h n e =
    let l = part_length x (i * 64) (i * 64 + 64) (omega arith) h in
    ext_get_or nan (block_of x i) y (omega arith) (λ j m. part_at x (i * 64) (i * 64 + 64) (omega arith) h j nan (omega arith) ∙ e j (omega arith))

same_blocks : (x y : List Float) (n : ℕ) → length x ≡ n * 64 → length y ≡ n * 64 → ((k : ℕ) → k < n → block_of x k ≡ block_of y k) → x ≡ y
same_blocks x y n a b e =
    ext_get_or nan x y (a ∙ sym b)
    (λ p l.
    let at : p ≡ p / 64 * 64 + p % 64 = omega arith in
    let in-x : p / 64 * 64 + 64 ≤ length x = omega arith in
    let in-y : p / 64 * 64 + 64 ≤ length y = omega arith in
    ap (val x) at ∙ sym (part_at x (p / 64 * 64) (p / 64 * 64 + 64) (omega arith) in-x (p % 64) nan (omega arith))
    ∙ ap (λ (s : List Float). val s (p % 64)) (e (p / 64) (omega arith))
    ∙ part_at y (p / 64 * 64) (p / 64 * 64 + 64) (omega arith) in-y (p % 64) nan (omega arith) ∙ ap (val y) (sym at))

module _ (C : Coef) where
  abbrev value : ℕ → ℕ → Float
  value i j = dequantised (C.middle (i * 64 + j)) (quant_at C.table j)

  values_length : (i : ℕ) → length (block_values C i) ≡ 64
  unfolding block_values
  values_length i = sent_length nan (value i) (λ j. j) 64 (replicate 64 f0) ∙ length-replicate 64 f0

  values_at : (i j : ℕ) → j < 64 → val (block_values C i) j ≡ value i j
  unfolding block_values
  values_at i j l =
      let n = length-replicate 64 f0 in
      sent_at nan (value i) (λ j. j) 64 (replicate 64 f0) (λ k m. omega arith) (λ k m a b e. e) j l

  -- dequantising block i, and the blocks before it
  pub dequantised_block : (i : ℕ) (x : List Float) → i * 64 + 64 ≤ length x → block_of (dequantise C.middle C.table i x) i ≡ block_values C i
  unfolding dequantise
  dequantised_block i x h =
      same_block (dequantise C.middle C.table i x) (block_values C i) i (omega (arith, dequantise_length C.middle C.table i x)) (values_length i)
      (λ j l. sent_at nan (value i) (λ j. i * 64 + j) 64 x (λ k m. omega arith) (λ k m a b e. omega arith) j l ∙ sym (values_at i j l))

  earlier_block : (i k : ℕ) (x : List Float) → k < i → i * 64 + 64 ≤ length x → block_of (dequantise C.middle C.table i x) k ≡ block_of x k
  unfolding dequantise
  earlier_block i k x l h =
      let n = part_length x (k * 64) (k * 64 + 64) (omega arith) (omega arith) in
      same_block (dequantise C.middle C.table i x) (block_of x k) k (omega (arith, dequantise_length C.middle C.table i x)) (omega arith)
      (λ j m. sent_other nan (value i) (λ j. i * 64 + j) 64 x (k * 64 + j) (λ t b e. omega arith)
      ∙ sym (part_at x (k * 64) (k * 64 + 64) (omega arith) (omega arith) j nan (omega arith)))

  abbrev pub zeros : List Float
  zeros = replicate (px_count C.own) f0

  abbrev blocks : List Float
  blocks = transformed C

  target_length : length (init_dct_target C zeros) ≡ px_count C.own
  target_length = init_dct_target_length C zeros ∙ length-replicate (px_count C.own) f0

  pub once_length : length blocks ≡ px_count C.own
  once_length = blocks_length idct8x8 idct_length (block_count C.own) (init_dct_target C zeros) ∙ target_length

  pub each_length : (n : ℕ) → length (upto (image_block C) n zeros) ≡ px_count C.own
  unfolding image_block
  each_length n =
      upto-keeps length (image_block C)
      (λ i x. from_blocks_length C.own.width (block_w C.own) (block_h C.own) _ _
      ∙ on_block_length idct8x8 idct_length i (dequantise C.middle C.table i x) ∙ dequantise_length C.middle C.table i x) n zeros
      ∙ length-replicate (px_count C.own) f0

  module _ (e : Eights C.own) where
    pub fill : block_count C.own * 64 ≡ px_count C.own
    fill = blocks_fill C.own.width C.own.height e.0 e.1

    -- block i before the reordering
    pub once_block : (i : ℕ) → i < block_count C.own → block_of blocks i ≡ idct8x8 (block_values C i)
    once_block i l =
        let t = init_dct_target C zeros in
        let n = target_length in
        let f = fill in
        block_done idct8x8 idct_length t (block_count C.own) (omega arith) i l
        ∙ ap idct8x8 (same_block t (block_values C i) i (omega arith) (values_length i)
        (λ j m.
        init_dct_target_at C e zeros (omega (arith, length-replicate (px_count C.own) f0)) (i * 64 + j) (omega arith)
        ∙ ap (λ (q : ℕ). dequantised (C.middle (i * 64 + j)) (quant_at C.table q)) (column_of i 64 j m) ∙ sym (values_at i j m)))

    -- T.81's placement, whatever the own sides
    pub once_placed : Placement C (image_once C)
    unfolding image_once
    once_placed =
        let o = C.own in
        let n = once_length in
        record {
          long = from_blocks_length o.width (block_w o) (block_h o) blocks blocks ∙ n;
          at = λ by bx r k p q s t.
              let i = by * block_w o + bx in
              let h : i * 64 + 64 ≤ px_count o = block_in o e by bx p q in
              let w : (by * 8 + r) * o.width + (bx * 8 + k) ≡ (by * 8 + r) * o.width + bx * 8 + k = omega arith in
              let v : i * 64 + r * 8 + k ≡ i * 64 + (r * 8 + k) = omega arith in
              ap (val (from_blocks o.width (block_w o) (block_h o) blocks blocks)) w
              ∙ from_at o.width o.height (block_w o) (block_h o) (omega (arith, e.0)) (omega (arith, e.1)) blocks blocks (omega arith) by bx r k p q s t
              ∙ ap (val blocks) v ∙ sym (part_at blocks (i * 64) (i * 64 + 64) (omega arith) (omega arith) (r * 8 + k) nan (omega arith))
              ∙ ap (λ (b : List Float). val b (r * 8 + k)) (once_block i (omega (arith, fill)));
        }

    -- ---- own width 8
    module _ (narrow : C.own.width ≡ 8) where
      none : (x : List Float) → length x ≡ px_count C.own → from_blocks C.own.width (block_w C.own) (block_h C.own) x x ≡ x
      none x n =
          ap (λ (w : ℕ). from_blocks w (w / 8) (block_h C.own) x x) narrow
          ∙ from_one (block_h C.own) x (omega (arith, ap (λ (w : ℕ). w * C.own.height) narrow, e.1))

      turn : (i : ℕ) (x : List Float) → length x ≡ px_count C.own → image_block C i x ≡ on_block idct8x8 i (dequantise C.middle C.table i x)
      unfolding image_block
      turn i x n =
          none (on_block idct8x8 i (dequantise C.middle C.table i x))
          (on_block_length idct8x8 idct_length i (dequantise C.middle C.table i x) ∙ dequantise_length C.middle C.table i x ∙ n)

      each_block : (n : ℕ) → n * 64 ≤ px_count C.own → (k : ℕ) → k < n → block_of (upto (image_block C) n zeros) k ≡ idct8x8 (block_values C k)
      unfolding upto
      each_block zero h k l = absurd (not-suc-le-zero l)
      each_block (suc n) h k l =
          let x = upto (image_block C) n zeros in
          let y = dequantise C.middle C.table n x in
          let lx = each_length n in
          let ly = dequantise_length C.middle C.table n x in
          let new : length (idct8x8 (block_of y n)) ≡ n * 64 + 64 - n * 64 = idct_length (block_of y n) ∙ part_length y (n * 64) (n * 64 + 64) (omega arith) (omega arith) in
          ap (λ (s : List Float). block_of s k) (turn n x lx)
          ∙ ⊎_elim
          (λ m. subst (λ (j : ℕ). block_of (on_block idct8x8 n y) j ≡ idct8x8 (block_values C j)) (sym m)
          (part_splice y (n * 64) (n * 64 + 64) (omega arith) (omega arith) (idct8x8 (block_of y n)) new ∙ ap idct8x8 (dequantised_block n x (omega arith))))
          (λ m.
          part_before nan y (idct8x8 (block_of y n)) (n * 64) (n * 64 + 64) (k * 64) (k * 64 + 64) (omega arith) (omega arith) new (omega arith) (omega arith)
          ∙ earlier_block n k x m (omega arith) ∙ each_block n (omega arith) k m)
          (eq-or-lt_of_le (le_of_suc-le-suc l))

      -- both images are the same, and so both starts
      pub images_agree : image_once C ≡ image_data C
      unfolding image_once image_data
      images_agree =
          let n = block_count C.own in
          none blocks once_length
          ∙ same_blocks blocks (upto (image_block C) n zeros) n (once_length ∙ sym fill) (each_length n ∙ sym fill)
          (λ k l. once_block k l ∙ sym (each_block n (omega (arith, fill)) k l))

      pub starts_agree : (W H : ℕ) → aux_init Once C W H ≡ aux_init Each C W H
      unfolding aux_init
      starts_agree W H =
          ap (λ (image : List Float).
          let zeros = replicate (W * H) f0 in
          record { plane = init_pixels image C.own W H; prior = init_pixels image C.own W H; gradient = zeros; across = zeros; down = zeros; saved = init_dct_target C zeros }) images_agree

      pub starts_alike : (one other : Reorder) (W H : ℕ) → aux_init one C W H ≡ aux_init other C W H
      starts_alike Each Each W H = refl
      starts_alike Once Once W H = refl
      starts_alike Once Each W H = starts_agree W H
      starts_alike Each Once W H = sym (starts_agree W H)
