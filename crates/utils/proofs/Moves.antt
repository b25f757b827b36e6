-- Laws of `from_blocks` and `to_blocks`: which value stands where, and that each undoes the other.
use mathlib.Core.Path.{◌≡◌, refl, ap, ◌∙◌, sym}
use mathlib.Core.Logic.{⊎_elim}
use mathlib.Core.List.{List}
use Prim.Native.Nat.{ℕ, ◌+◌, ◌*◌, ◌/◌, ◌%◌, ◌<◌, ◌≤◌}
use native.Mathlib.Nat.{div-add-mod', div-lt_iff_lt-mul, eq-zero-or-pos, lt_of_lt_of_le, mod-lt, mul_comm, mul-mul-mul_comm, ne_of_gt, not-suc-le-zero, zero-mul}
use native.Mathlib.Omega.{arith}
use lib.ListN.{length, set, take}
use lib.Seq.{ext_get_or, get_or-take, length-take-le}
use lib.Ieee.{Float, nan}
use Rattle.fold.specs.Fold.{upto}
use Rattle.fold.proofs.Loops.{upto_ext, upto_nest}
use Rattle.float.specs.Names.{val}
use Rattle.utils.specs.Blocks.{IsPlaced, block_place, copy_at, from_blocks, move_block, move_line, move_lines, move_row, raster_place, row_index, row_start, to_blocks}
use Rattle.fold.proofs.Grid.{column_of, row_of}
use Rattle.utils.proofs.Lengths.{from_blocks_length, to_blocks_length}
use Rattle.utils.proofs.Opened.{from_is, to_is}
use Rattle.utils.proofs.Places.{Placed, placed}
use Rattle.fold.proofs.Scatter.{send_at, sent_at, sent_other}

-- place i of block order is column i % 8 of row i % 64 / 8 of the block (i / 64 / bw, i / 64 % bw)
abbrev spot : (ℕ → ℕ → ℕ → ℕ) → ℕ → ℕ → ℕ
spot f bw i = f (i / 64 / bw) (i / 64 % bw) (i % 64 / 8) + i % 8

spot_is : (f : ℕ → ℕ → ℕ → ℕ) (bw by bx y k : ℕ) → bx < bw → y < 8 → k < 8 → f by bx y + k ≡ spot f bw (((by * bw + bx) * 8 + y) * 8 + k)
spot_is f bw by bx y k h l m =
    let i = ((by * bw + bx) * 8 + y) * 8 + k in
    let block : i / 64 ≡ by * bw + bx = omega arith in
    let row : i % 64 / 8 ≡ y = omega arith in
    let column : i % 8 ≡ k = omega arith in
    rw (block, row, column, row_of by bw bx h, column_of by bw bx h)

-- the four loops as one, over the places of block order
module _ (from to : ℕ → ℕ → ℕ → ℕ) (input : List Float) (bw : ℕ) where
  abbrev one : ℕ → List Float → List Float
  one = send_at nan (λ i. val input (spot from bw i)) (spot to bw)

  flat : (bh : ℕ) (output : List Float) → move_lines from to input bw bh output ≡ upto one (bh * bw * 8 * 8) output
  flat bh output =
      upto_ext (move_line from to input bw) (λ by s. upto (λ bx. block (by * bw + bx)) bw s) bh output
      (λ by s l. upto_ext (move_block from to input by) (λ bx. block (by * bw + bx)) bw s
      (λ bx t m. upto_ext (move_row from to input by bx) (λ y u. upto (λ k. one (((by * bw + bx) * 8 + y) * 8 + k)) 8 u) 8 t
      (λ y u p. upto_ext (copy_at input (from by bx y) (to by bx y)) (λ k. one (((by * bw + bx) * 8 + y) * 8 + k)) 8 u
      (λ k a q. rw (spot_is from bw by bx y k m p q, spot_is to bw by bx y k m p q)))))
      ∙ upto_nest block bw bh output
      ∙ upto_nest row 8 (bh * bw) output
      ∙ upto_nest one 8 (bh * bw * 8) output
    where
      row : ℕ → List Float → List Float
      row r u = upto (λ k. one (r * 8 + k)) 8 u

      block : ℕ → List Float → List Float
      block b t = upto (λ y. row (b * 8 + y)) 8 t

-- the place of block order that those four numbers name for i is i
index_is : (bw i : ℕ) → spot (row_index bw) bw i ≡ i
index_is bw i = omega (arith, div-add-mod' (i / 64) bw)

-- The raster has w by h places, which are bh lines of bw blocks.
module _ (w h bw bh : ℕ) (across : w ≡ bw * 8) (down : h ≡ bh * 8) where
  size : bh * bw * 8 * 8 ≡ w * h
  size =
      let e : w * h ≡ bw * bh * 64 = rw (across, down) (mul-mul-mul_comm bw 8 bh 8) in
      omega (arith, mul_comm bw bh)

  some : (i : ℕ) → i < w * h → 0 < bw
  some i l =
      ⊎_elim (λ e. let z : w ≡ 0 = omega arith in absurd (not-suc-le-zero (rw (z, zero-mul) at l))) (λ p. p) (eq-zero-or-pos bw)

  -- both maps at column k of row y of the block (by, bx)
  raster_of : (by bx y k : ℕ) → bx < bw → y < 8 → k < 8 → raster_place w bw (row_index bw by bx y + k) ≡ row_start w by bx y + k
  raster_of by bx y k l m n =
      let e : row_index bw by bx y + k ≡ ((by * bw + bx) * 8 + y) * 8 + k = omega arith in
      ap (raster_place w bw) e ∙ sym (spot_is (row_start w) bw by bx y k l m n)

  block-of : (by bx y k : ℕ) → bx < bw → y < 8 → k < 8 → block_place w bw (row_start w by bx y + k) ≡ row_index bw by bx y + k
  block-of by bx y k l m n =
      let c : bx * 8 + k < w = omega arith in
      let e : row_start w by bx y + k ≡ (by * 8 + y) * w + (bx * 8 + k) = omega arith in
      let r = row_of (by * 8 + y) w (bx * 8 + k) c in
      let d = column_of (by * 8 + y) w (bx * 8 + k) c in
      let a : (by * 8 + y) / 8 ≡ by = omega arith in
      let b : (by * 8 + y) % 8 ≡ y = omega arith in
      let f : (bx * 8 + k) / 8 ≡ bx = omega arith in
      let g : (bx * 8 + k) % 8 ≡ k = omega arith in
      rw (e, r, d, a, b, f, g)

  -- Place i of block order, with i below w * h, lies in one of the blocks.
  inside : (i : ℕ) → i < w * h → Placed w h bw (i / 64 / bw) (i / 64 % bw) (i % 64 / 8)
  inside i l =
      let n = size in
      placed w h bw bh _ _ _ across down ((div-lt_iff_lt-mul (some i l)).1 (omega arith)) (mod-lt (i / 64) (some i l)) (omega arith)

  -- The two maps are each other's inverse on the places below w * h.
  pub raster_in : (i : ℕ) → i < w * h → raster_place w bw i < w * h
  raster_in i l = omega (arith, inside i l)

  pub block_raster : (i : ℕ) → i < w * h → block_place w bw (raster_place w bw i) ≡ i
  block_raster i l = block-of (i / 64 / bw) (i / 64 % bw) (i % 64 / 8) (i % 8) (mod-lt (i / 64) (some i l)) (omega arith) (omega arith) ∙ index_is bw i

  pub block_in : (p : ℕ) → p < w * h → block_place w bw p < w * h
  block_in p l =
      let wide : 0 < w = omega (arith, some p l) in
      let c = mod-lt p wide in
      let r : p / w < h = (div-lt_iff_lt-mul wide).1 (omega (arith, mul_comm w h)) in
      omega (arith, placed w h bw bh (p / w / 8) (p % w / 8) (p / w % 8) across down (omega arith) (omega arith) (omega arith))

  pub raster_block : (p : ℕ) → p < w * h → raster_place w bw (block_place w bw p) ≡ p
  raster_block p l =
      let c : p % w < w = mod-lt p (omega (arith, some p l)) in
      let r : p / w / 8 * 8 + p / w % 8 ≡ p / w = omega arith in
      raster_of (p / w / 8) (p % w / 8) (p / w % 8) (p % w % 8) (omega arith) (omega arith) (omega arith) ∙ rw r (omega (arith, div-add-mod' p w))

  -- Each value goes to the place that its own is mapped to; what `output` has past the raster stays.
  module _ (input output : List Float) where
    from_flat : from_blocks w bw bh input output ≡ upto (send_at nan (val input) (raster_place w bw)) (w * h) output
    from_flat =
        let f = one (row_index bw) (row_start w) input bw in
        sym (from_is w bw bh input output) ∙ flat (row_index bw) (row_start w) input bw bh output ∙ ap (λ (n : ℕ). upto f n output) size
        ∙ upto_ext f (send_at nan (val input) (raster_place w bw)) (w * h) output
        (λ i a l. ap (λ (j : ℕ). set a (raster_place w bw i) (val input j)) (index_is bw i))

    to_flat : to_blocks w bw bh input output ≡ upto (send_at nan (λ i. val input (raster_place w bw i)) (λ i. i)) (w * h) output
    to_flat =
        let f = one (row_start w) (row_index bw) input bw in
        sym (to_is w bw bh input output) ∙ flat (row_start w) (row_index bw) input bw bh output ∙ ap (λ (n : ℕ). upto f n output) size
        ∙ upto_ext f (send_at nan (λ i. val input (raster_place w bw i)) (λ i. i)) (w * h) output
        (λ i a l. ap (λ (j : ℕ). set a j (val input (raster_place w bw i))) (index_is bw i))

    pub from_past : (p : ℕ) → w * h ≤ p → val (from_blocks w bw bh input output) p ≡ val output p
    from_past p g =
        ap (λ (s : List Float). val s p) from_flat
        ∙ sent_other nan (val input) (raster_place w bw) (w * h) output p (λ i l. ne_of_gt (lt_of_lt_of_le (raster_in i l) g))

    pub to_past : (p : ℕ) → w * h ≤ p → val (to_blocks w bw bh input output) p ≡ val output p
    to_past p g =
        ap (λ (s : List Float). val s p) to_flat
        ∙ sent_other nan (λ i. val input (raster_place w bw i)) (λ i. i) (w * h) output p (λ i l. ne_of_gt (lt_of_lt_of_le l g))

    module _ (long : w * h ≤ length output) where
      pub from_raster : (i : ℕ) → i < w * h → val (from_blocks w bw bh input output) (raster_place w bw i) ≡ val input i
      from_raster i l =
          ap (λ (s : List Float). val s (raster_place w bw i)) from_flat
          ∙ sent_at nan (val input) (raster_place w bw) (w * h) output (λ j m. lt_of_lt_of_le (raster_in j m) long)
          (λ j k m n e. sym (block_raster j m) ∙ ap (block_place w bw) e ∙ block_raster k n) i l

      pub from_place : (p : ℕ) → p < w * h → val (from_blocks w bw bh input output) p ≡ val input (block_place w bw p)
      from_place p l = ap (val (from_blocks w bw bh input output)) (sym (raster_block p l)) ∙ from_raster (block_place w bw p) (block_in p l)

      pub to_place : (i : ℕ) → i < w * h → val (to_blocks w bw bh input output) i ≡ val input (raster_place w bw i)
      to_place i l =
          ap (λ (s : List Float). val s i) to_flat
          ∙ sent_at nan (λ j. val input (raster_place w bw j)) (λ j. j) (w * h) output (λ j m. lt_of_lt_of_le m long) (λ j k m n e. e) i l

      -- T.81: column k of row y of the block (by, bx) is column 8 * bx + k of row 8 * by + y of the raster
      module _ (by bx y k : ℕ) (down-in : by < bh) (across-in : bx < bw) (row-in : y < 8) (column_in : k < 8) where
        index_in : row_index bw by bx y + k < w * h
        index_in = omega (arith, placed w h bw bh by bx y across down down-in across-in row-in)

        pub from_at : val (from_blocks w bw bh input output) (row_start w by bx y + k) ≡ val input (row_index bw by bx y + k)
        from_at =
            ap (val (from_blocks w bw bh input output)) (sym (raster_of by bx y k across-in row-in column_in))
            ∙ from_raster (row_index bw by bx y + k) index_in

        pub to_at : val (to_blocks w bw bh input output) (row_index bw by bx y + k) ≡ val input (row_start w by bx y + k)
        to_at = to_place (row_index bw by bx y + k) index_in ∙ ap (val input) (raster_of by bx y k across-in row-in column_in)

  -- The same as one fact of both lists.
  module _ (input output : List Float) (long : w * h ≤ length output) where
    pub from_placed : IsPlaced w bw bh input (from_blocks w bw bh input output)
    from_placed by bx y k a b c d =
        let raster : (by * 8 + y) * w + (bx * 8 + k) ≡ row_start w by bx y + k = omega arith in
        let block : row_index bw by bx y + k ≡ (by * bw + bx) * 64 + (y * 8 + k) = omega arith in
        ap (val (from_blocks w bw bh input output)) raster ∙ from_at input output long by bx y k a b c d ∙ ap (val input) block

    pub to_placed : IsPlaced w bw bh (to_blocks w bw bh input output) input
    to_placed by bx y k a b c d =
        let raster : (by * 8 + y) * w + (bx * 8 + k) ≡ row_start w by bx y + k = omega arith in
        let block : (by * bw + bx) * 64 + (y * 8 + k) ≡ row_index bw by bx y + k = omega arith in
        ap (val input) raster ∙ sym (ap (val (to_blocks w bw bh input output)) block ∙ to_at input output long by bx y k a b c d)

  -- Two lists agree in their first w * h values.
  firsts : (x y : List Float) → w * h ≤ length x → w * h ≤ length y → ((p : ℕ) → p < w * h → val x p ≡ val y p) → take (w * h) x ≡ take (w * h) y
  firsts x y a b e =
      ext_get_or nan (take (w * h) x) (take (w * h) y) (length-take-le (w * h) x a ∙ sym (length-take-le (w * h) y b))
      (λ p l.
      let m : p < w * h = omega (arith, length-take-le (w * h) x a) in
      get_or-take (w * h) x p nan m ∙ e p m ∙ sym (get_or-take (w * h) y p nan m))

  -- Each undoes the other, of the values that it moves.
  module _ (input between output : List Float) (n : w * h ≤ length input) (b : w * h ≤ length between) (o : w * h ≤ length output) where
    pub undone_by_to : take (w * h) (to_blocks w bw bh (from_blocks w bw bh input between) output) ≡ take (w * h) input
    undone_by_to =
        firsts (to_blocks w bw bh (from_blocks w bw bh input between) output) input (omega (arith, to_blocks_length w bw bh (from_blocks w bw bh input between) output)) n
        (λ i m. to_place (from_blocks w bw bh input between) output o i m ∙ from_raster input between b i m)

    pub undone_by_from : take (w * h) (from_blocks w bw bh (to_blocks w bw bh input between) output) ≡ take (w * h) input
    undone_by_from =
        firsts (from_blocks w bw bh (to_blocks w bw bh input between) output) input (omega (arith, from_blocks_length w bw bh (to_blocks w bw bh input between) output)) n
        (λ p m.
        from_place (to_blocks w bw bh input between) output o p m
        ∙ to_place input between b (block_place w bw p) (block_in p m) ∙ ap (val input) (raster_block p m))

  -- Of whole lists too.
  module _ (input between output : List Float) (n : length input ≡ w * h) (b : length between ≡ w * h) (o : length output ≡ w * h) where
    pub to_from : to_blocks w bw bh (from_blocks w bw bh input between) output ≡ input
    to_from =
        ext_get_or nan (to_blocks w bw bh (from_blocks w bw bh input between) output) input (to_blocks_length w bw bh _ output ∙ o ∙ sym n)
        (λ i l.
        let m : i < w * h = omega (arith, to_blocks_length w bw bh (from_blocks w bw bh input between) output) in
        to_place (from_blocks w bw bh input between) output (omega arith) i m ∙ from_raster input between (omega arith) i m)

    pub from_to : from_blocks w bw bh (to_blocks w bw bh input between) output ≡ input
    from_to =
        ext_get_or nan (from_blocks w bw bh (to_blocks w bw bh input between) output) input (from_blocks_length w bw bh _ output ∙ o ∙ sym n)
        (λ p l.
        let m : p < w * h = omega (arith, from_blocks_length w bw bh (to_blocks w bw bh input between) output) in
        from_place (to_blocks w bw bh input between) output (omega arith) p m
        ∙ to_place input between (omega arith) (block_place w bw p) (block_in p m) ∙ ap (val input) (raster_block p m))

-- With one block to a line both orders are the same.
pub from_one : (bh : ℕ) (x : List Float) → length x ≡ 8 * (bh * 8) → from_blocks 8 1 bh x x ≡ x
from_one bh x n =
    let long = from_blocks_length 8 1 bh x x in
    ext_get_or nan (from_blocks 8 1 bh x x) x long
    (λ p l. from_place 8 (bh * 8) 1 bh refl refl x x (omega arith) p (omega arith) ∙ ap (val x) (omega arith))
