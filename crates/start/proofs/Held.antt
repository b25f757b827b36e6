-- The image that is reordered after each block, from an array `held` that does not move: what a block brings is stored where `held` keeps it, and after
-- the last block each unit is read from there. Assumes nothing.
use mathlib.Core.Path.{◌≡◌, ap, ap₂, ◌∙◌, sym}
use mathlib.Core.Logic.{◌⊎◌, inl, inr, ⊎_elim, ◌≢◌}
use mathlib.Core.List.{List}
use Prim.Native.Nat.{ℕ, zero, suc, ◌+◌, ◌-◌, ◌*◌, ◌/◌, ◌%◌, ◌<◌, ◌≤◌}
use native.Mathlib.Nat.{eq-or-lt_of_le, le_refl, not-suc-le-zero, zero-mul, div-add-mod', div-lt_iff_lt-mul, mod-lt, mul_assoc, mul_comm, ne_of_lt}
use native.Mathlib.Omega.{arith}
use lib.ListN.{length, replicate, length-replicate}
use lib.Seq.{ext_get_or}
use lib.Ieee.{Float, nan}
use Rattle.std.proofs.lemmas.Bool.{cases_lt}
use Rattle.std.proofs.lemmas.List.{get_or-replicate}
use Rattle.fold.specs.Fold.{upto}
use Rattle.fold.proofs.Grid.{in_grid}
use Rattle.fold.proofs.Loops.{upto-keeps, upto_ext, upto_nest}
use Rattle.fold.proofs.Parts.{part_at, part_length, part_splice, splice_after, splice_before}
use Rattle.fold.proofs.Scatter.{send_at, sent_at, sent_length, sent_other}
use Rattle.fold.proofs.Stores.{store_at, stored-at, stored_length}
use Rattle.float.specs.Names.{f0, val}
use Rattle.utils.specs.Blocks.{block_of, copy8, copy_at, from_blocks, on_block, row_index, row_start}
use Rattle.utils.specs.Dct.{idct8x8}
use Rattle.utils.proofs.Lengths.{idct_length, on_block_length}
use Rattle.utils.proofs.Moves.{from_at}
use Rattle.interval.specs.Interval.{dequantised}
use Rattle.start.specs.declared.coef.Own.{Own}
use Rattle.start.specs.Coef.{Coef, Eights, block_count, block_h, block_w, dequantise, held_unit, image_block, image_data, px_count, quant_at, transformed}
use Rattle.start.proofs.Lengths.{dequantise_length}
use Rattle.start.proofs.Once.{dequantised_block, each_length, fill, once_block, once_length}
use Rattle.start.proofs.Units.{held_in, held_one, held_step, power, power_in}

-- the loops of the code: row y of block k stored, all its rows, and unit u read; w is the own width and p the power
abbrev pub put : ℕ → ℕ → List Float → ℕ → ℕ → List Float → List Float
put w p blocks k y held = copy8 blocks ((k * 8 + y) * 8) (held_unit w p (k * 8 + y) * 8) held

abbrev pub hold : ℕ → List Float → ℕ → List Float → List Float
hold w blocks k held = upto (put w (power w k) blocks k) 8 held

abbrev pub take_unit : ℕ → ℕ → List Float → ℕ → List Float → List Float
take_unit w p held u image = copy8 held (held_unit w p u * 8) (u * 8) image

-- ---- a block stored

module _ (w p : ℕ) (blocks : List Float) (k : ℕ) where
  abbrev to : ℕ → ℕ
  to j = held_unit w p (k * 8 + j / 8) * 8 + j % 8

  abbrev one : ℕ → List Float → List Float
  one = send_at nan (λ j. val blocks (k * 64 + j)) to

  put_flat : (a : List Float) → upto (put w p blocks k) 8 a ≡ upto one 64 a
  put_flat a =
      upto_ext (put w p blocks k) (λ y t. upto (λ c. one (y * 8 + c)) 8 t) 8 a
      (λ y t l. upto_ext (copy_at blocks ((k * 8 + y) * 8) (held_unit w p (k * 8 + y) * 8)) (λ c. one (y * 8 + c)) 8 t
      (λ c s m.
      let row : (y * 8 + c) / 8 ≡ y = omega arith in
      let column : (y * 8 + c) % 8 ≡ c = omega arith in
      let from : (k * 8 + y) * 8 + c ≡ k * 64 + (y * 8 + c) = omega arith in
      rw (row, column, from)))
      ∙ upto_nest one 8 8 a

  put_length : (a : List Float) → length (upto (put w p blocks k) 8 a) ≡ length a
  put_length a = ap length (put_flat a) ∙ sent_length nan (λ j. val blocks (k * 64 + j)) to 64 a

  module _ (a : List Float) (only : (u v : ℕ) → held_unit w p u ≡ held_unit w p v → u ≡ v) where
    put_in : (y c : ℕ) → ((v : ℕ) → v < k * 8 + 8 → held_unit w p v * 8 + 8 ≤ length a) → y < 8 → c < 8
        → val (upto (put w p blocks k) 8 a) (held_unit w p (k * 8 + y) * 8 + c) ≡ val blocks ((k * 8 + y) * 8 + c)
    put_in y c long l m =
        let row : (y * 8 + c) / 8 ≡ y = omega arith in
        let column : (y * 8 + c) % 8 ≡ c = omega arith in
        let from : k * 64 + (y * 8 + c) ≡ (k * 8 + y) * 8 + c = omega arith in
        ap₂ (λ (s : List Float) (q : ℕ). val s q) (put_flat a) (ap₂ (λ (r d : ℕ). held_unit w p (k * 8 + r) * 8 + d) (sym row) (sym column))
        ∙ sent_at nan (λ j. val blocks (k * 64 + j)) to 64 a
        (λ j n. omega (arith, long (k * 8 + j / 8) (omega arith)))
        (λ i j q r e. let same = only (k * 8 + i / 8) (k * 8 + j / 8) (omega arith) in omega arith)
        (y * 8 + c) (omega arith)
        ∙ ap (val blocks) from

    put_other : (u c : ℕ) → u / 8 ≢ k → c < 8 → val (upto (put w p blocks k) 8 a) (held_unit w p u * 8 + c) ≡ val a (held_unit w p u * 8 + c)
    put_other u c n m =
        ap (λ (s : List Float). val s (held_unit w p u * 8 + c)) (put_flat a)
        ∙ sent_other nan (λ j. val blocks (k * 64 + j)) to 64 a (held_unit w p u * 8 + c)
        (λ j l e. n (let same = only u (k * 8 + j / 8) (omega arith) in omega arith))

-- ---- the units read

module _ (w p : ℕ) (held : List Float) where
  abbrev read : ℕ → Float
  read i = val held (held_unit w p (i / 8) * 8 + i % 8)

  take_flat : (n : ℕ) (image : List Float) → upto (take_unit w p held) n image ≡ upto (store_at nan read) (n * 8) image
  take_flat n image =
      upto_ext (take_unit w p held) (λ u t. upto (λ c. store_at nan read (u * 8 + c)) 8 t) n image
      (λ u t l. upto_ext (copy_at held (held_unit w p u * 8) (u * 8)) (λ c. store_at nan read (u * 8 + c)) 8 t
      (λ c s m.
      let row : (u * 8 + c) / 8 ≡ u = omega arith in
      let column : (u * 8 + c) % 8 ≡ c = omega arith in
      rw (row, column)))
      ∙ upto_nest (store_at nan read) 8 n image

-- ---- the bounds of both loops

module _ (o : Own) (e : Eights o) (i : ℕ) (in_blocks : i < block_count o) where
  pub wide : 0 < block_w o
  wide = some_of (block_w o) (block_h o) (omega arith)
    where
      some_of : (b h : ℕ) → 0 < b * h → 0 < b
      some_of zero h l = absurd (not-suc-le-zero (rw zero-mul at l))
      some_of (suc b) h l = omega arith

  pub power_within : (k : ℕ) → power o.width k < o.width
  power_within k = power_in o.width (block_w o) (omega (arith, e.0)) wide k

module _ (C : Coef) (e : Eights C.own) where
  abbrev w : ℕ
  w = C.own.width

  abbrev b : ℕ
  b = block_w C.own

  abbrev n : ℕ
  n = block_count C.own

  abbrev zeros : List Float
  zeros = replicate (px_count C.own) f0

  abbrev each : ℕ → List Float
  each k = upto (image_block C) k zeros

  across : w ≡ b * 8
  across = omega (arith, e.0)

  down : C.own.height ≡ block_h C.own * 8
  down = omega (arith, e.1)

  -- the image has n * 8 units, which are those of block_h stripes
  units : n * 8 ≡ block_h C.own * w
  units = ap (λ (x : ℕ). x * 8) (mul_comm b (block_h C.own)) ∙ mul_assoc (block_h C.own) b 8 ∙ ap (λ (x : ℕ). block_h C.own * x) (sym across)

  size : n * 64 ≡ px_count C.own
  size = fill C e

  -- block k dequantised into a list and transformed: the values of that block, and the others
  abbrev brought : ℕ → List Float → List Float
  brought k x = on_block idct8x8 k (dequantise C.middle C.table k x)

  module _ (k : ℕ) (in_blocks : k < n) (x : List Float) (long : length x ≡ px_count C.own) where
    ends : k * 64 + 64 ≤ length x
    ends = omega (arith, size)

    d-length : length (dequantise C.middle C.table k x) ≡ length x
    d-length = dequantise_length C.middle C.table k x

    new_length : length (idct8x8 (block_of (dequantise C.middle C.table k x) k)) ≡ k * 64 + 64 - k * 64
    new_length =
        idct_length (block_of (dequantise C.middle C.table k x) k)
        ∙ part_length (dequantise C.middle C.table k x) (k * 64) (k * 64 + 64) (omega arith) (omega (arith, d-length, ends))

    brought_block : block_of (brought k x) k ≡ block_of (transformed C) k
    brought_block =
        part_splice (dequantise C.middle C.table k x) (k * 64) (k * 64 + 64) (omega arith) (omega (arith, d-length, ends))
        (idct8x8 (block_of (dequantise C.middle C.table k x) k)) new_length
        ∙ ap idct8x8 (dequantised_block C k x ends)
        ∙ sym (once_block C e k in_blocks)

    brought_in : (j : ℕ) → j < 64 → val (brought k x) (k * 64 + j) ≡ val (transformed C) (k * 64 + j)
    brought_in j l =
        let y = brought k x in
        let ly = on_block_length idct8x8 idct_length k (dequantise C.middle C.table k x) in
        let lt = once_length C in
        sym (part_at y (k * 64) (k * 64 + 64) (omega arith) (omega (arith, d-length, ends)) j nan (omega arith))
        ∙ ap (λ (s : List Float). val s j) brought_block
        ∙ part_at (transformed C) (k * 64) (k * 64 + 64) (omega arith) (omega (arith, ends)) j nan (omega arith)

    dequantised_other : (q : ℕ) → (q < k * 64) ⊎ (k * 64 + 64 ≤ q) → val (dequantise C.middle C.table k x) q ≡ val x q
    unfolding dequantise
    dequantised_other q out =
        sent_other nan (λ j. dequantised (C.middle (k * 64 + j)) (quant_at C.table j)) (λ j. k * 64 + j) 64 x q
        (λ j l m. ⊎_elim (λ h. ne_of_lt h (omega arith)) (λ h. ne_of_lt l (omega arith)) out)

    brought_other : (q : ℕ) → (q < k * 64) ⊎ (k * 64 + 64 ≤ q) → val (brought k x) q ≡ val x q
    brought_other q out =
        let d = dequantise C.middle C.table k x in
        let ys = idct8x8 (block_of d k) in
        let fits : k * 64 + 64 ≤ length d = omega (arith, d-length, ends) in
        ⊎_elim (λ h. splice_before d (k * 64) (k * 64 + 64) (omega arith) fits ys new_length q nan h)
        (λ h.
        let at : k * 64 + 64 + (q - (k * 64 + 64)) ≡ q = omega arith in
        rw at at (splice_after d (k * 64) (k * 64 + 64) (omega arith) fits ys new_length (q - (k * 64 + 64)) nan))
        out
        ∙ dequantised_other q out

  -- ---- the induction

  module _ (some : 0 < b) where
    abbrev at : ℕ → ℕ → ℕ
    at k u = held_unit w (power w k) u

    -- after k blocks each unit of the image is in `held`
    abbrev Holds : ℕ → List Float → Type 0
    Holds k held = (u c : ℕ) → u < n * 8 → c < 8 → val held (at k u * 8 + c) ≡ val (each k) (u * 8 + c)

    at_in : (k u : ℕ) → u < n * 8 → at k u < n * 8
    at_in k u l = omega (arith, units, held_in w (block_h C.own) (power w k) u (omega (arith, units)))

    zeros_at : (q : ℕ) → q < n * 64 → val zeros q ≡ f0
    zeros_at q l = get_or-replicate (px_count C.own) q f0 nan (omega (arith, size))

    holds_none : Holds 0 zeros
    unfolding upto
    holds_none u c l m = zeros_at (at 0 u * 8 + c) (omega (arith, at_in 0 u l)) ∙ sym (zeros_at (u * 8 + c) (omega arith))

    module _ (k : ℕ) (in_blocks : k < n) (held : List Float) (long : length held ≡ px_count C.own) (holds : Holds k held) where
      lx : length (each k) ≡ px_count C.own
      lx = each_length C k

      only : (u v : ℕ) → at k u ≡ at k v → u ≡ v
      only u v i = held_one w b across some k u v i

      -- what `held` then has of unit v at its old place is what the block left at v before the reordering
      stored : (v c : ℕ) → v < n * 8 → c < 8 → val (hold w (transformed C) k held) (at k v * 8 + c) ≡ val (brought k (each k)) (v * 8 + c)
      stored v c l m = ⊎_elim inside outside (is_or (v / 8) k)
        where
          is_or : (x y : ℕ) → (x ≡ y) ⊎ ((x < y) ⊎ (y < x))
          is_or x y = ⊎_elim (λ h. inr (inl h)) (λ h. ⊎_elim (λ i. inl (sym i)) (λ g. inr (inr g)) (eq-or-lt_of_le h)) (cases_lt x y)

          inside : v / 8 ≡ k → val (hold w (transformed C) k held) (at k v * 8 + c) ≡ val (brought k (each k)) (v * 8 + c)
          inside i =
              let u : k * 8 + v % 8 ≡ v = omega arith in
              let q : k * 64 + (v % 8 * 8 + c) ≡ v * 8 + c = omega arith in
              rw u at (put_in w (power w k) (transformed C) k held only (v % 8) c
              (λ z h. omega (arith, at_in k z (omega arith), size)) (omega arith) m)
              ∙ ap (val (transformed C)) (sym q) ∙ sym (brought_in k in_blocks (each k) lx (v % 8 * 8 + c) (omega arith))
              ∙ ap (val (brought k (each k))) q

          outside : (v / 8 < k) ⊎ (k < v / 8) → val (hold w (transformed C) k held) (at k v * 8 + c) ≡ val (brought k (each k)) (v * 8 + c)
          outside o =
              put_other w (power w k) (transformed C) k held only v c (λ i. ⊎_elim (λ h. ne_of_lt h i) (λ h. ne_of_lt h (sym i)) o) m
              ∙ holds v c l m
              ∙ sym (brought_other k in_blocks (each k) lx (v * 8 + c) (⊎_elim (λ h. inl (omega arith)) (λ h. inr (omega arith)) o))

      -- unit u of the image lies in the stripe by, as unit y of the column bx of its block order
      module _ (u c : ℕ) (l : u < n * 8) (m : c < 8) where
        abbrev by : ℕ
        by = u / w

        abbrev y : ℕ
        y = u % w / b

        abbrev bx : ℕ
        bx = u % w % b

        abbrev v : ℕ
        v = by * w + (8 * bx + y)

        some_wide : 0 < w
        some_wide = omega (arith, across)

        by_in : by < block_h C.own
        by_in = (div-lt_iff_lt-mul some_wide).1 (omega (arith, units))

        y_in : y < 8
        y_in = let h : u % w < w = mod-lt u some_wide in (div-lt_iff_lt-mul some).1 (omega (arith, across))

        bx_in : bx < b
        bx_in = mod-lt (u % w) some

        v_in : v < n * 8
        v_in = omega (arith, units, across, in_grid by (block_h C.own) (8 * bx + y) w by_in (omega (arith, across, y_in, bx_in)))

        u_is : u ≡ by * w + (y * b + bx)
        u_is = sym (div-add-mod' u w) ∙ ap (λ (x : ℕ). by * w + x) (sym (div-add-mod' (u % w) b))

        by_wide : by * w ≡ by * b * 8
        by_wide = ap (λ (x : ℕ). by * x) across ∙ sym (mul_assoc by b 8)

        y_wide : y * w ≡ y * b * 8
        y_wide = ap (λ (x : ℕ). y * x) across ∙ sym (mul_assoc y b 8)

        start_is : row_start w by bx y + c ≡ u * 8 + c
        start_is =
            let h : (by * 8 + y) * w ≡ by * w * 8 + y * w = grind arith in
            let g : u * 8 ≡ (by * w + (y * b + bx)) * 8 = ap (λ (x : ℕ). x * 8) u_is in
            omega (arith, y_wide)

        index_is : row_index b by bx y + c ≡ v * 8 + c
        index_is = omega (arith, by_wide)

        moved_on : val (hold w (transformed C) k held) (at (suc k) u * 8 + c) ≡ val (each (suc k)) (u * 8 + c)
        unfolding image_block upto
        moved_on =
            let x = brought k (each k) in
            let lx = on_block_length idct8x8 idct_length k (dequantise C.middle C.table k (each k)) in
            let ld = dequantise_length C.middle C.table k (each k) in
            let le = each_length C k in
            ap (λ (q : ℕ). val (hold w (transformed C) k held) (q * 8 + c)) (ap (at (suc k)) u_is ∙ held_step w b across some k by bx y bx_in y_in)
            ∙ stored v c v_in m ∙ ap (val x) (sym index_is)
            ∙ sym (from_at w C.own.height b (block_h C.own) across down x x (omega arith) by bx y c by_in bx_in y_in m)
            ∙ ap (val (from_blocks w b (block_h C.own) x x)) start_is

      holds_more : Holds (suc k) (hold w (transformed C) k held)
      holds_more u c l m = moved_on u c l m

    holds_first : (k : ℕ) → k ≤ n → Holds k (upto (hold w (transformed C)) k zeros)
    unfolding upto
    holds_first zero l = holds_none
    holds_first (suc k) l =
        holds_more k l (upto (hold w (transformed C)) k zeros) (held_length k) (holds_first k (omega arith))
      where
        held_length : (k : ℕ) → length (upto (hold w (transformed C)) k zeros) ≡ px_count C.own
        held_length k = upto-keeps length (hold w (transformed C)) (λ j a. put_length w (power w j) (transformed C) j a) k zeros ∙ length-replicate (px_count C.own) f0

  -- what is read after the last block, into an image of any values
  pub taken : (image : List Float) → length image ≡ px_count C.own
      → upto (take_unit w (power w n) (upto (hold w (transformed C)) n zeros)) (n * 8) image ≡ image_data C
  unfolding image_data
  taken image long =
      let held = upto (hold w (transformed C)) n zeros in
      let values = read w (power w n) held in
      let ln = stored_length nan values (n * 8 * 8) image in
      take_flat w (power w n) held (n * 8) image
      ∙ ext_get_or nan (upto (store_at nan values) (n * 8 * 8) image) (each n) (ln ∙ long ∙ sym (each_length C n))
      (λ i l.
      let in_image : i < n * 64 = omega (arith, size) in
      let some = wide C.own e (i / 64) (omega arith) in
      let at : i / 8 * 8 + i % 8 ≡ i = omega arith in
      stored-at nan values image (n * 8 * 8) (omega (arith, size)) i (omega arith)
      ∙ holds_first some n (le_refl n) (i / 8) (i % 8) (omega arith) (omega arith)
      ∙ ap (val (each n)) at)
