-- Every definition keeps the length of what it changes, with no bound on any place.
use mathlib.Core.Path.{◌≡◌, refl, ap, ◌∙◌, sym}
use mathlib.Core.List.{List, ◌++◌}
use Prim.Native.Nat.{ℕ, zero, suc, ◌+◌, ◌-◌, ◌*◌, ◌≤◌}
use native.Mathlib.Omega.{arith}
use lib.ListN.{drop, length, length-append, length-set, take, take-append-drop}
use lib.Ieee.{Float}
use lib.Seq.{length-take-le}
use Rattle.std.proofs.lemmas.List.{take-append-le, drop-append-le, append_assoc, length-drop}
use Rattle.fold.specs.Fold.{upto}
use Rattle.fold.specs.Part.{part, splice}
use Rattle.fold.proofs.Loops.{upto-keeps}
use Rattle.utils.specs.Auxiliary.{upsample_at, upsample_pixels, upsample_row}
use Rattle.utils.specs.Blocks.{copy_at, from_blocks, move_block, move_line, move_lines, move_row, on_block, row_index, row_start, to_blocks}
use Rattle.utils.specs.Dct.{columns_rows, dct8, dct8x8, idct8, idct8x8, on_column, on_line, on_row}
use Rattle.utils.proofs.Opened.{dct_is, from_is, idct_is, to_is, upsample_is}

-- a loop over lists
loop : (f : ℕ → List Float → List Float) → ((k : ℕ) (a : List Float) → length (f k a) ≡ length a) → (n : ℕ) (a : List Float) → length (upto f n a) ≡ length a
loop f h n a = upto-keeps length f h n a

-- ---- the transforms

line_length : (f : List Float → List Float) (b d : ℕ) (s : List Float) → length (on_line f b d s) ≡ length s
unfolding on_line
line_length f b d s = simp length-set

columns_rows_length : (f : List Float → List Float) (s : List Float) → length (columns_rows f s) ≡ length s
columns_rows_length f s =
    loop (on_row f) (λ j a. line_length f (j * 8) 1 a) 8 (upto (on_column f) 8 s) ∙ loop (on_column f) (λ j a. line_length f j 8 a) 8 s

pub idct_length : (s : List Float) → length (idct8x8 s) ≡ length s
idct_length s = ap length (sym (idct_is s)) ∙ columns_rows_length idct8 s

pub dct_length : (s : List Float) → length (dct8x8 s) ≡ length s
dct_length s = ap length (sym (dct_is s)) ∙ columns_rows_length dct8 s

-- ---- a part changed, one block, the first n blocks

module _ (f : List Float → List Float) (keeps : (s : List Float) → length (f s) ≡ length s) where
  pub part_changed_length : (a e : ℕ) (xs : List Float) → length (splice xs a e (f (part xs a e))) ≡ length xs
  part_changed_length a e xs =
      let l = drop a xs in
      let n = e - a in
      let put : length (f (take n l) ++ drop n l) ≡ length l =
      length-append (f (take n l)) (drop n l) ∙ ap (λ (k : ℕ). k + length (drop n l)) (keeps (take n l))
      ∙ sym (length-append (take n l) (drop n l)) ∙ ap length (take-append-drop n l) in
      length-append (take a xs) (f (take n l) ++ drop n l) ∙ ap (λ (k : ℕ). length (take a xs) + k) put
      ∙ sym (length-append (take a xs) l) ∙ ap length (take-append-drop a xs)

  pub on_block_length : (i : ℕ) (xs : List Float) → length (on_block f i xs) ≡ length xs
  on_block_length i xs = part_changed_length (i * 64) (i * 64 + 64) xs

  pub blocks_length : (n : ℕ) (xs : List Float) → length (upto (on_block f) n xs) ≡ length xs
  blocks_length n xs = loop (on_block f) on_block_length n xs

  -- what stands after a list whose blocks are changed stays as it is
  on_block_within : (i : ℕ) (xs ys : List Float) → i * 64 + 64 ≤ length xs → on_block f i (xs ++ ys) ≡ on_block f i xs ++ ys
  on_block_within i xs ys h =
      let a = i * 64 in
      let n = i * 64 + 64 - a in
      let l = drop a xs in
      let long : n ≤ length l = omega (arith, length-drop a xs) in
      rw (take-append-le a xs ys (omega arith), drop-append-le a xs ys (omega arith), take-append-le n l ys long, drop-append-le n l ys long)
      (simp append_assoc)

  blocks_append : (n : ℕ) (xs ys : List Float) → n * 64 ≤ length xs → upto (on_block f) n (xs ++ ys) ≡ upto (on_block f) n xs ++ ys
  unfolding upto
  blocks_append zero xs ys h = refl
  blocks_append (suc n) xs ys h =
      ap (on_block f n) (blocks_append n xs ys (omega arith))
      ∙ on_block_within n (upto (on_block f) n xs) ys (omega (arith, blocks_length n xs))

  -- the blocks of the first m values
  pub blocks_within : (n m : ℕ) (xs : List Float) → m ≤ length xs → n * 64 ≤ m → upto (on_block f) n (take m xs) ++ drop m xs ≡ upto (on_block f) n xs
  blocks_within n m xs h k =
      sym (blocks_append n (take m xs) (drop m xs) (omega (arith, length-take-le m xs h)))
      ∙ ap (upto (on_block f) n) (take-append-drop m xs)

-- ---- the orders of blocks and raster

move_lines_length : (from to : ℕ → ℕ → ℕ → ℕ) (input : List Float) (bw bh : ℕ) (output : List Float) → length (move_lines from to input bw bh output) ≡ length output
move_lines_length from to input bw bh output =
    loop (move_line from to input bw)
    (λ by a. loop (move_block from to input by)
    (λ bx b. loop (move_row from to input by bx) (λ y c. loop (copy_at input (from by bx y) (to by bx y)) (λ k d. simp length-set) 8 c) 8 b) bw a)
    bh output

pub from_blocks_length : (w bw bh : ℕ) (input output : List Float) → length (from_blocks w bw bh input output) ≡ length output
from_blocks_length w bw bh input output = ap length (sym (from_is w bw bh input output)) ∙ move_lines_length (row_index bw) (row_start w) input bw bh output

pub to_blocks_length : (w bw bh : ℕ) (input output : List Float) → length (to_blocks w bw bh input output) ≡ length output
to_blocks_length w bw bh input output = ap length (sym (to_is w bw bh input output)) ∙ move_lines_length (row_start w) (row_index bw) input bw bh output

-- ---- the upsampling

pub upsample_length : (image : List Float) (w h horizontal vertical W H : ℕ) (out : List Float) → length (upsample_pixels image w h horizontal vertical W H out) ≡ length out
upsample_length image w h horizontal vertical W H out =
    ap length (sym (upsample_is image w h horizontal vertical W H out))
    ∙ loop (upsample_row image w h horizontal vertical W)
    (λ y a. loop (upsample_at image w h horizontal vertical W y) (λ x b. simp length-set) W a) H out
