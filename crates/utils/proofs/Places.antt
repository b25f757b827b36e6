-- Where the rows of the blocks lie, in block order and in the raster.
use mathlib.Core.Path.{◌≡◌}
use Prim.Native.Nat.{ℕ, ◌+◌, ◌-◌, ◌*◌, ◌<◌, ◌≤◌, min}
use native.Mathlib.Nat.{mul_comm, mul-mul-mul_comm, le-mul_of_pos_right, min-le_right}
use native.Mathlib.Omega.{arith}
use Rattle.fold.proofs.Grid.{in_grid, row_end}
use Rattle.utils.specs.Blocks.{row_index, row_start, stored, taken}
use Rattle.utils.specs.declared.blocks.Order.{Order}
use Rattle.utils.specs.declared.blocks.Order.TheVariants.{Blocks, Raster}

-- row y of the block (by, bx) lies within w * h values, both ways
pub record Placed (w h bw by bx y : ℕ) : Type 0 where
  pub start : row_start w by bx y + 8 ≤ w * h
  pub index : row_index bw by bx y + 8 ≤ w * h
  pub row : by * 8 + y < w * h

pub placed : (w h bw bh by bx y : ℕ) → w ≡ bw * 8 → h ≡ bh * 8 → by < bh → bx < bw → y < 8 → Placed w h bw by bx y
placed w h bw bh by bx y e f k l m =
    let line = row_end by bh bw k in
    let row = row_end (by * 8 + y) h w (omega arith) in
    let size : w * h ≡ bw * bh * 64 = rw (e, f) (mul-mul-mul_comm bw 8 bh 8) in
    let turn = mul_comm w h in
    let turn-blocks = mul_comm bw bh in
    let tall : h ≤ h * w = le-mul_of_pos_right h (omega arith) in
    record { start = omega arith; index = omega arith; row = omega arith }

-- eight values from either of two places on
pub taken_in : (o : Order) (x y n : ℕ) → x + 8 ≤ n → y + 8 ≤ n → taken o x y + 8 ≤ n
taken_in Blocks x y n h l = h
taken_in Raster x y n h l = l

pub stored_in : (o : Order) (x y n : ℕ) → x + 8 ≤ n → y + 8 ≤ n → stored o x y + 8 ≤ n
stored_in Blocks x y n h l = l
stored_in Raster x y n h l = h

-- the sample and the pixel of `upsample_pixels`
pub record Sampled (w h W H cy cx y x : ℕ) : Type 0 where
  pub sample : cy * w + cx < w * h
  pub pixel : y * W + x < W * H

pub sampled : (w h W H cy cx y x a b : ℕ) → 0 < w → 0 < h → y < H → x < W → cy ≡ min a (h - 1) → cx ≡ min b (w - 1) → Sampled w h W H cy cx y x
sampled w h W H cy cx y x a b p q k l e f =
    let turn = mul_comm w h in
    let full-turn = mul_comm W H in
    let low : cy < h = omega (arith, min-le_right a (h - 1)) in
    let left : cx < w = omega (arith, min-le_right b (w - 1)) in
    record { sample = omega (arith, in_grid cy h cx w low left); pixel = omega (arith, in_grid y H x W k l) }
