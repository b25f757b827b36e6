-- coef.rs: a channel's coefficients, the pixels that its conversion makes of them, and the saved coefficients at the start.
use Rattle.std.specs.Prelude.{◌≡◌, List, ℕ, ◌+◌, ◌*◌, ◌/◌, ◌%◌, ◌<◌, ◌≤◌, ℤ, pos, nat_abs, length, get_or, set, replicate, Float, cond, ◌==◌}
use Rattle.std.specs.Prelude.{◌-◌, if◌then◌else◌}
use Rattle.fold.specs.Fold.{upto}
use Rattle.float.specs.Names.{f0, val}
use Rattle.utils.specs.Blocks.{from_blocks, on_block}
use Rattle.utils.specs.Dct.{idct8x8}
use Rattle.interval.specs.Interval.{dequantised, mid, whole}
use Rattle.start.specs.declared.coef.Own.{Own}
use Rattle.start.specs.declared.coef.Reorder.{Reorder}
use Rattle.start.specs.declared.coef.Reorder.TheVariants.{Each, Once}

-- M-105, levels as they are lent: "a lowest and a highest level for each place"
pub record Levels : Type 0 where
  pub lows : List ℤ
  pub highs : List ℤ

abbrev pub pairs : List ℤ → List ℤ → Levels
pairs lows highs = record { lows = lows; highs = highs }

abbrev pub level_at : List ℤ → ℕ → ℤ
level_at levels k = get_or levels k (pos 0)

abbrev pub low_at : Levels → ℕ → ℤ
low_at levels k = level_at levels.lows k

abbrev pub high_at : Levels → ℕ → ℤ
high_at levels k = level_at levels.highs k

-- "Start and data gradient use the exact half sum of the pair"
abbrev pub mid_at : Levels → ℕ → Float
mid_at levels k = mid (low_at levels k) (high_at levels k)

-- ScalarCoef: own sides (rounded_px_w, rounded_px_h) and factors (horizontal, vertical), levels (dct_coefs) and quantisers (quant_table). Levels and
-- quantisers are whole numbers; `middle` is the level of each place as the f32 that start and data compute with.
pub record Coef : Type 0 where
  pub own : Own
  pub levels : Levels
  pub middle : ℕ → Float
  pub table : List ℕ

abbrev pub coef : Own → Levels → List ℕ → Coef
coef o levels table = record { own = o; levels = levels; middle = mid_at levels; table = table }

-- "a `B` level stands in both", and is itself the f32, as in the Rust
abbrev pub single : Own → List ℤ → List ℕ → Coef
single o levels table = record { own = o; levels = pairs levels levels; middle = λ k. whole (level_at levels k); table = table }

-- "Equal pairs must give the planes of the `B` line": with legal levels both are the same coefficients, and every job is a function of these. A theorem,
-- `equal_levels` of proofs/Equal.antt.
abbrev pub EqualLevels : Type 0
EqualLevels = (o : Own) (levels : List ℤ) (table : List ℕ) → ((k : ℕ) → nat_abs (level_at levels k) ≤ 2047) → coef o (pairs levels levels) table ≡ single o levels table

-- block_w, block_h, block_count, rounded_px_count
abbrev pub block_w : Own → ℕ
block_w o = o.width / 8

abbrev pub block_h : Own → ℕ
block_h o = o.height / 8

abbrev pub block_count : Own → ℕ
block_count o = block_w o * block_h o

abbrev pub px_count : Own → ℕ
px_count o = o.width * o.height

abbrev pub quant_at : List ℕ → ℕ → ℕ
quant_at table j = get_or table j 0

-- out[i * 64 + j] = dct_coefs[i * 64 + j] * quant_table[j], for each j
abbrev pub dequantise_at : (ℕ → Float) → List ℕ → ℕ → ℕ → List Float → List Float
dequantise_at middle table i j out = set out (i * 64 + j) (dequantised (middle (i * 64 + j)) (quant_at table j))

unfoldable pub dequantise : (ℕ → Float) → List ℕ → ℕ → List Float → List Float
dequantise middle table i out = upto (dequantise_at middle table i) 64 out

-- From<Coefficient>, block i: dequantised, transformed, and then the whole plane is reordered
unfoldable pub image_block : Coef → ℕ → List Float → List Float
image_block C i image =
    let x = on_block idct8x8 i (dequantise C.middle C.table i image) in
    from_blocks C.own.width (block_w C.own) (block_h C.own) x x

unfoldable pub image_data : Coef → List Float
image_data C = upto (image_block C) (block_count C.own) (replicate (px_count C.own) f0)

-- init_dct_target_into
unfoldable pub init_dct_target : Coef → List Float → List Float
init_dct_target C out = upto (dequantise C.middle C.table) (block_count C.own) out

-- all blocks dequantised and transformed, in block order
abbrev pub transformed : Coef → List Float
transformed C =
    let dequantised = init_dct_target C (replicate (px_count C.own) f0) in
    upto (on_block idct8x8) (block_count C.own) dequantised

-- M-102's start: all blocks dequantised and transformed, and then the plane is reordered once
unfoldable pub image_once : Coef → List Float
image_once C =
    let o = C.own in
    from_blocks o.width (block_w o) (block_h o) (transformed C) (transformed C)

-- A unit is a row of eight values, and a stripe of eight rows of w values has w units. In place
-- of an image that is reordered k times stands an array `held` that does not move: unit m of a
-- stripe of the image is this unit of `held`, with 8 ^ k % (w - 1) for `power`. The last one stays.
abbrev pub stripe_unit : ℕ → ℕ → ℕ → ℕ
stripe_unit w power m = if m == w - 1 then m else m * power % (w - 1)

-- the same of unit u of the whole image
abbrev pub held_unit : ℕ → ℕ → ℕ → ℕ
held_unit w power u = u / w * w + stripe_unit w power (u % w)

-- a letter as it is lent: 1 is once, any other number after each block
abbrev pub reorder_from : ℕ → Reorder
reorder_from n = cond (n == 1) Once Each

-- the image that a channel starts with
abbrev pub image_of : Reorder → Coef → List Float
image_of Each C = image_data C
image_of Once C = image_once C

-- ---- what the image reordered once is

-- the values of the levels of block i
unfoldable pub block_values : Coef → ℕ → List Float
block_values C i = upto (λ j out. set out j (dequantised (C.middle (i * 64 + j)) (quant_at C.table j))) 64 (replicate 64 f0)

-- T.81's placement with `idct8x8` as its transform: row 8 by + r, column 8 bx + k of the own plane holds value 8 r + k of block by × (w / 8) + bx
pub record Placement (C : Coef) (image : List Float) : Type 0 where
  pub long : length image ≡ px_count C.own
  pub at : (by bx r k : ℕ) → by < block_h C.own → bx < block_w C.own → r < 8 → k < 8
      → val image ((by * 8 + r) * C.own.width + (bx * 8 + k)) ≡ val (idct8x8 (block_values C (by * block_w C.own + bx))) (r * 8 + k)

-- the place in the full plane, of width W, of the subsample (sx, sy) of the own sample (cx, cy)
abbrev pub spot : Own → ℕ → ℕ → ℕ → ℕ → ℕ → ℕ
spot o W cy cx sy sx = (cy * o.vertical + sy) * W + (cx * o.horizontal + sx)

-- f done to each place of the own sample (cx, cy): for each sx, for each sy
abbrev pub change_at : (Float → Float) → Own → ℕ → ℕ → ℕ → ℕ → ℕ → List Float → List Float
change_at f o W cy cx sy sx plane = let k = spot o W cy cx sy sx in set plane k (f (val plane k))

abbrev pub change_row : (Float → Float) → Own → ℕ → ℕ → ℕ → ℕ → List Float → List Float
change_row f o W cy cx sy plane = upto (change_at f o W cy cx sy) o.horizontal plane

unfoldable pub change : (Float → Float) → Own → ℕ → ℕ → ℕ → List Float → List Float
change f o W cy cx plane = upto (change_row f o W cy cx) o.vertical plane

-- ---- what the functions ask of a channel

-- own sides that are multiples of 8
abbrev pub Eights : Own → Type 0
Eights o = (o.width % 8 ≡ 0) × (o.height % 8 ≡ 0)

-- levels of n places: "two buffers of the old length each"
abbrev pub Long : Levels → ℕ → Type 0
Long levels n = (length levels.lows ≡ n) × (length levels.highs ≡ n)

-- the channel's levels, and its 64 quantisers
abbrev pub Lent : Own → Levels → List ℕ → Type 0
Lent o levels table = Long levels (o.width * o.height) × (length table ≡ 64)

-- factors 1 to 4, and cover of full sides W and H up to 512
pub record Covers (o : Own) (W H : ℕ) : Type 0 where
  pub eights : Eights o
  pub width_some : 0 < o.width
  pub height_some : 0 < o.height
  pub horizontal_some : 0 < o.horizontal
  pub vertical_some : 0 < o.vertical
  pub horizontal_most : o.horizontal ≤ 4
  pub vertical_most : o.vertical ≤ 4
  pub horizontal_cover : o.width * o.horizontal ≤ W
  pub vertical_cover : o.height * o.vertical ≤ H
  pub width_most : W ≤ 512
  pub height_most : H ≤ 512
