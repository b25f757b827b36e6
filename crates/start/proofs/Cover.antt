-- Blocks, own plane and full plane: how many values each has.
use mathlib.Core.Path.{◌≡◌, ap, ◌∙◌}
use Prim.Native.Nat.{ℕ, ◌+◌, ◌*◌, ◌/◌, ◌%◌, ◌<◌, ◌≤◌}
use native.Mathlib.Nat.{mul_comm, mul-mul-mul_comm, mul-le-mul, mul-le-mul_left}
use native.Mathlib.Omega.{arith}
use Rattle.fold.proofs.Grid.{row_end}
use Rattle.start.specs.Coef.{Covers, Eights}
use Rattle.start.specs.declared.coef.Own.{Own}

-- the blocks fill the own plane
pub blocks_fill : (w h : ℕ) → w % 8 ≡ 0 → h % 8 ≡ 0 → w / 8 * (h / 8) * 64 ≡ w * h
blocks_fill w h p q =
    let a : w / 8 * 8 ≡ w = omega arith in
    let b : h / 8 * 8 ≡ h = omega arith in
    mul-mul-mul_comm (w / 8) (h / 8) 8 8 ∙ ap (λ (k : ℕ). k * (h / 8 * 8)) a ∙ ap (λ (k : ℕ). w * k) b

-- the own plane is no larger than the full plane
pub own_fits : (o : Own) (W H : ℕ) → Covers o W H → o.width * o.height ≤ W * H
own_fits o W H k =
    let a : o.width ≤ W = omega (arith, mul-le-mul_left o.width k.horizontal_some) in
    let b : o.height ≤ H = omega (arith, mul-le-mul_left o.height k.vertical_some) in
    mul-le-mul a b

-- the own plane is no wider than the full plane may be
pub own_narrow : (o : Own) (W H : ℕ) → Covers o W H → o.width ≤ 512
own_narrow o W H k = omega (arith, mul-le-mul_left o.width k.horizontal_some, k.horizontal_cover, k.width_most)

-- the own sample (cx, cy) has its place within the own plane, and so within the full one
pub own_place : (o : Own) (W H : ℕ) → Covers o W H → (cy cx : ℕ) → cy < o.height → cx < o.width → (cy * o.width + cx < W * H) × (W * H ≤ 512 * 512)
own_place o W H k cy cx p q =
    (omega (arith, row_end cy o.height o.width p, mul_comm o.width o.height, own_fits o W H k), mul-le-mul k.width_most k.height_most)

-- the samples of (cx, cy) lie within the full plane: their columns in its rows, and row cy * vertical + sy in its values
abbrev pub Within : Own → ℕ → ℕ → ℕ → ℕ → ℕ → Type 0
Within o W H cy cx sy =
    (cx * o.horizontal + o.horizontal ≤ W) × (cy * o.vertical + o.vertical ≤ H) × ((cy * o.vertical + sy) * W + W ≤ W * H) × (W * H ≤ 512 * 512)

pub within : (o : Own) (W H : ℕ) → Covers o W H → (cy cx sy : ℕ) → cy < o.height → cx < o.width → sy < o.vertical → Within o W H cy cx sy
within o W H k cy cx sy p q r =
    let a : cx * o.horizontal + o.horizontal ≤ W = omega (arith, row_end cx o.width o.horizontal q, k.horizontal_cover) in
    let b : cy * o.vertical + o.vertical ≤ H = omega (arith, row_end cy o.height o.vertical p, k.vertical_cover) in
    (a, b, omega (arith, row_end (cy * o.vertical + sy) H W (omega arith), mul_comm W H), mul-le-mul k.width_most k.height_most)

-- block (bx, by) ends within the blocks, and with its 64 values within the own plane
pub block_in : (o : Own) → Eights o → (by bx : ℕ) → by < o.height / 8 → bx < o.width / 8
    → (by * (o.width / 8) + bx) * 64 + 64 ≤ o.width * o.height
block_in o e by bx p q =
    omega (arith, row_end by (o.height / 8) (o.width / 8) p, mul_comm (o.width / 8) (o.height / 8), blocks_fill o.width o.height e.0 e.1)
