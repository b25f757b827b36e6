-- A block's rows in the gradient where each own sample has one place.
use mathlib.Core.Path.{◌≡◌, ap, ◌∙◌, sym}
use mathlib.Core.List.{List}
use Prim.Native.Nat.{ℕ, ◌+◌, ◌*◌, ◌/◌, ◌<◌, ◌≤◌}
use native.Mathlib.Nat.{mul_comm}
use native.Mathlib.Omega.{arith}
use lib.Ieee.{Float, nan}
use lib.IntN.{ℤ, pos}
use lib.ListN.{get_or, length, set}
use Rattle.fold.specs.Fold.{upto}
use Rattle.fold.specs.Part.{part}
use Rattle.fold.proofs.Grid.{row_end}
use Rattle.fold.proofs.Loops.{upto_ext}
use Rattle.fold.proofs.Parts.{part_at}
use Rattle.float.specs.Names.{val}
use Rattle.float.specs.Ops.{fused}
use Rattle.utils.specs.Blocks.{row_start}
use Rattle.start.specs.declared.coef.Own.{Own}
use Rattle.start.specs.Coef.{Covers, Lent, change, mid_at, pairs, px_count}
use Rattle.interval.specs.Interval.{mid}
use Rattle.fidelity.specs.DctGradient.{cell_at, cell_row, cosb_at, cosb_of, spread}

one_place : (f : Float → Float) (o : Own) (W cy cx : ℕ) (g : List Float) → o.horizontal ≡ 1 → o.vertical ≡ 1
    → change f o W cy cx g ≡ set g (cy * W + cx) (f (val g (cy * W + cx)))
unfolding change upto
one_place f o W cy cx g h v =
    let k : (cy * 1 + 0) * W + (cx * 1 + 0) ≡ cy * W + cx = omega arith in
    rw (v, h) (ap (λ (p : ℕ). set g p (f (val g p))) k)

module _ (o : Own) (W H : ℕ) (covers : Covers o W H) (h : o.horizontal ≡ 1) (v : o.vertical ≡ 1) (by bx y : ℕ) where
  -- row y of the block (by, bx) lies within the full plane
  pub row_within : by < o.height / 8 → bx < o.width / 8 → y < 8 → row_start W by bx y + 8 ≤ W * H
  row_within p q r =
      let wide = rw h at covers.horizontal_cover in
      let tall = rw v at covers.vertical_cover in
      omega (arith, wide, tall, row_end (by * 8 + y) H W (omega (arith, tall)), mul_comm W H)

  pub row_added : (alpha : Float) (cosbs g : List Float) → length cosbs ≡ 64 → y < 8
      → upto (λ j t. set t (row_start W by bx y + j) (fused alpha (val (part cosbs (y * 8) (y * 8 + 8)) j) (val t (row_start W by bx y + j)))) 8 g
      ≡ cell_row o W alpha cosbs by bx y g
  unfolding spread
  row_added alpha cosbs g long r =
      upto_ext (λ j t. set t (row_start W by bx y + j) (fused alpha (val (part cosbs (y * 8) (y * 8 + 8)) j) (val t (row_start W by bx y + j)))) (cell_at o W alpha cosbs by bx y) 8 g
      (λ x t l.
      let k : row_start W by bx y + x ≡ (by * 8 + y) * W + (bx * 8 + x) = omega arith in
      let e : val (part cosbs (y * 8) (y * 8 + 8)) x ≡ val cosbs (y * 8 + x) = part_at cosbs (y * 8) (y * 8 + 8) (omega arith) (omega arith) x nan (omega arith) in
      ap (λ (p : ℕ). set t p (fused alpha (val (part cosbs (y * 8) (y * 8 + 8)) x) (val t p))) k
      ∙ ap (λ (u : Float). set t ((by * 8 + y) * W + (bx * 8 + x)) (fused alpha u (val t ((by * 8 + y) * W + (bx * 8 + x))))) e
      ∙ sym (one_place (fused alpha (val cosbs (y * 8 + x))) o W (by * 8 + y) (bx * 8 + x) t h v))

-- row y of block i of the saved coefficients, by the parts of the levels and quantisers that are lent
pub differences : (o : Own) (lows highs : List ℤ) (table : List ℕ) → Lent o (pairs lows highs) table → (i y : ℕ) → i * 64 + 64 ≤ px_count o → y < 8 → (x : List Float)
    → upto (λ j t. set t (y * 8 + j) (cosb_of
    (mid (get_or (part lows (i * 64 + y * 8) (i * 64 + y * 8 + 8)) j (pos 0)) (get_or (part highs (i * 64 + y * 8) (i * 64 + y * 8 + 8)) j (pos 0)))
    (get_or (part table (y * 8) (y * 8 + 8)) j 0) (val t (y * 8 + j)))) 8 x
    ≡ upto (λ j. cosb_at (mid_at (pairs lows highs)) table i (y * 8 + j)) 8 x
differences o lows highs table lent i y h r x =
    let a = i * 64 + y * 8 in
    upto_ext (λ j t. set t (y * 8 + j) (cosb_of (mid (get_or (part lows a (a + 8)) j (pos 0)) (get_or (part highs a (a + 8)) j (pos 0))) (get_or (part table (y * 8) (y * 8 + 8)) j 0) (val t (y * 8 + j))))
    (λ j. cosb_at (mid_at (pairs lows highs)) table i (y * 8 + j)) 8 x
    (λ j t l.
    let k : a + j ≡ i * 64 + (y * 8 + j) = omega arith in
    let low : get_or (part lows a (a + 8)) j (pos 0) ≡ get_or lows (i * 64 + (y * 8 + j)) (pos 0) =
    part_at lows a (a + 8) (omega arith) (omega arith) j (pos 0) (omega arith) ∙ ap (λ (p : ℕ). get_or lows p (pos 0)) k in
    let high : get_or (part highs a (a + 8)) j (pos 0) ≡ get_or highs (i * 64 + (y * 8 + j)) (pos 0) =
    part_at highs a (a + 8) (omega arith) (omega arith) j (pos 0) (omega arith) ∙ ap (λ (p : ℕ). get_or highs p (pos 0)) k in
    let q : get_or (part table (y * 8) (y * 8 + 8)) j 0 ≡ get_or table (y * 8 + j) 0 =
    part_at table (y * 8) (y * 8 + 8) (omega arith) (omega arith) j 0 (omega arith) in
    rw (low, high, q))
