-- What start writes at each place of saved.
use mathlib.Core.Path.{◌≡◌, ap, ◌∙◌, sym}
use mathlib.Core.List.{List}
use Prim.Native.Nat.{ℕ, ◌+◌, ◌*◌, ◌%◌, ◌<◌, ◌≤◌}
use native.Mathlib.Omega.{arith}
use lib.ListN.{length, set}
use lib.Ieee.{Float, nan}
use Rattle.fold.specs.Fold.{upto}
use Rattle.fold.proofs.Loops.{upto_ext, upto_nest}
use Rattle.fold.proofs.Grid.{column_of}
use Rattle.fold.proofs.Turned.{turn_at, turned_above, turned_at}
use Rattle.float.specs.Names.{val}
use Rattle.interval.specs.Interval.{dequantised}
use Rattle.start.specs.Coef.{Coef, Eights, block_count, dequantise, dequantise_at, init_dct_target, px_count, quant_at}
use Rattle.start.proofs.Cover.{blocks_fill}

abbrev start_value : (ℕ → Float) → List ℕ → ℕ → Float → Float
start_value middle table k x = dequantised (middle k) (quant_at table (k % 64))

-- all blocks as one loop over their places
target_loop : (C : Coef) (out : List Float) → init_dct_target C out ≡ upto (turn_at nan (start_value C.middle C.table)) (block_count C.own * 64) out
unfolding init_dct_target dequantise
target_loop C out =
    let v = start_value C.middle C.table in
    upto_ext (dequantise C.middle C.table) (λ i t. upto (λ j. turn_at nan v (i * 64 + j)) 64 t) (block_count C.own) out
    (λ i t b. upto_ext (dequantise_at C.middle C.table i) (λ j. turn_at nan v (i * 64 + j)) 64 t
    (λ j s m. ap (λ (q : ℕ). set s (i * 64 + j) (dequantised (C.middle (i * 64 + j)) (quant_at C.table q))) (sym (column_of i 64 j m))))
    ∙ upto_nest (turn_at nan v) 64 (block_count C.own) out

module _ (C : Coef) (e : Eights C.own) where
  count : ℕ
  count = block_count C.own * 64

  fill : count ≡ px_count C.own
  unfolding count
  fill = blocks_fill C.own.width C.own.height e.0 e.1

  -- saved at the start: level × quantiser over the first w × h places, and past them what was lent
  pub init_dct_target_at : (out : List Float) → px_count C.own ≤ length out → (k : ℕ) → k < px_count C.own
      → val (init_dct_target C out) k ≡ dequantised (C.middle k) (quant_at C.table (k % 64))
  unfolding count
  init_dct_target_at out h k l =
      ap (λ (s : List Float). val s k) (target_loop C out)
      ∙ turned_at nan (start_value C.middle C.table) out count (omega (arith, fill)) k (omega (arith, fill))

  pub init_dct_target_above : (out : List Float) (k : ℕ) → px_count C.own ≤ k → val (init_dct_target C out) k ≡ val out k
  unfolding count
  init_dct_target_above out k l =
      ap (λ (s : List Float). val s k) (target_loop C out) ∙ turned_above nan (start_value C.middle C.table) out count k (omega (arith, fill))
