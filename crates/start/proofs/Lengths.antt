-- Every definition keeps the length of what it changes, with no bound on any place.
use mathlib.Core.Path.{◌≡◌, ◌∙◌}
use mathlib.Core.List.{List}
use Prim.Native.Nat.{ℕ, ◌*◌}
use lib.ListN.{length, replicate, length-set, length-replicate}
use lib.Ieee.{Float}
use Rattle.fold.proofs.Loops.{upto-keeps}
use Rattle.float.specs.Names.{f0}
use Rattle.utils.proofs.Lengths.{upsample_length}
use Rattle.start.specs.declared.coef.Own.{Own}
use Rattle.start.specs.Coef.{Coef, block_count, dequantise, dequantise_at, init_dct_target, change, change_at, change_row}
use Rattle.start.specs.Auxiliary.{init_pixels}

pub dequantise_length : (middle : ℕ → Float) (table : List ℕ) (i : ℕ) (out : List Float) → length (dequantise middle table i out) ≡ length out
unfolding dequantise
dequantise_length middle table i out = upto-keeps length (dequantise_at middle table i) (λ k a. simp length-set) 64 out

pub init_dct_target_length : (C : Coef) (out : List Float) → length (init_dct_target C out) ≡ length out
unfolding init_dct_target
init_dct_target_length C out = upto-keeps length (dequantise C.middle C.table) (dequantise_length C.middle C.table) (block_count C.own) out

pub init_pixels_length : (image : List Float) (o : Own) (W H : ℕ) → length (init_pixels image o W H) ≡ W * H
unfolding init_pixels
init_pixels_length image o W H =
    upsample_length image o.width o.height o.horizontal o.vertical W H (replicate (W * H) f0) ∙ length-replicate (W * H) f0

-- what is done to each place of an own sample
pub change_length : (f : Float → Float) (o : Own) (W cy cx : ℕ) (p : List Float) → length (change f o W cy cx p) ≡ length p
unfolding change
change_length f o W cy cx p = upto-keeps length (change_row f o W cy cx) (λ sy a. upto-keeps length (change_at f o W cy cx sy) (λ sx b. simp length-set) o.horizontal a) o.vertical p
