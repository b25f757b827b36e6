-- Every definition keeps the length of what it changes, with no bound on any place.
use mathlib.Core.Path.{◌≡◌, ◌∙◌}
use mathlib.Core.List.{List}
use Prim.Native.Nat.{ℕ, ◌*◌}
use lib.ListN.{length, replicate, length-replicate}
use lib.Ieee.{Float, ne}
use Rattle.fold.proofs.Loops.{upto-keeps}
use Rattle.float.specs.Ops.{fused}
use Rattle.float.specs.Names.{f0}
use Rattle.steps.specs.Step.{data_alpha}
use Rattle.fold.proofs.Choice.{length-cond}
use Rattle.start.specs.declared.coef.Own.{Own}
use Rattle.start.proofs.Lengths.{change_length}
use Rattle.start.specs.Coef.{Coef, block_h, block_w}
use Rattle.fidelity.specs.DctGradient.{cell_at, cell_row, cosbs_of, data_gradient, dct_gradient, gradient_block, gradient_line, spread, spread_block}

spread_length : (o : Own) (W : ℕ) (alpha v : Float) (cy cx : ℕ) (g : List Float) → length (spread o W alpha v cy cx g) ≡ length g
unfolding spread
spread_length o W alpha v cy cx g = change_length (fused alpha v) o W cy cx g

gradient_block_length : (C : Coef) (W : ℕ) (alpha : Float) (cos : List Float) (by bx : ℕ) (g : List Float) → length (gradient_block C W alpha cos by bx g) ≡ length g
unfolding gradient_block spread_block
gradient_block_length C W alpha cos by bx g =
    let cosbs = cosbs_of C.middle C.table cos _ in
    upto-keeps length (cell_row C.own W alpha cosbs by bx) (λ y a. upto-keeps length (cell_at C.own W alpha cosbs by bx y) (λ x b. spread_length C.own W alpha _ _ _ b) 8 a) 8 g

pub dct_gradient_length : (C : Coef) (W : ℕ) (alpha : Float) (cos g : List Float) → length (dct_gradient C W alpha cos g) ≡ length g
unfolding dct_gradient
dct_gradient_length C W alpha cos g =
    upto-keeps length (gradient_line C W alpha cos) (λ by a. upto-keeps length (gradient_block C W alpha cos by) (gradient_block_length C W alpha cos by) (block_w C.own) a) (block_h C.own) g

pub data_gradient_length : (C : Coef) (W H : ℕ) (weight : Float) (saved : List Float) → length (data_gradient C W H weight saved) ≡ W * H
unfolding data_gradient
data_gradient_length C W H weight saved =
    let zeros = replicate (W * H) f0 in
    let n : length zeros ≡ W * H = length-replicate (W * H) f0 in
    length-cond (ne weight f0) (dct_gradient C W (data_alpha weight) saved zeros) zeros (W * H) (dct_gradient_length C W (data_alpha weight) saved zeros ∙ n) n
