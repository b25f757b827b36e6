-- dct_gradient.rs: the gradient of the distance of the saved coefficients from the quantised ones; and job 2, data.
use Rattle.std.specs.Prelude.{cond, List, ℕ, ◌+◌, ◌*◌, replicate, set, Float}
use Rattle.std.specs.Float.Ieee.{neg, ne}
use Rattle.fold.specs.Fold.{upto}
use Rattle.fold.specs.Part.{part}
use Rattle.float.specs.Ops.{fused, square}
use Rattle.float.specs.Names.{◌⊘◌, f0, float, val}
use Rattle.utils.specs.Dct.{idct8x8}
use Rattle.steps.specs.Step.{data_alpha}
use Rattle.start.specs.declared.coef.Own.{Own}
use Rattle.start.specs.Coef.{Coef, block_w, block_h, quant_at, change}

-- cosb = level.mul_add(-quantiser, cosb); cosb /= quantiser.powi(2)
unfoldable pub cosb_of : Float → ℕ → Float → Float
cosb_of level q cosb = fused level (neg (float q)) cosb ⊘ square (float q)

abbrev pub cosb_at : (ℕ → Float) → List ℕ → ℕ → ℕ → List Float → List Float
cosb_at middle table i j cosbs = set cosbs j (cosb_of (middle (i * 64 + j)) (quant_at table j) (val cosbs j))

-- block i of the saved coefficients (cos), copied, differenced and transformed
unfoldable pub cosbs_of : (ℕ → Float) → List ℕ → List Float → ℕ → List Float
cosbs_of middle table cos i = idct8x8 (upto (cosb_at middle table i) 64 (part cos (i * 64) (i * 64 + 64)))

-- gradient[spot] = alpha.mul_add(v, gradient[spot]), for each sx, for each sy
unfoldable pub spread : Own → ℕ → Float → Float → ℕ → ℕ → List Float → List Float
spread o W alpha v cy cx g = change (fused alpha v) o W cy cx g

-- the 64 values of the block (block_x, block_y): for each in_x, for each in_y
abbrev pub cell_at : Own → ℕ → Float → List Float → ℕ → ℕ → ℕ → ℕ → List Float → List Float
cell_at o W alpha cosbs by bx y x g = spread o W alpha (val cosbs (y * 8 + x)) (by * 8 + y) (bx * 8 + x) g

abbrev pub cell_row : Own → ℕ → Float → List Float → ℕ → ℕ → ℕ → List Float → List Float
cell_row o W alpha cosbs by bx y g = upto (cell_at o W alpha cosbs by bx y) 8 g

unfoldable pub spread_block : Own → ℕ → Float → List Float → ℕ → ℕ → List Float → List Float
spread_block o W alpha cosbs by bx g = upto (cell_row o W alpha cosbs by bx) 8 g

-- a block, a line of blocks, all lines
unfoldable pub gradient_block : Coef → ℕ → Float → List Float → ℕ → ℕ → List Float → List Float
gradient_block C W alpha cos by bx g =
    let i = by * block_w C.own + bx in
    spread_block C.own W alpha (cosbs_of C.middle C.table cos i) by bx g

abbrev pub gradient_line : Coef → ℕ → Float → List Float → ℕ → List Float → List Float
gradient_line C W alpha cos by g = upto (gradient_block C W alpha cos by) (block_w C.own) g

unfoldable pub dct_gradient : Coef → ℕ → Float → List Float → List Float → List Float
dct_gradient C W alpha cos g = upto (gradient_line C W alpha cos) (block_h C.own) g

-- Job 2, as `solver_step` has it: the gradient zeroed, then dct_gradient if the data weight isn't 0. Saved is only read.
unfoldable pub data_gradient : Coef → ℕ → ℕ → Float → List Float → List Float
data_gradient C W H weight saved =
    let zeros = replicate (W * H) f0 in
    cond (ne weight f0) (dct_gradient C W (data_alpha weight) saved zeros) zeros
