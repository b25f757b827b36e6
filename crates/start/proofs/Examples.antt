-- The worked example of document 01 on the start, with either letter, by computation.
use mathlib.Core.Path.{◌≡◌, refl}
use mathlib.Core.List.{List, ◌∷◌, ◌++◌}
use mathlib.Core.Bool.{false}
use lib.Count.{count_trailing_zeros}
use lib.IntN.{pos, negsuc}
use lib.ListN.{replicate}
use lib.Ieee.{Float, fin, add, sub, mul, div, sum, round, units, odd, size, span, climb, of_bits, of_fields, neg, ne, eq, lt, of_int}
use Rattle.fold.specs.Fold.{upto}
use Rattle.float.specs.Names.{f0}
use Rattle.float.specs.Ops.{mul_add, product, clamp}
use Rattle.utils.specs.Blocks.{from_blocks}
use Rattle.utils.specs.Dct.{on_line, idct8, idct8x8}
use Rattle.utils.specs.Auxiliary.{upsample_pixels}
use Rattle.interval.specs.Interval.{dequantised, mid}
use Rattle.start.specs.declared.coef.Reorder.TheVariants.{Each, Once}
use Rattle.start.specs.Coef.{Coef, coef, dequantise, image_block, image_data, image_once, init_dct_target, pairs}
use Rattle.start.specs.Auxiliary.{aux_init, init_pixels}

-- "Width 16, height 8, block 0 first level 1, q 8, block 1 zero"
abbrev wide : Coef
wide = coef (record { width = 16; height = 8; horizontal = 1; vertical = 1 }) (pairs (pos 1 ∷ replicate 127 (pos 0)) (pos 1 ∷ replicate 127 (pos 0))) (replicate 64 8)

-- v = 1 − 2⁻²⁴
abbrev v : Float
v = fin false 16777215 (negsuc 23)

-- a row with v in its left half, and a row of zeros
abbrev lit : List Float
lit = replicate 8 v ++ replicate 8 f0

abbrev dark : List Float
dark = replicate 16 f0

-- "the start has v in the left half of even rows, else 0"
pub striped : (aux_init Each wide 16 8).plane ≡ lit ++ (dark ++ (lit ++ (dark ++ (lit ++ (dark ++ (lit ++ dark))))))
unfolding aux_init init_pixels image_data image_block dequantise dequantised mid idct8x8 on_line idct8 from_blocks upsample_pixels upto count_trailing_zeros add sub mul div sum round units odd size span climb of_bits of_fields neg ne eq lt of_int mul_add product clamp
striped = refl

-- M-102, `o`: v in all rows of the left half, else 0
pub placed : (aux_init Once wide 16 8).plane ≡ lit ++ (lit ++ (lit ++ (lit ++ (lit ++ (lit ++ (lit ++ lit))))))
unfolding aux_init init_pixels image_once init_dct_target dequantise dequantised mid idct8x8 on_line idct8 from_blocks upsample_pixels upto count_trailing_zeros add sub mul div sum round units odd size span climb of_bits of_fields neg ne eq lt of_int mul_add product clamp
placed = refl
