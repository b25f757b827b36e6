-- The worked example of document 01 on `idct8x8`, by computation.
use mathlib.Core.Path.{◌≡◌, refl}
use mathlib.Core.List.{◌∷◌}
use mathlib.Core.Bool.{false}
use lib.ListN.{replicate}
use lib.IntN.{pos, negsuc}
use lib.Ieee.{fin}
use Rattle.utils.specs.Dct.{idct8x8}

-- `idct8x8` of first value 8, rest 0: all 64 are 1 - 2 ^ -24
pub flat : idct8x8 (fin false 1 (pos 3) ∷ replicate 63 (fin false 0 (pos 0))) ≡ replicate 64 (fin false 16777215 (negsuc 23))
unfolding idct8x8
flat = refl
