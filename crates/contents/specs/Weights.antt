-- What a weight is worth.
use Rattle.std.specs.Prelude.{Bool, false, not, pos, Float}
use Rattle.std.specs.Float.{nan, inf, fin, binary32}
use Rattle.std.specs.Float.Ieee.{of_bits, of_int}
use Rattle.contents.specs.declared.Weight.{Weight}
use Rattle.contents.specs.declared.Weight.TheVariants as weight

-- the weight as an f32: the bits are its bits, a whole number is that number
unfoldable pub value_of : Weight → Float
unfolding of_bits of_int
value_of (weight.Bits n) = of_bits binary32 n
value_of (weight.Whole n) = of_int binary32 (pos n)

-- a finite f32 with no sign bit
abbrev pub plain : Float → Bool
plain nan = false
plain (inf s) = false
plain (fin s m e) = not s
