-- Short names for reading and computing with f32 values and lists of them, as the Rust writes them, and for the f64 ones of the totals.
use Rattle.std.specs.Prelude.{ℕ, List, pos, from_bits, slice_index_or, Float}
use Rattle.std.specs.Float.{nan, binary32, binary64}
use Rattle.std.specs.Float.Ieee.{add, sub, mul, div, of_int}

infixl 68 ◌⊕◌ ◌⊖◌ ◌⊞◌
infixl 70 ◌⊗◌ ◌⊘◌
abbrev pub ◌⊕◌ : Float → Float → Float
x ⊕ y = add binary32 x y

abbrev pub ◌⊖◌ : Float → Float → Float
x ⊖ y = sub binary32 x y

abbrev pub ◌⊗◌ : Float → Float → Float
x ⊗ y = mul binary32 x y

abbrev pub ◌⊘◌ : Float → Float → Float
x ⊘ y = div binary32 x y

-- x + y of f64
abbrev pub ◌⊞◌ : Float → Float → Float
x ⊞ y = add binary64 x y

-- 0.0, 1.0, 2.0, 4.0, 255.0
abbrev pub f0 : Float
f0 = from_bits binary32 0

abbrev pub f1 : Float
f1 = from_bits binary32 0x3f800000

abbrev pub f2 : Float
f2 = from_bits binary32 0x40000000

abbrev pub f4 : Float
f4 = from_bits binary32 0x40800000

abbrev pub f255 : Float
f255 = from_bits binary32 0x437f0000

-- 0.0 of f64
abbrev pub d0 : Float
d0 = from_bits binary64 0

-- a count as f32
abbrev pub float : ℕ → Float
float n = of_int binary32 (pos n)

-- xs[k]
abbrev pub val : List Float → ℕ → Float
val xs k = slice_index_or xs k nan
