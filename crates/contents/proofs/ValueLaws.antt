-- The value of a legal weight is finite and has no sign bit.
use Prim.Native.Nat.{ℕ, zero, suc, ◌+◌, ◌*◌, ◌%◌, ◌/◌, ◌^◌, ◌<◌, ◌≤◌}
use mathlib.Core.Path.{◌≡◌, sym, ap}
use mathlib.Core.Bool.{true, false, not}
use native.Mathlib.Omega.{arith}
use native.Mathlib.Nat.{lt_of_le_of_lt, mul-le-mul_right, mul-one}
use lib.Dec.{lit<}
use lib.Ieee.{Float, nan, inf, fin, binary32, hid, odd, of_int, of_bits, of_fields}
use lib.Ieee.Exact.{HasValue, odd_sign, round_exact}
use borrow.Author.Tests.{ne_eqb, lt-leb}
use Rattle.contents.specs.declared.Weight.{Weight}
use Rattle.contents.specs.declared.Weight.TheVariants as weight
use Rattle.contents.specs.Weights.{value_of, plain}
use Rattle.contents.specs.Legal.{LegalWeight}

signed : (x : Float) (a c : ℕ) → HasValue x false a c → plain x ≡ true
signed nan a c h = absurd h
signed (inf s) a c h = absurd h
signed (fin s m e) a c h = ap not h.0

-- "the whole form exactly": its value is the whole number
pub whole_exact : (n : ℕ) → n ≤ 255 → HasValue (value_of (weight.Whole n)) false n 1
unfolding value_of of_int
whole_exact n h =
    round_exact binary32 false n 1 n 149 (lit< tt) (lt_of_le_of_lt h (lit< tt))
    (lt_of_le_of_lt (mul-le-mul_right (2 ^ 149) h) (lit< tt)) (sym (mul-one (n * 2 ^ 149)))

-- the bits: the field of the exponent is not all ones
fields_plain : (x t : ℕ) → x < 255 → plain (of_fields binary32 false x t) ≡ true
unfolding of_fields
fields_plain zero t h = signed (odd 24 false t 0 149) _ _ (odd_sign 24 false t 0 149)
fields_plain (suc x) t h = rw (ne_eqb (suc x) 255 (λ e. omega arith)) (signed (odd 24 false (hid binary32 + t) x 149) _ _ (odd_sign 24 false (hid binary32 + t) x 149))

-- both legal forms give a finite f32 with no sign bit
pub legal_plain : (w : Weight) → LegalWeight w → plain (value_of w) ≡ true
unfolding value_of of_bits
legal_plain (weight.Bits n) h = rw (lt-leb 0x80000000 n (omega arith)) (fields_plain (n % 0x80000000 / 0x800000) (n % 0x800000) (omega arith))
legal_plain (weight.Whole n) h = signed (value_of (weight.Whole n)) n 1 (whole_exact n h)
