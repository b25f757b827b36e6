-- The texts of document 01's examples, and a pixel as one number.
use mathlib.Core.Path.{◌≡◌, refl}
use mathlib.Core.List.{[], ◌∷◌, ◌++◌}
use Prim.Native.Nat.{ℕ, ◌+◌, ◌*◌, ◌/◌, ◌%◌, ◌<◌}
use native.Mathlib.Omega.{arith}
use mathlib.Core.Bool.{false}
use lib.IntN.{pos}
use lib.ListN.{replicate}
use lib.Ieee.{nan, inf, fin}
use Rattle.digits.specs.Written.{decimal, hex_of}
use Rattle.output.specs.Output.{each, picture_text, refusal_text, totals_text, clipped_text}

-- "`smooth` prints two lines, `I` tab `2` tab `1`, then `R` tab `818181` tab `818181`"
pub whole_example :
    picture_text 2 1 (replicate 6 129)
    ≡ 73 ∷ 9 ∷ 50 ∷ 9 ∷ 49 ∷ 10
    ∷ 82 ∷ 9 ∷ 56 ∷ 49 ∷ 56 ∷ 49 ∷ 56 ∷ 49 ∷ 9 ∷ 56 ∷ 49 ∷ 56 ∷ 49 ∷ 56 ∷ 49 ∷ 10 ∷ []
unfolding picture_text decimal each
whole_example = refl

-- a blown channel: `X` tab `10` tab `0`
pub blown_example : refusal_text 10 0 ≡ 88 ∷ 9 ∷ 49 ∷ 48 ∷ 9 ∷ 48 ∷ 10 ∷ []
unfolding refusal_text decimal
blown_example = refl

-- red 171, green 205 and blue 239 are `abcdef`
pub letters_example : picture_text 1 1 (171 ∷ 205 ∷ 239 ∷ []) ≡ 73 ∷ 9 ∷ 49 ∷ 9 ∷ 49 ∷ 10 ∷ 82 ∷ 9 ∷ 97 ∷ 98 ∷ 99 ∷ 100 ∷ 101 ∷ 102 ∷ 10 ∷ []
unfolding picture_text decimal each
letters_example = refl

-- M-104: "the whole example gains `K` tab `0` tab `0`"
pub clipped_example : clipped_text 0 0 ≡ 75 ∷ 9 ∷ 48 ∷ 9 ∷ 48 ∷ 10 ∷ []
unfolding clipped_text
clipped_example = refl

-- M-103: two steps of channel 2, of totals 1.0 and an infinite one, then a NaN and 0: `T` tab `2` tab `1` tab `3ff0000000000000` tab `7ff0000000000000`,
-- then `T` tab `2` tab `2` tab `7ff8000000000000` tab `0000000000000000`
pub totals_example : totals_text 2 2 (fin false 1 (pos 0) ∷ inf false ∷ nan ∷ fin false 0 (pos 0) ∷ [])
    ≡ 84 ∷ 9 ∷ 50 ∷ 9 ∷ 49 ∷ 9 ∷ 51 ∷ 102 ∷ 102 ∷ (replicate 13 48 ++ 9 ∷ 55 ∷ 102 ∷ 102 ∷ (replicate 13 48 ++ 10
    ∷ 84 ∷ 9 ∷ 50 ∷ 9 ∷ 50 ∷ 9 ∷ 55 ∷ 102 ∷ 102 ∷ 56 ∷ (replicate 12 48 ++ 9 ∷ (replicate 16 48 ++ 10 ∷ []))))
unfolding totals_text
totals_example = refl

-- the last two digits of a number, and what is before them
module _ (u b : ℕ) (h : b < 256) where
  sixteenth : (u * 256 + b) / 16 ≡ u * 16 + b / 16
  sixteenth = omega arith

  before_two : (u * 256 + b) / 16 / 16 ≡ u
  before_two = rw sixteenth (omega arith)

  last_but_one : (u * 256 + b) / 16 % 16 ≡ b / 16 % 16
  last_but_one = rw sixteenth (omega arith)

  last : (u * 256 + b) % 16 ≡ b % 16
  last = omega arith

-- "a six-digit lowercase hexadecimal RGB value": the digits of the three bytes are those of the one number that they make
pub pixel_value : (red green blue : ℕ) → red < 256 → green < 256 → blue < 256
    → hex_of 2 red ++ (hex_of 2 green ++ hex_of 2 blue) ≡ hex_of 6 ((red * 256 + green) * 256 + blue)
pixel_value red green blue p q r =
    let u = red * 256 + green in
    rw (last u blue r, last_but_one u blue r, before_two u blue r, last red green q, last_but_one red green q, before_two red green q)
