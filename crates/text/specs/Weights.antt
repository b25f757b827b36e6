-- "A weight is `h` with eight lowercase hexadecimal digits, the f32 bits, or `w` with 0 to 255; a weight field that isn't a
-- bit form is read as a whole number after its `w`, and any other spelling is 1."
use Rattle.refusal.specs.declared.Refusal.TheVariants as refusal
use Rattle.refusal.specs.declared.Refusal.{Refusal}
use Rattle.std.specs.Prelude.{ℕ, ◌+◌, ◌-◌, ◌*◌, List, [], ◌∷◌, cond, ◌&&◌, length, get_or, eqb, leb, ltb, option_and_then, Some, None, Ok, Err, Option, Result}
use Rattle.contents.specs.declared.Weight.{Weight}
use Rattle.contents.specs.declared.Weight.TheVariants as weight
use Rattle.text.specs.Numbers.{number_of}

-- the value of one lowercase hexadecimal digit, bytes 48 to 57 and 97 to 102
abbrev pub hex_digit : ℕ → Option ℕ
hex_digit b = cond (leb 48 b && leb b 57) (Some (b - 48)) (cond (leb 97 b && leb b 102) (Some (b - 87)) None)

-- hexadecimal digits, after digits of the value n
abbrev pub hex_digits : ℕ → List ℕ → Option ℕ
hex_digits n [] = Some n
hex_digits n (b ∷ l) = option_and_then (λ d. hex_digits (n * 16 + d) l) (hex_digit b)

-- what follows the letter t; nothing where the field has another first letter
abbrev pub after_letter : ℕ → List ℕ → List ℕ
after_letter t [] = []
after_letter t (b ∷ l) = cond (eqb b t) l []

-- `h` (104) with eight lowercase hexadecimal digits
unfoldable pub bit_form : List ℕ → Option ℕ
bit_form f = cond (eqb (length (after_letter 104 f)) 8) (hex_digits 0 (after_letter 104 f)) None

-- the bits: 6 for "sign bit set, infinite, NaN", which are the patterns from 7f800000 on
abbrev pub bits_weight : ℕ → Result Weight Refusal
bits_weight n = cond (ltb n 0x7f800000) (Ok (weight.Bits n)) (Err refusal.Weight)

-- the whole number: 6 for "whole above 255"; 1 for any other spelling
abbrev pub whole_weight : Option ℕ → Result Weight Refusal
whole_weight (Some n) = cond (leb n 255) (Ok (weight.Whole n)) (Err refusal.Weight)
whole_weight None = Err refusal.Form

-- the bits, or else the whole number after its `w` (119)
abbrev pub or_whole : List ℕ → Option ℕ → Result Weight Refusal
or_whole f (Some n) = bits_weight n
or_whole f None = whole_weight (number_of (after_letter 119 f))

unfoldable pub weight_of : List ℕ → Result Weight Refusal
weight_of f = or_whole f (bit_form f)

-- the weight in field i of a line; 0 where there is none, which no legal line has
abbrev pub weight_in : Result Weight Refusal → Weight
weight_in (Ok w) = w
weight_in (Err k) = weight.Whole 0

unfoldable pub weight_at : List (List ℕ) → ℕ → Weight
weight_at fs i = weight_in (weight_of (get_or fs i []))
