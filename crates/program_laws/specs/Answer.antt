-- What any answer of the program looks like, byte for byte, whatever it was computed from: one
-- complete picture, or one numbered refusal.
use Rattle.std.specs.Prelude.{ℕ, ◌+◌, ◌-◌, ◌*◌, ◌≡◌, ◌≢◌, ◌<◌, ◌≤◌, ◌⊎◌}
use Rattle.std.specs.Prelude.{List, [], ◌∷◌, ◌++◌, length, All, replicate}
use Rattle.std.specs.List.{AllZip}
use Rattle.refusal.specs.declared.Refusal.{Refusal}
use Rattle.refusal.specs.declared.Refusal.TheVariants.{Blown}
use Rattle.refusal.specs.Refusal.{number_of}
use Rattle.digits.specs.Written.{joined}
use Rattle.fold.specs.Join.{join_upto}

-- ---- a field

-- '0' to '9'
abbrev pub IsDigit : ℕ → Type 0
IsDigit byte = (48 ≤ byte) × (byte ≤ 57)

-- '0' to '9' or 'a' to 'f'
abbrev pub IsHexDigit : ℕ → Type 0
IsHexDigit byte = IsDigit byte ⊎ ((97 ≤ byte) × (byte ≤ 102))

-- the number that decimal digits say after others, which say n
abbrev pub said_after : ℕ → List ℕ → ℕ
said_after n [] = n
said_after n (digit ∷ digits) = said_after (10 * n + (digit - 48)) digits

-- a number in decimal digits, with a zero in front only where it is alone
pub record IsNumber (n : ℕ) (field : List ℕ) : Type 0 where
  pub some : 0 < length field
  pub digits : All IsDigit field
  pub value : said_after 0 field ≡ n
  pub unpadded : (rest : List ℕ) → field ≡ 48 ∷ rest → rest ≡ []

-- so many hexadecimal digits
pub record IsHex (count : ℕ) (field : List ℕ) : Type 0 where
  pub long : length field ≡ count
  pub digits : All IsHexDigit field

-- what stands in a field
pub data Kind : Type 0 where
  Number : ℕ → Kind
  Hex : ℕ → Kind

abbrev pub IsField : Kind → List ℕ → Type 0
IsField (Number n) field = IsNumber n field
IsField (Hex count) field = IsHex count field

-- ---- a line, and several

-- a line: its letter and fields of these kinds, parted by one tab, and byte 10 at its end
pub record IsLine (letter : ℕ) (kinds : List Kind) (text : List ℕ) : Type 0 where
  pub fields : List (List ℕ)
  pub each : AllZip IsField kinds fields
  pub bytes : text ≡ joined ((letter ∷ []) ∷ fields) ++ 10 ∷ []

-- n texts, one after the other, of which the one number k, from 0, is as `IsPart k` says
pub record IsParts (IsPart : ℕ → List ℕ → Type 0) (n : ℕ) (text : List ℕ) : Type 0 where
  pub part : ℕ → List ℕ
  pub bytes : text ≡ join_upto part n
  pub each : (k : ℕ) → k < n → IsPart k (part k)

-- ---- an answer

-- the lines `T` of a run of so many steps: its channel, the step from 1, and two totals of 64 bits
abbrev pub IsRun : ℕ → ℕ → List ℕ → Type 0
IsRun steps channel =
    IsParts (λ k. IsLine 84 (Number channel ∷ Number (k + 1) ∷ Hex 16 ∷ Hex 16 ∷ [])) steps

-- One complete picture: the lines `T` of its runs, channels rising; a line `K` with a number for
-- each channel, at most 1,024; a line `I` with width and height; and so many lines `R` as it is high, each of so
-- many pixels as it is wide.
pub record IsPicture (text : List ℕ) : Type 0 where
  pub channels : ℕ
  pub steps : ℕ → ℕ
  pub clipped : ℕ → ℕ
  pub width : ℕ
  pub height : ℕ
  pub totals : List ℕ
  pub numbers : List ℕ
  pub sides : List ℕ
  pub rows : List ℕ
  pub bytes : text ≡ totals ++ (numbers ++ (sides ++ rows))
  pub one_or_three : (channels ≡ 1) ⊎ (channels ≡ 3)
  pub few_steps : (c : ℕ) → steps c ≤ 1000
  pub few_clipped : (c : ℕ) → c < channels → clipped c ≤ 1024
  pub wide : (1 ≤ width) × (width ≤ 32)
  pub high : (1 ≤ height) × (height ≤ 32)
  pub totals_lines : IsParts (λ c. IsRun (steps c) c) channels totals
  pub numbers_lines : IsParts (λ c. IsLine 75 (Number c ∷ Number (clipped c) ∷ [])) channels numbers
  pub sides_line : IsLine 73 (Number width ∷ Number height ∷ []) sides
  pub rows_lines : IsParts (λ y. IsLine 82 (replicate width (Hex 6))) height rows

-- One numbered refusal: a line `X` with a number of the table of refusals, and the number of the
-- text's bad line, from 1. A sheet whose solving blows up is refused for no line, by 0, and no other
-- text is.
pub record IsRefusal (text : List ℕ) : Type 0 where
  pub refusal : Refusal
  pub line : ℕ
  pub place : ((refusal ≡ Blown) × (line ≡ 0)) ⊎ ((refusal ≢ Blown) × (1 ≤ line))
  pub bytes : IsLine 88 (Number (number_of refusal) ∷ Number line ∷ []) text

abbrev pub IsAnswer : List ℕ → Type 0
IsAnswer text = IsPicture text ⊎ IsRefusal text
