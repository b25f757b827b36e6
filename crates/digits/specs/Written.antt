-- How numbers, fields and lines are written, in a sheet and in what is printed.
use Rattle.std.specs.Prelude.{ℕ, zero, suc, ◌+◌, ◌/◌, ◌%◌, List, [], ◌∷◌, ◌++◌, cond, ltb}

-- the decimal digits of n, at most k of them
abbrev pub digits_of : ℕ → ℕ → List ℕ
digits_of zero n = []
digits_of (suc k) n = cond (ltb n 10) ((48 + n) ∷ []) (digits_of k (n / 10) ++ (48 + n % 10) ∷ [])

unfoldable pub decimal : ℕ → List ℕ
decimal n = digits_of 6 n

-- the last k hexadecimal digits of n
abbrev pub hex_byte : ℕ → ℕ
hex_byte d = cond (ltb d 10) (48 + d) (87 + d)

abbrev pub hex_of : ℕ → ℕ → List ℕ
hex_of zero n = []
hex_of (suc k) n = hex_of k (n / 16) ++ hex_byte (n % 16) ∷ []

-- fields parted by one tab
abbrev pub joined : List (List ℕ) → List ℕ
joined [] = []
joined (f ∷ []) = f
joined (f ∷ (g ∷ fs)) = f ++ 9 ∷ joined (g ∷ fs)

-- lines ended by byte 10
abbrev pub ended : List (List ℕ) → List ℕ
ended [] = []
ended (l ∷ ls) = l ++ 10 ∷ ended ls

-- the bytes of a line whose fields have these lengths: each field and the byte after it
abbrev pub row_bytes : List ℕ → ℕ
row_bytes [] = 0
row_bytes (m ∷ ms) = m + 1 + row_bytes ms
