-- "A number has one to six decimal digits, no plus, no zero before another digit".
use Rattle.std.specs.Prelude.{ℕ, ◌+◌, ◌-◌, ◌*◌, List, [], ◌∷◌, Bool, false, cond, ◌&&◌, length, get_or, eqb, leb, Some, None, Option}

-- decimal digits, bytes 48 to 57, after digits of the value n
abbrev pub digits : ℕ → List ℕ → Option ℕ
digits n [] = Some n
digits n (b ∷ l) = cond (leb 48 b && leb b 57) (digits (n * 10 + (b - 48)) l) None

-- a zero before another digit
abbrev pub padded : List ℕ → Bool
padded [] = false
padded (b ∷ []) = false
padded (b ∷ (d ∷ l)) = eqb b 48

unfoldable pub number_of : List ℕ → Option ℕ
number_of f = cond (leb 1 (length f) && leb (length f) 6) (cond (padded f) None (digits 0 f)) None

-- the number in field i of a line; 0 where there is none, which no legal line has
abbrev pub number_value : Option ℕ → ℕ
number_value (Some n) = n
number_value None = 0

unfoldable pub number_at : List (List ℕ) → ℕ → ℕ
number_at fs i = number_value (number_of (get_or fs i []))
