-- A line's words, parted by one space, and the number that a word spells.
use Rattle.std.specs.Prelude.{Bool, true, ◌&&◌, List, [], ◌∷◌, ◌++◌, ℕ, zero, suc, Option, Some, None, ◌+◌, ◌*◌, ◌%◌, ◌^◌, ◌==◌, ltb, cond, take, drop, position}
use Rattle.std.specs.List.{fold}
use Rattle.std.specs.Char.{digit_value}

-- where a line's first word ends
abbrev pub word_end : List ℕ → Option ℕ
word_end line = position (λ b. b == 32) line

-- what stands before that place, or all of the line, and what stands behind the space there
abbrev pub before : Option ℕ → List ℕ → List ℕ
before (Some end) line = take end line
before None line = line

abbrev pub behind : Option ℕ → List ℕ → List ℕ
behind (Some end) line = drop (end + 1) line
behind None line = []

abbrev pub first_word : List ℕ → List ℕ
first_word line = before (word_end line) line

abbrev pub after_word : List ℕ → List ℕ
after_word line = behind (word_end line) line

-- what stands behind the first k words
abbrev pub from_word : ℕ → List ℕ → List ℕ
from_word zero line = line
from_word (suc k) line = after_word (from_word k line)

-- a hexadecimal digit's value; 0 for another byte
abbrev pub digit : ℕ → ℕ
digit b = cond (ltb (digit_value b) 16) (digit_value b) 0

-- the number that hexadecimal digits spell, modulo 2^32
abbrev pub number : List ℕ → ℕ
number word = fold (λ v b. ((v * 16) % 2 ^ 32 + digit b) % 2 ^ 32) 0 word

module _ {T : Type 0} where
  -- f of the numbers that the first k words are
  abbrev pub values_of : (ℕ → T) → ℕ → List ℕ → List T
  values_of f zero line = []
  values_of f (suc k) line = values_of f k line ++ f (number (first_word (from_word k line))) ∷ []

  -- whether f says so of each value and the number that the word at its place is
  abbrev pub same_values : (T → ℕ → Bool) → List ℕ → List T → Bool
  same_values f line [] = true
  same_values f line (x ∷ xs) = f x (number (first_word line)) && same_values f (after_word line) xs

-- ---- digests

-- the digest d with one more number
abbrev pub with : ℕ → ℕ → ℕ
with d n = ((d * 31) % 2 ^ 32 + n) % 2 ^ 32

module _ {T : Type 0} where
  -- and with the numbers that f gives of the values, one after the other
  abbrev pub with_all : (T → ℕ) → ℕ → List T → ℕ
  with_all f d xs = fold (λ e x. with e (f x)) d xs
