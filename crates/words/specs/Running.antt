-- The words of a line that runs on into the next where it has too few, each ended by one space or
-- by the line's end, and the number that a word's lowercase digits spell.
use Rattle.std.specs.Prelude.{Bool, true, ◌&&◌, ◌||◌, List, [], ◌∷◌, ◌++◌, ℕ, zero, suc, Option, ◌+◌, ◌*◌, ◌%◌, ◌^◌, ◌==◌, ltb, cond, position}
use Rattle.std.specs.List.{fold}
use Rattle.std.specs.Char.{digit_value, is_ascii_uppercase}
use Rattle.words.specs.Words.{before, behind}

-- where a line's first word ends: at a space, or at byte 10
abbrev pub word_end : List ℕ → Option ℕ
word_end line = position (λ b. b == 32 || b == 10) line

-- what stands before that place, or all of the line, and what stands behind the byte there
abbrev pub first_word : List ℕ → List ℕ
first_word line = before (word_end line) line

abbrev pub after_word : List ℕ → List ℕ
after_word line = behind (word_end line) line

-- what stands behind the first k words
abbrev pub from_word : ℕ → List ℕ → List ℕ
from_word zero line = line
from_word (suc k) line = after_word (from_word k line)

-- a lowercase hexadecimal digit's value; 0 for another byte
abbrev pub digit : ℕ → ℕ
digit b = cond (is_ascii_uppercase b) 0 (cond (ltb (digit_value b) 16) (digit_value b) 0)

-- the number that hexadecimal digits spell, modulo 2^32
abbrev pub number : List ℕ → ℕ
number word = fold (λ v b. ((v * 16) % 2 ^ 32 + digit b) % 2 ^ 32) 0 word

module _ {T : Type 0} where
  -- f of the numbers that the first k words are
  abbrev pub values_of : (ℕ → T) → ℕ → List ℕ → List T
  values_of f zero line = []
  values_of f (suc k) line = values_of f k line ++ f (number (first_word (from_word k line))) ∷ []

  -- whether f says so of each value and the number that the word at its place is
  abbrev pub same_values : (T → ℕ → Bool) → List ℕ → List T → Bool
  same_values f line [] = true
  same_values f line (x ∷ xs) = f x (number (first_word line)) && same_values f (after_word line) xs
