-- What a setting's letter chooses, and letters and readers by their numbers.
use Rattle.std.specs.Prelude.{ℕ, cond, eqb, Option, Some, None}
use Rattle.contents.specs.declared.Letter.{Letter}
use Rattle.contents.specs.declared.Letter.TheVariants as letter
use Rattle.contents.specs.declared.Reader.{Reader}
use Rattle.contents.specs.declared.Reader.TheVariants as reader

-- by a setting's letter the first or the second value; the first where no line says it
abbrev pub chosen : {A : Type 0} → Option Letter → A → A → A
chosen None x y = x
chosen (Some letter.First) x y = x
chosen (Some letter.Second) x y = y

-- 1 is the second letter, every other number the first
abbrev pub letter_from : ℕ → Letter
letter_from n = cond (eqb n 1) letter.Second letter.First

-- 1 is a partner, every other number staff
abbrev pub reader_from : ℕ → Reader
reader_from n = cond (eqb n 1) reader.Partner reader.Staff
