-- The answers of calls in numbers: a refusal's in the table, which text it is about, and its line there.
use Rattle.std.specs.Prelude.{ℕ, List, ◌++◌, codes, decimal, Option, Some, None, Result, Ok, Err}
use Rattle.refusal.specs.Refusal.{number_of}
use Rattle.refusal.specs.Refusal as table
use Rattle.stitch.specs.declared.Side.{Side}
use Rattle.stitch.specs.declared.Side.TheVariants as side
use Rattle.stitch.specs.declared.Refused.{Refused}

-- 1 left, 2 right, 0 neither
abbrev pub which_of : Option Side → ℕ
which_of None = 0
which_of (Some side.Left) = 1
which_of (Some side.Right) = 2

pub record Numbers : Type 0 where
  pub number : ℕ
  pub which : ℕ
  pub line : ℕ

abbrev pub numbers : Refused → Numbers
numbers r = record { number = number_of r.refusal; which = which_of r.which; line = r.line }

abbrev pub numbered : {A : Type 0} → Result A Refused → Result A Numbers
numbered (Ok x) = Ok x
numbered (Err r) = Err (numbers r)

-- what is printed of a refusal: its number and word, which text it is about, and its line there
abbrev pub shown : Refused → List ℕ
shown r = table.shown r.refusal ++ (codes " of text " ++ (decimal (which_of r.which) ++ (codes " at line " ++ decimal r.line)))
