-- Where the pieces stand: what the scanning functions promise.
use Rattle.std.specs.Prelude.{ℕ, ◌≤◌, ◌≡◌, List, length, drop}
use Rattle.text.specs.declared.pieces.Line.{Line}
use Rattle.text.specs.Pieces.{split, before}

-- the first line of a text
pub record IsLine (text : List ℕ) (r : Line) : Type 0 where
  pub long : r.length ≡ length (before 10 text)
  pub fields : r.fields ≡ length (split 9 (before 10 text))

-- field i of a row starts at the place a
pub record AtField (row : List ℕ) (i a : ℕ) : Type 0 where
  pub inside : a ≤ length row
  pub rest : split 9 (drop a row) ≡ drop i (split 9 row)
