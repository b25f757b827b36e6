-- Which texts are accepted, by no reading at all: those that are how a legal sheet is written. Everything that a rule of
-- document 01 refuses is no such text, and nothing else is refused. A theorem, `accepts` of proofs/CanonicalLaws.antt.
use Rattle.std.specs.Prelude.{ℕ, ◌≡◌, List, []}
use Rattle.contents.specs.declared.Limits.{Limits}
use Rattle.contents.specs.declared.Sheet.{Sheet}
use Rattle.contents.specs.Sheets.{Held}
use Rattle.sheet.specs.Reading.{contents, read_text}
use Rattle.contents.specs.Legal.{LegalSheet, LegalBlocks, LegalMarks}
use Rattle.grammar.specs.Written.{written}

-- The text of a sheet with what it holds, within the caller's limits
pub record TextOf (limits : Limits) (s : Sheet) (h : Held) (text : List ℕ) : Type 0 where
  pub as_written : text ≡ written s h
  pub legal : LegalSheet limits s h.lent
  pub blocks : LegalBlocks h
  pub marks : LegalMarks s [] h.marks

-- A text is accepted with these contents exactly when it is their text
pub record Accepts (limits : Limits) (text : List ℕ) (s : Sheet) (h : Held) : Type 0 where
  pub only : read_text limits text ≡ contents s h → TextOf limits s h text
  pub all : TextOf limits s h text → read_text limits text ≡ contents s h
