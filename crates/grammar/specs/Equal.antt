-- Ranges whose ends are equal. Document 02, M-105: "Equal pairs must give the planes of the `B` line". A theorem, `equal_pairs` of
-- proofs/CanonicalLaws.antt.
use Rattle.std.specs.Prelude.{ℕ, ◌≡◌, List, Bool}
use Rattle.contents.specs.declared.Limits.{Limits}
use Rattle.contents.specs.declared.Sheet.{Sheet}
use Rattle.contents.specs.Sheets.{Lent, Marked, held}
use Rattle.contents.specs.Legal.{LegalBlocks}
use Rattle.sheet.specs.Reading.{contents, read_text}
use Rattle.grammar.specs.Written.{written}

-- Of an accepted text with the lines `one` for its blocks: written with any other lines that may stand for them, `B` or `G` where
-- the pairs are equal, it gives the same sheet, lows, highs and tables, of which the planes are a function
pub record EqualPairs (limits : Limits) (text : List ℕ) (s : Sheet) (b : Lent) (one other : List Bool) (ms : List Marked) : Type 0 where
  pub same : read_text limits text ≡ contents s (held b one ms) → LegalBlocks (held b other ms) → read_text limits (written s (held b other ms)) ≡ contents s (held b other ms)
