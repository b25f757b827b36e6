-- What a partner gets of marked blocks. Document 02, M-110: "Two legal texts that differ only in legal levels after the first level or pair of
-- marked blocks give a partner the same levels, planes, totals, clipped numbers and picture." Theorems, `partner_blind` and `staff_unmarked` of proofs/PartnerLaws.antt.
use Rattle.std.specs.Prelude.{ℕ, suc, ◌≡◌, Bool, false, List, [], ◌∷◌, ℤ}
use Rattle.contents.specs.declared.Limits.{Limits}
use Rattle.contents.specs.declared.Sheet.{Sheet}
use Rattle.contents.specs.declared.Reader.TheVariants as reader
use Rattle.contents.specs.Sheets.{Lent, Marked, held}
use Rattle.contents.specs.Marks.{hidden, seen_by}
use Rattle.sheet.specs.Reading.{Contents, contents, read_text}
use Rattle.sheet.specs.Reading.Outcome.{Gives}
use Rattle.sheet.specs.Calls.{reading, sheet_in, lent_after}
use Rattle.grammar.specs.Written.{written}

-- levels from place i on, of the same number, that are equal wherever they are not hidden
abbrev pub SameShown : List Marked → ℕ → List ℤ → List ℤ → Type 0
SameShown ms i [] [] = Unit {0}
SameShown ms i [] (y ∷ ys) = ⊥
SameShown ms i (x ∷ xs) [] = ⊥
SameShown ms i (x ∷ xs) (y ∷ ys) = (hidden ms i ≡ false → x ≡ y) × SameShown ms (suc i) xs ys

-- What two texts hold differs only in levels after the first level or pair of marked blocks: equal header, settings, channels, tables and marks,
-- unmarked blocks equal, marked blocks equal in their first pair. Whether a line was `B` or `G` doesn't matter
pub record SameToPartner (one other : Contents) : Type 0 where
  pub sheet : one.sheet ≡ other.sheet
  pub tables : one.held.lent.tables ≡ other.held.lent.tables
  pub marks : one.held.marks ≡ other.held.marks
  pub lows : SameShown one.held.marks 0 one.held.lent.lows other.held.lent.lows
  pub highs : SameShown one.held.marks 0 one.held.lent.highs other.held.lent.highs

-- then reading them as a partner, into any buffers, gives one answer and leaves one content of the buffers: sheet, lows, highs and tables, of which
-- planes, totals, clipped numbers and picture are functions
pub record PartnerBlind (limits : Limits) (text text' : List ℕ) (one other : Contents) : Type 0 where
  pub seen : read_text limits text ≡ Gives one → read_text limits text' ≡ Gives other → SameToPartner one other → (into : Lent)
      → (sheet_in (reading limits text into) ≡ sheet_in (reading limits text' into)) × (lent_after reader.Partner (reading limits text into) into ≡ lent_after reader.Partner (reading limits text' into) into)

-- "`smooth` reads as staff": lines `N` change nothing of what the staff reads. Without them the text gives the same sheet, lows, highs and tables
pub record StaffUnmarked (limits : Limits) (text : List ℕ) (s : Sheet) (b : Lent) (rs : List Bool) (ms : List Marked) : Type 0 where
  pub same : read_text limits text ≡ contents s (held b rs ms) → read_text limits (written s (held b rs [])) ≡ contents s (held b rs [])
  pub seen : seen_by reader.Staff (held b rs ms) ≡ seen_by reader.Staff (held b rs [])
