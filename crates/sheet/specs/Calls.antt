-- What measuring and reading promise.
use Rattle.std.specs.Prelude.{ℕ, ◌≡◌, List, Bool, cond, ◌&&◌, length, replicate, eqb, Result}
use Rattle.std.proofs.lemmas.List.Edits.{sets}
use Rattle.contents.specs.declared.Limits.{Limits}
use Rattle.contents.specs.declared.Sheet.{Sheet}
use Rattle.sheet.specs.declared.Lengths.{Lengths}
use Rattle.sheet.specs.declared.Outlined.{Outlined}
use Rattle.sheet.specs.declared.walk.Walked.{Walked}
use Rattle.sheet.specs.declared.walk.Refused as walk
use Rattle.contents.specs.declared.Reader.{Reader}
use Rattle.contents.specs.Sheets.{Lent}
use Rattle.contents.specs.Marks.{seen_by}
use Rattle.sheet.specs.Walk.{said, walked_of}
use Rattle.sheet.specs.Reading.{Outcome, Contents, read_text}
use Rattle.sheet.specs.Reading.Outcome.{Gives, Refused}

-- "a measuring call gives both lengths for a legal text, and for any other the same refusal as reading"
abbrev pub lengths_of : Outcome Contents → Outcome Lengths
lengths_of (Gives c) = Gives (record { levels = length c.held.lent.lows; tables = length c.held.lent.tables })
lengths_of (Refused k line) = Refused k line

abbrev pub measuring : Limits → List ℕ → Outcome Lengths
measuring limits text = lengths_of (read_text limits text)

-- What stands before the levels of a legal text: the sheet, and its tables at the front of places for three
abbrev pub outline_in : Contents → Outlined
outline_in c = record { sheet = c.sheet; tables = sets (replicate 192 0) 0 c.held.lent.tables }

abbrev pub outline_of : Outcome Contents → Outcome Outlined
outline_of (Gives c) = Gives (outline_in c)
outline_of (Refused k line) = Refused k line

-- the outline of a legal text, and for any other the same refusal as reading
abbrev pub outlining : Limits → List ℕ → Outcome Outlined
outlining limits text = outline_of (read_text limits text)

-- Counting a text: its answer, and a legal text's quantisers at the front of the lent tables, as far as there is room
abbrev pub Listed : Outcome Contents → List ℕ → List ℕ → Type 0
Listed (Gives c) before after = after ≡ sets before 0 c.held.lent.tables
Listed (Refused k line) before after = Unit {0}

pub record Counts (limits : Limits) (text before after : List ℕ) (r : Result Walked walk.Refused) : Type 0 where
  pub answer : said r ≡ walked_of (read_text limits text)
  pub tables : Listed (read_text limits text) before after

-- "Reading also refuses a levels or tables buffer not of the exact length (8), last"; levels are "lows and highs, two buffers of
-- the old length each" (M-105). It is no line's fault: line 0.
abbrev pub fits : Lent → Lent → Bool
fits b into =
    eqb (length b.lows) (length into.lows) && (eqb (length b.highs) (length into.highs) && eqb (length b.tables) (length into.tables))

abbrev pub fitted : Lent → Outcome Contents → Outcome Contents
fitted into (Gives c) = cond (fits c.held.lent into) (Gives c) (Refused 8 0)
fitted into (Refused k line) = Refused k line

-- Reading a text into buffers that hold these values. Who reads is not asked: "Illegal levels are refused alike for both readers"
abbrev pub reading : Limits → List ℕ → Lent → Outcome Contents
reading limits text into = fitted into (read_text limits text)

-- its answer, and the buffers afterwards: a refusal leaves "lent buffers and any record unchanged"
abbrev pub sheet_in : Outcome Contents → Outcome Sheet
sheet_in (Gives c) = Gives c.sheet
sheet_in (Refused k line) = Refused k line

abbrev pub lent_after : Reader → Outcome Contents → Lent → Lent
lent_after who (Gives c) into = seen_by who c.held
lent_after who (Refused k line) into = into

pub record Reads (limits : Limits) (who : Reader) (text : List ℕ) (into after : Lent) (r : Result Sheet walk.Refused) : Type 0 where
  pub answer : said r ≡ sheet_in (reading limits text into)
  pub lent : after ≡ lent_after who (reading limits text into) into
