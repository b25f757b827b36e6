-- What the walk over a text promises its two callers.
use Rattle.std.specs.Prelude.{ℕ, ◌≡◌, List, ◌++◌, Bool, false, length, get_or, codes, decimal, Ok, Err, Result}
use Rattle.std.proofs.lemmas.List.Edits.{sets}
use Rattle.refusal.specs.Refusal as table
use Rattle.contents.specs.declared.Limits.{Limits}
use Rattle.sheet.specs.declared.walk.Walked.{Walked}
use Rattle.sheet.specs.declared.walk.Refused as walk
use Rattle.contents.specs.Sheets.{Lent, Marked}
use Rattle.contents.specs.Marks.{among}
use Rattle.progress.specs.Progress.{most_blocks}
use Rattle.sheet.specs.Reading.{Outcome, Contents, read_text}
use Rattle.sheet.specs.Reading.Outcome.{Gives, Refused}

-- The marks as a map of all blocks: true where a block is marked, false elsewhere
pub record Bits (ms : List Marked) (bits : List Bool) : Type 0 where
  pub long : length bits ≡ most_blocks
  pub bit : (b : ℕ) → get_or bits b false ≡ among b ms

-- What an answer says: its value, or the number of its refusal in the paper's table and its line
abbrev pub said : {A : Type 0} → Result A walk.Refused → Outcome A
said (Ok x) = Gives x
said (Err r) = Refused (table.number_of r.refusal) r.line

-- What is printed of a refusal: its number and word, and its line
abbrev pub shown : walk.Refused → List ℕ
shown r = table.shown r.refusal ++ (codes " at line " ++ decimal r.line)

-- The answer of a walk
abbrev pub walked_of : Outcome Contents → Outcome Walked
walked_of (Gives c) =
    Gives (record { sheet = c.sheet; lows = length c.held.lent.lows; highs = length c.held.lent.highs; tables = length c.held.lent.tables })
walked_of (Refused k line) = Refused k line

-- A legal text's levels and quantisers were stored, as far as there is room
abbrev pub Stores : Outcome Contents → Lent → Lent → Type 0
Stores (Gives c) into after =
    (after.lows ≡ sets into.lows 0 c.held.lent.lows) × (after.highs ≡ sets into.highs 0 c.held.lent.highs) × (after.tables ≡ sets into.tables 0 c.held.lent.tables)
Stores (Refused k line) into after = Unit {0}

-- and the map has its marks
abbrev pub Maps : Outcome Contents → List Bool → Type 0
Maps (Gives c) bits = Bits c.held.marks bits
Maps (Refused k line) bits = Unit {0}

pub record Walks (limits : Limits) (text : List ℕ) (into after : Lent) (bits : List Bool) (r : Result Walked walk.Refused) : Type 0 where
  pub answer : said r ≡ walked_of (read_text limits text)
  pub stored : Stores (read_text limits text) into after
  pub mapped : Maps (read_text limits text) bits
