-- What each reader sees of a text, up to the picture. Document 02, M-110: "Two legal texts that differ only in legal levels after the first level or pair of marked
-- blocks give a partner the same levels, planes, totals, clipped numbers and picture." Theorems, `partner_sees`, `refused_alike`, `seen_legal` and `staff_shown` of
-- proofs/Partner.antt.
use Rattle.std.specs.Prelude.{ℕ, ◌≡◌, Bool, List, [], Float}
use Rattle.contents.specs.declared.Limits.{Limits}
use Rattle.contents.specs.declared.Sheet.{Sheet}
use Rattle.contents.specs.declared.Reader.{Reader}
use Rattle.contents.specs.declared.Reader.TheVariants as reader
use Rattle.contents.specs.Sheets.{Lent, Marked, held}
use Rattle.contents.specs.Marks.{seen_by}
use Rattle.contents.specs.Legal.{LegalSheet}
use Rattle.sheet.specs.Reading.{Outcome, Contents, contents, read_text}
use Rattle.sheet.specs.Reading.Outcome.{Gives, Refused}
use Rattle.grammar.specs.Accepts.{TextOf}
use Rattle.grammar.specs.Partner.{SameToPartner}
use Rattle.grammar.specs.Written.{written}
use Rattle.solve.specs.Solve.{planes, blows, totals_of, clipped_at}
use Rattle.program.specs.Printed.{levels_of, rounding_of, painted, limits, printed, sheet_text}

-- What a reader gets of a sheet: its levels and tables, and all that is computed from them. `blown` says whether there are planes at all, and `shown` is what
-- `smooth` would print: the totals, the clipped numbers and the picture, or 10
pub record Seen : Type 0 where
  pub sheet : Sheet
  pub lent : Lent
  pub blown : Bool
  pub planes : List Float
  pub totals : List Float
  pub clipped : ℕ → ℕ
  pub picture : List ℕ
  pub shown : List ℕ

abbrev pub seen_of : Sheet → Lent → Seen
seen_of s b =
    let ls = levels_of b in
    let ts = b.tables in
    record {
      sheet = s;
      lent = b;
      blown = blows s ls ts;
      planes = planes s ls ts;
      totals = totals_of s ls ts;
      clipped = clipped_at s ls ts;
      picture = painted (rounding_of s.settings.rounding) s.header (planes s ls ts);
      shown = sheet_text s ls ts;
    }

-- what a reader gets of a text, or its refusal
abbrev pub seen : Reader → Outcome Contents → Outcome Seen
seen who (Gives c) = Gives (seen_of c.sheet (seen_by who c.held))
seen who (Refused k line) = Refused k line

-- "Two legal texts that differ only in legal levels after the first level or pair of marked blocks": each is how legal contents are written
pub record DifferHidden (limits : Limits) (text text' : List ℕ) (one other : Contents) : Type 0 where
  pub legal : TextOf limits one.sheet one.held text
  pub legal' : TextOf limits other.sheet other.held text'
  pub alike : SameToPartner one other

-- Non-interference: both are read, and a partner sees the same
pub record PartnerSees (limits : Limits) (text text' : List ℕ) (one other : Contents) : Type 0 where
  pub accepted : read_text limits text ≡ Gives one
  pub accepted' : read_text limits text' ≡ Gives other
  pub same : seen reader.Partner (read_text limits text) ≡ seen reader.Partner (read_text limits text')

-- "Illegal levels are refused alike for both readers": whether and how a text is refused does not depend on the reader
pub record RefusedAlike (limits : Limits) (text : List ℕ) : Type 0 where
  pub alike : (who : Reader) (k line : ℕ) → seen who (read_text limits text) ≡ Refused k line → read_text limits text ≡ Refused k line

-- What any reader gets is a legal sheet again, so `solve` does not refuse it
pub record SeenLegal (limits : Limits) (text : List ℕ) (c : Contents) : Type 0 where
  pub legal : read_text limits text ≡ Gives c → (who : Reader) → LegalSheet limits c.sheet (seen_by who c.held)

-- `smooth` reads as staff: without its lines `N` a text prints the same totals, numbers and picture, or the same 10
pub record StaffShown (text : List ℕ) (s : Sheet) (b : Lent) (rs : List Bool) (ms : List Marked) : Type 0 where
  pub same : read_text limits text ≡ contents s (held b rs ms) → printed text ≡ printed (written s (held b rs []))
