-- What follows for those who call the library or run the program: branches for a blown channel that are never taken. Each is a theorem.
use Rattle.std.specs.Prelude.{◌≡◌, ◌≢◌, Bool, true, false, ◌||◌, List, ℕ, ◌<◌, T, eqb, Result}
use Rattle.start.specs.Buffers.{Buffers}
use Rattle.start.specs.Coef.{Levels}
use Rattle.contents.specs.declared.Limits.{Limits}
use Rattle.contents.specs.declared.Sheet.{Sheet}
use Rattle.contents.specs.declared.Reader.{Reader}
use Rattle.contents.specs.Sheets.{Lent}
use Rattle.contents.specs.Marks.{seen_by}
use Rattle.contents.specs.Legal.{LegalSheet}
use Rattle.sheet.specs.Reading.{Contents, read_text}
use Rattle.sheet.specs.Reading.Outcome.{Gives}
use Rattle.calls.specs.Run.{place}
use Rattle.calls.specs.Calls as Calls
use Rattle.calls.specs.Calls.{all}
use Rattle.record.specs.declared.Run.{Run}
use Rattle.refusal.specs.declared.Refusal.{Refusal}
use Rattle.record.specs.declared.Accepted.{Accepted}
use Rattle.record.specs.Model.{sheet_of, places_of, answer_of}
use Rattle.serve.specs.Serve.{ServeIs}
use Rattle.rounds.specs.declared.Ran.{Ran}
use Rattle.rounds.specs.Whole as ending
use Rattle.rounds.specs.Whole.{Loan, ending_of}
use Rattle.solve.specs.Solve.{blows, SolveIs}
use Rattle.program.specs.Printed.{levels_of, limits, printed, solved_text}
use Rattle.mild.specs.Mild.{mild}
use Rattle.unblown.specs.Sheet.{MildSheet}

-- a byte of `serve`: accepted, or refused by 9, 11 or 12; 255 and 10 are none of them
abbrev pub calm_byte : ℕ → Bool
calm_byte n = eqb n 0 || (eqb n 9 || eqb n 11 || eqb n 12)

-- what `serve` leaves where it is not refused: such bytes only, and a record with no mark
pub record ServedCalmly (bytes' : List ℕ) (r' : Run) : Type 0 where
  pub bytes_calm : T (all calm_byte bytes')
  pub unmarked : (c : ℕ) → c < r'.count → (place (places_of r') c).mark ≡ false

-- `serve` never answers 255
abbrev pub ServeNeverBlown : Type 0
ServeNeverBlown = (r : Run) → mild (sheet_of r) ≡ true → (js cs bytes : List ℕ) (levels : Levels) (tables : List ℕ) (B : Buffers) (a : Result Accepted Refusal) (r' : Run) (bytes' : List ℕ) (B' : Buffers)
    → ServeIs r js cs bytes levels tables B a r' bytes' B' → answer_of a ≡ Calls.done → ServedCalmly bytes' r'

-- `solve` never answers `Blown`
abbrev pub SolveNeverBlown : Type 0
SolveNeverBlown = (S : Sheet) → MildSheet S → (levels : Levels) (tables : List ℕ) (L : Loan) (a : Result Ran Refusal) (ks : List ℕ) (L' : Loan)
    → SolveIs S levels tables L a ks L' → ending_of a ≢ ending.blown

-- a sheet with legal levels and tables, whoever read them, does not blow
abbrev pub ContentsNeverBlow : Type 0
ContentsNeverBlow = (limits : Limits) (S : Sheet) (b : Lent) → LegalSheet limits S b → MildSheet S → blows S (levels_of b) b.tables ≡ false

-- so it is of every text, whoever reads it, staff or partner
abbrev pub ReadNeverBlows : Type 0
ReadNeverBlows = (limits : Limits) (text : List ℕ) (c : Contents) (who : Reader) → read_text limits text ≡ Gives c → MildSheet c.sheet
    → blows c.sheet (levels_of (seen_by who c.held)) (seen_by who c.held).tables ≡ false

-- `smooth` never prints `X`, 10 and 0 for a text that is read as a mild sheet: it prints the lines `T` and `K` and the picture
abbrev pub SmoothPaints : Type 0
SmoothPaints = (text : List ℕ) (c : Contents) → read_text limits text ≡ Gives c → MildSheet c.sheet
    → printed text ≡ solved_text c.sheet (levels_of c.held.lent) c.held.lent.tables
