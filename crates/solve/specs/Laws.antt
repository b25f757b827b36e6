-- What holds of the whole run beyond what a call of it promises: without steps, with one channel, and without held counts.
use Rattle.std.specs.Prelude.{◌≡◌, ℕ, ◌<◌, Bool, true, false, List, [], ◌∷◌, length, Option, Some, None}
use Rattle.start.specs.Coef.{Levels}
use Rattle.contents.specs.declared.Sheet.{Sheet}
use Rattle.contents.specs.Hold.{measured}
use Rattle.calls.specs.Run.{Given}
use Rattle.calls.specs.Jobs.{kept}
use Rattle.calls.specs.Calls.{lengths, all_six}
use Rattle.demand.specs.Solver.{jobs}
use Rattle.rounds.specs.Whole.{job_count, run_blows, run_totals, Whole, last, Loan}
use Rattle.solve.specs.Solve.{whole_of, solve_refusal}

-- A run without steps leaves each channel at its start, blows none, clips nothing and has no totals.
pub record IsStart (G : Given) : Type 0 where
  pub buffers : (c : ℕ) → last G c ≡ jobs.start G c
  pub fine : run_blows G ≡ false
  pub clipped : (c : ℕ) → kept jobs G (job_count G) c ≡ 0
  pub totals : run_totals G ≡ []

abbrev pub NoSteps : Type 0
NoSteps = (G : Given) → G.sheet.N ≡ 0 → IsStart G

-- the sheet with the letter of joint mode (true) or of separate mode
abbrev pub lettered : Bool → Sheet → Sheet
lettered b S = record S { header = record S.header { joint = b } }

-- two whole runs of one channel leave the same
pub record SameWhole (one other : Whole) : Type 0 where
  pub buffers : one.buffers ≡ other.buffers
  pub totals : one.totals ≡ other.totals
  pub blown : one.blown ≡ other.blown
  pub clipped : one.clipped 0 ≡ other.clipped 0

-- With one channel both letters act alike.
abbrev pub OneChannel : Type 0
OneChannel = (S : Sheet) (levels : Levels) (tables : List ℕ) (L : Loan) → S.header.channels ≡ 1
    → solve_refusal (lettered true S) levels tables (lengths all_six L.buffers) (length L.totals) ≡ 0
    → SameWhole (whole_of (lettered true S) levels tables) (whole_of (lettered false S) levels tables)

-- the sheet with these held counts
abbrev pub saying : Sheet → ℕ → ℕ → ℕ → Sheet
saying S k l m = record S { settings = record S.settings { hold = Some (k ∷ l ∷ m ∷ []) } }

-- the sheet with the counts that it is measured against
abbrev pub spelled : Sheet → Sheet
spelled S = saying S (measured S.header 0) (measured S.header 1) (measured S.header 2)

-- A sheet without held counts is solved as the one that says each count to be the iterations that it is measured against.
abbrev pub NoHolds : Type 0
NoHolds = (S : Sheet) → S.settings.hold ≡ None → (levels : Levels) (tables : List ℕ) → whole_of S levels tables ≡ whole_of (spelled S) levels tables
