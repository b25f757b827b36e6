-- A run of all its jobs (document 01, "Whole run and picture"): the buffers and numbers that it leaves, the totals of its blends, when it blows, and how it ends.
use Rattle.std.specs.Prelude.{ℕ, zero, suc, ◌+◌, ◌*◌, ◌%◌, ◌<◌, ◌≡◌, Bool, true, false, ◌&&◌, List, [], ◌∷◌, length, eqb, Float}
use Rattle.start.specs.Coef.{Levels}
use Rattle.fold.specs.Join.{join_upto}
use Rattle.start.specs.Buffers.{Buffers}
use Rattle.calls.specs.Run.{Given, count, among, place}
use Rattle.calls.specs.Buffers.{Name, get, joined}
use Rattle.calls.specs.Jobs.{fixed, kept, channel_blown, totals_at}
use Rattle.calls.specs.Calls.{lengths, all_six, start_refusal}
use Rattle.demand.specs.Solver.{jobs}
use Rattle.record.specs.declared.Run.{Run}
use Rattle.std.specs.Prelude.{Result, Ok, Err}
use Rattle.refusal.specs.declared.Refusal.{Refusal}
use Rattle.refusal.specs.Refusal.{number_of}
use Rattle.record.specs.Model.{places_of, clipped_of, given_of, placed}
use Rattle.rounds.specs.declared.Ran.{Ran}
use Rattle.rounds.specs.declared.Ran.TheVariants as ran

-- ---- what a run leaves, by what it is given

-- how many jobs a channel of the run has: 5N
abbrev pub job_count : Given → ℕ
job_count G = 5 * G.sheet.N

-- Job k of channel c, counted from 0, leaves it blown: it is a project, after which the condition of job 5 holds.
unfoldable pub blows_at : Given → ℕ → ℕ → Bool
blows_at G c k = eqb (k % 5) 4 && channel_blown G c (fixed jobs G (suc k) c)

-- any of the run's jobs does
unfoldable pub run_blows : Given → Bool
run_blows G = among (job_count G) (λ k. among (count G) (λ c. blows_at G c k))

-- document 02, M-103: both totals of the blend of step k, counted from 0, which stands at position 5k + 2
unfoldable pub pair_at : Given → ℕ → List Float
pair_at G k =
    let t = totals_at jobs G (5 * k + 2) in
    t.0 ∷ t.1 ∷ []

-- and of all N blends, step after step
unfoldable pub run_totals : Given → List Float
run_totals G = join_upto (pair_at G) G.sheet.N

pub record Whole : Type 0 where
  -- channel after channel, the six buffers as they are fixed for 5N jobs
  pub buffers : Buffers
  -- both totals of each blend
  pub totals : List Float
  -- a channel is blown
  pub blown : Bool
  -- how many channels there are, and the number that each keeps: of coefficients that its last project clipped, 0 without steps (M-104)
  pub channels : ℕ
  pub clipped : ℕ → ℕ

-- "`solve` is the plane after 5N jobs; N = 0 gives the unprojected start."
unfoldable pub last : Given → ℕ → Buffers
last G c = fixed jobs G (job_count G) c

-- a run of all its jobs
unfoldable pub run_of : Given → Whole
run_of G =
    record {
      buffers = joined (count G) (last G);
      totals = run_totals G;
      blown = run_blows G;
      channels = count G;
      clipped = kept jobs G (job_count G);
    }

-- ---- how a run ends

-- refused, by a number of the table; done; or a channel is blown
pub data Ending : Type 0 where
  refused : ℕ → Ending
  done : Ending
  blown : Ending

abbrev pub ending_of : Result Ran Refusal → Ending
ending_of (Err r) = refused (number_of r)
ending_of (Ok ran.Done) = done
ending_of (Ok ran.Blown) = blown

-- the six lent buffers
abbrev pub six : List Float → List Float → List Float → List Float → List Float → List Float → Buffers
six plane prior gradient across down saved =
    record { plane = plane; prior = prior; gradient = gradient; across = across; down = down; saved = saved }

-- what a whole run is lent: the six, and room for the totals of its blends, two places each
pub record Loan : Type 0 where
  pub buffers : Buffers
  pub totals : List Float

abbrev pub loan : Buffers → List Float → Loan
loan B T = record { buffers = B; totals = T }

-- each of them keeps its length; what it holds is left free
abbrev pub SameLengths : Buffers → Buffers → Type 0
SameLengths B B' = (b : Name) → length (get b B') ≡ length (get b B)

abbrev pub AsLong : Loan → Loan → Type 0
AsLong L L' = SameLengths L.buffers L'.buffers × (length L'.totals ≡ length L.totals)

-- k has each channel's number
abbrev pub ClippedAre : Whole → (ℕ → ℕ) → Type 0
ClippedAre w k = (c : ℕ) → c < w.channels → k c ≡ w.clipped c

-- How a whole run that is not refused ends, by whether it blows: blown, what it was lent being free but for the lengths, and the numbers k free; or done,
-- with the six, the totals and the numbers.
abbrev pub Ended : Bool → Whole → Loan → Ending → (ℕ → ℕ) → Loan → Type 0
Ended true w L a k L' = (a ≡ blown) × AsLong L L'
Ended false w L a k L' = (a ≡ done) × (L' ≡ loan w.buffers w.totals) × AsLong L L' × ClippedAre w k

-- By its refusal, 0 for none: a refusal leaves what was lent as it was.
abbrev pub Ends : ℕ → Whole → Loan → Ending → (ℕ → ℕ) → Loan → Type 0
Ends (suc n) w L a k L' = (a ≡ refused (suc n)) × (L' ≡ L)
Ends zero w L a k L' = Ended w.blown w L a k L'

-- the run of one record, from its start to its last job, which leaves the record r'
abbrev pub RunIs : Run → Levels → List ℕ → Loan → Result Ran Refusal → Run → Loan → Type 0
RunIs r levels tables L a r' L' =
    let G = given_of r levels tables in
    Ends (start_refusal G (places_of r) (lengths all_six L.buffers)) (run_of G) L (ending_of a) (clipped_of r') L'

-- ---- the record that a run leaves

-- all of it but the places of its channels is as it was
abbrev pub RestStays : Run → Run → Type 0
RestStays r r' = r' ≡ placed r (places_of r')

-- each channel stands after its last job, is not marked, and keeps its number
abbrev pub AtItsEnd : Given → Run → Type 0
AtItsEnd G r' = (c : ℕ) → c < count G → place (places_of r') c ≡ record { position = job_count G; mark = false; clipped = kept jobs G (job_count G) c }

-- and so it does where the run is done
abbrev pub EndsDone : Result Ran Refusal → Given → Run → Type 0
EndsDone a G r' = a ≡ Ok ran.Done → AtItsEnd G r'
