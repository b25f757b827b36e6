-- A list of calls on a fresh run, with demand 3 of document 01 as its contract.
use Rattle.std.specs.Prelude.{ℕ, ◌<◌, ◌≡◌, ◌≢◌, Bool, true, false, not, ◌&&◌, List, [], ◌∷◌, map, ltb, eqb, length, Result}
use Rattle.start.specs.Coef.{Levels}
use Rattle.start.specs.Buffers.{Buffers}
use Rattle.calls.specs.Run.{Given, Place, place, count, area, coefs}
use Rattle.calls.specs.Buffers.{channel, joined}
use Rattle.calls.specs.Jobs.{Call, fixed, kept}
use Rattle.calls.specs.Calls as Calls
use Rattle.calls.specs.Calls.{State, first, test, all, all_six, lengths, start_refusal, answers, final, none_yet, plain_answers, plain_places}
use Rattle.calls.specs.Demand.{SavedIn}
use Rattle.demand.specs.Solver.{jobs}
use Rattle.record.specs.declared.Run.{Run}
use Rattle.record.specs.declared.Accepted.{Accepted}
use Rattle.refusal.specs.declared.Refusal.{Refusal}
use Rattle.record.specs.Model.{places_of, given_of, placed, answer_of}
use Rattle.run.specs.Public.{Outcome, state_of}
use Rattle.numbered.specs.Numbered.{numbered}

-- ---- a list of calls

-- the calls of a list of jobs' numbers and a list of channels'
abbrev pub call_list : List ℕ → List ℕ → List Call
call_list [] cs = []
call_list (j ∷ js) [] = []
call_list (j ∷ js) (c ∷ cs) = numbered j c ∷ call_list js cs

abbrev pub all_jobs : List ℕ → Bool
all_jobs js = all (λ j. ltb j 5) js

-- An answer as a byte: 0 accepted, 255 a project accepted whose channel is now marked blown, else the refusal's number in the table.
abbrev pub byte_of : Calls.Answer → ℕ
byte_of (Calls.refused n) = n
byte_of Calls.done = 0
byte_of (Calls.projected clipped true) = 255
byte_of (Calls.projected clipped false) = 0
byte_of (Calls.blended tv tgv) = 0

-- what a call gives, its answer as a number: the number, the record and the buffers afterwards
pub record GaveNumber (x : Outcome) (k : ℕ) (r : Run) (B : Buffers) : Type 0 where
  pub number : k ≡ byte_of x.answer
  pub run : r ≡ x.run
  pub buffers : B ≡ x.buffers

-- what a list of calls leaves: a byte for each answer, the record, and the buffers
pub record Listed : Type 0 where
  pub bytes : List ℕ
  pub run : Run
  pub buffers : Buffers

-- the calls xs made one after the other from the state s, whose sheet is the record's
unfoldable pub ran : Run → Given → List Call → State → Listed
ran r G xs s =
    record {
      bytes = map byte_of (answers jobs G xs s);
      run = placed r (final jobs G xs s).places;
      buffers = (final jobs G xs s).buffers;
    }

abbrev pub list_of : Run → Levels → List ℕ → List Call → Buffers → Listed
list_of r levels tables xs B = ran r (given_of r levels tables) xs (state_of r B)

abbrev pub ListIs : Run → List ℕ → List ℕ → Levels → List ℕ → Buffers → List ℕ → Run → Buffers → Type 0
ListIs r js cs levels tables B bytes' r' B' = list_of r levels tables (call_list js cs) B ≡ record { bytes = bytes'; run = r'; buffers = B' }

-- ---- a list of calls on a fresh run

-- What it refuses, before start and any call: 13, 8, 4 and 5 as start does, 8 also for lists that are not of one length, and
-- 9 for a number that is no job; 0 for none.
unfoldable pub serve_refusal : ℕ → List ℕ → ℕ → ℕ → ℕ
serve_refusal r js channels bytes =
    first
    (test 13 (eqb r 13) ∷ test 8 (not (eqb channels (length js) && eqb bytes (length js))) ∷ r ∷ test 9 (not (all_jobs js)) ∷ [])

abbrev pub serve_refusal_of : Run → List ℕ → List ℕ → List ℕ → Levels → List ℕ → Buffers → ℕ
serve_refusal_of r js cs bytes levels tables B =
    serve_refusal (start_refusal (given_of r levels tables) (places_of r) (lengths all_six B)) js (length cs) (length bytes)

-- Demand 3, of the bytes, the record and the buffers that the code leaves: G is what start is fed, xs are the calls, r is the record lent,
-- and ps are the plain run's counts, marks and kept numbers after the calls.
pub record Served (G : Given) (xs : List Call) (r : Run) (ps : List Place) (bytes : List ℕ) (r' : Run) (B' : Buffers) : Type 0 where
  -- each call answers as the plain run does
  pub same_answers : bytes ≡ map byte_of (plain_answers jobs G xs (none_yet G))
  -- positions, marks and kept numbers are the plain run's, and the rest of the record is as it was
  pub same_places : r' ≡ placed r ps
  -- each kept number is the one that the recursion gives for the channel's count (M-104)
  pub as_kept : (c : ℕ) → c < count G → (place ps c).clipped ≡ kept jobs G (place ps c).position c
  -- the lent buffers hold each channel's six, as "this recursion alone fixes them" for its count, one channel after the other
  pub as_fixed : B' ≡ joined (count G) (λ c. fixed jobs G (place ps c).position c)
  -- each saved coefficient of a channel that is not marked is in its interval
  pub in_interval : (c : ℕ) → c < count G → (place ps c).mark ≡ false → (k : ℕ) → k < coefs G.sheet c → SavedIn G c k (channel (area G) c B')

-- Either refused, and "lent buffers and any record unchanged"; or done, and demand 3.
pub record ServeIs (r : Run) (js cs bytes : List ℕ) (levels : Levels) (tables : List ℕ) (B : Buffers) (a : Result Accepted Refusal) (r' : Run) (bytes' : List ℕ) (B' : Buffers) : Type 0 where
  pub if_refused : serve_refusal_of r js cs bytes levels tables B ≢ 0
      → (answer_of a ≡ Calls.refused (serve_refusal_of r js cs bytes levels tables B)) × (r' ≡ r) × (bytes' ≡ bytes) × (B' ≡ B)
  pub if_done : serve_refusal_of r js cs bytes levels tables B ≡ 0
      → (answer_of a ≡ Calls.done)
      × Served (given_of r levels tables) (call_list js cs) r (plain_places jobs (given_of r levels tables) (call_list js cs) (none_yet (given_of r levels tables))) bytes' r' B'
