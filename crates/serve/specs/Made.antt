-- Calls made one by one by any program, each lent the record and the buffers that the one before left, with the same levels and tables: their whole answers.
use Rattle.std.specs.Prelude.{ℕ, ◌≡◌, Bool, List, [], ◌∷◌, map}
use Rattle.start.specs.Coef.{Levels}
use Rattle.start.specs.Buffers.{Buffers}
use Rattle.calls.specs.Run.{Given, Place}
use Rattle.calls.specs.Jobs.{project, Call, on}
use Rattle.calls.specs.Calls.{Answer, projected, none_yet, plain_answers, plain_places}
use Rattle.demand.specs.Solver.{jobs}
use Rattle.record.specs.declared.Run.{Run}
use Rattle.record.specs.Model.{clipped_of, given_of}
use Rattle.run.specs.Public.{Outcome, call_of, start_of}
use Rattle.serve.specs.Serve.{byte_of, GaveNumber, Served}

-- a call that was made: which, its whole answer, and the record and the six buffers that it left
pub record Made : Type 0 where
  pub call : Call
  pub answer : Answer
  pub run : Run
  pub buffers : Buffers

-- what it gave
abbrev pub outcome_of : Made → Outcome
outcome_of m = record { answer = m.answer; run = m.run; buffers = m.buffers }

-- each call's contract, from the record and the buffers at hand
abbrev pub OneByOne : Levels → List ℕ → Run → Buffers → List Made → Type 0
OneByOne levels tables r B [] = Unit {0}
OneByOne levels tables r B (m ∷ ms) =
    (call_of r m.call levels tables B ≡ outcome_of m) × OneByOne levels tables m.run m.buffers ms

abbrev pub calls_of : List Made → List Call
calls_of ms = map (λ (m : Made). m.call) ms

abbrev pub answers_of : List Made → List Answer
answers_of ms = map (λ (m : Made). m.answer) ms

-- what the last call left
abbrev pub last_run : Run → List Made → Run
last_run r [] = r
last_run r (m ∷ ms) = last_run m.run ms

abbrev pub last_buffers : Buffers → List Made → Buffers
last_buffers B [] = B
last_buffers B (m ∷ ms) = last_buffers m.buffers ms

-- The claim about every list of calls, with whole answers: G is what start is fed, xs are the calls,
-- r is the record lent, ps are the plain run's places after the calls, and `said`, r' and B' are what
-- the calls leave.
pub record ServedWhole (G : Given) (xs : List Call) (r : Run) (ps : List Place) (said : List Answer) (r' : Run) (B' : Buffers) : Type 0 where
  -- each call answers as the plain run does: a blend with both its totals, a project with the number that it clipped
  pub whole_answers : said ≡ plain_answers jobs G xs (none_yet G)
  -- and what `Served` says, the answers being told as bytes
  pub served : Served G xs r ps (map byte_of said) r' B'

-- of any program that makes the calls one by one, "every list of calls push, data, blend, move and project from a fresh run": a start that is accepted,
-- which leaves r₁ and B₁, and then the calls ms
abbrev pub MadeServed : Type 0
MadeServed =
    (levels : Levels) (tables : List ℕ) (r : Run) (B : Buffers) (r₁ : Run) (B₁ : Buffers) → GaveNumber (start_of r levels tables B) 0 r₁ B₁
    → (ms : List Made) → OneByOne levels tables r₁ B₁ ms
    → ServedWhole (given_of r levels tables) (calls_of ms) r (plain_places jobs (given_of r levels tables) (calls_of ms) (none_yet (given_of r levels tables))) (answers_of ms)
    (last_run r₁ ms) (last_buffers B₁ ms)

-- the number that an accepted project answers is the one that the record then keeps of its channel
abbrev pub ProjectKeeps : Type 0
ProjectKeeps =
    (r : Run) (levels : Levels) (tables : List ℕ) (c : ℕ) (B : Buffers) (n : ℕ) (blown : Bool)
    → (call_of r (on project c) levels tables B).answer ≡ projected n blown → clipped_of (call_of r (on project c) levels tables B).run c ≡ n
