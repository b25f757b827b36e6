-- The contracts of the public calls. Each equates the answer, the record and the buffers lent, refusals included, with what the model's `call` or
-- `start` gives at the solver's jobs, whatever the levels, tables and buffers hold that the call is not lent.
use Rattle.std.specs.Prelude.{ℕ, ◌≡◌, List, Float, Result}
use Rattle.refusal.specs.declared.Refusal.{Refusal}
use Rattle.start.specs.Coef.{Levels}
use Rattle.start.specs.Buffers.{Buffers}
use Rattle.calls.specs.Jobs.{push, fidelity, move, project, Call, on, blend}
use Rattle.calls.specs.Calls as Calls
use Rattle.demand.specs.Solver.{jobs}
use Rattle.record.specs.declared.Run.{Run}
use Rattle.record.specs.declared.Accepted.{Accepted}
use Rattle.record.specs.Model.{places_of, given_of, placed, answer_of}

-- what a call tells: its answer, the record and the buffers afterwards
pub record Outcome : Type 0 where
  pub answer : Calls.Answer
  pub run : Run
  pub buffers : Buffers

-- the model's outcome, with its places written into the record lent
abbrev pub result : Run → Calls.Called → Outcome
result r o = record { answer = o.answer; run = placed r o.after.places; buffers = o.after.buffers }

-- what the code gives back
abbrev pub gave : Result Accepted Refusal → Run → Buffers → Outcome
gave a r B = record { answer = answer_of a; run = r; buffers = B }

abbrev pub state_of : Run → Buffers → Calls.State
state_of r B = record { places = places_of r; buffers = B }

-- the model's call of job x on the record r and these buffers, levels and tables
abbrev pub call_of : Run → Call → Levels → List ℕ → Buffers → Outcome
call_of r x levels tables B = result r (Calls.call jobs (given_of r levels tables) x (state_of r B))

abbrev pub start_of : Run → Levels → List ℕ → Buffers → Outcome
start_of r levels tables B = result r (Calls.start jobs (given_of r levels tables) (state_of r B))

-- ---- the six, with those that a call is lent in the place of what `o` has there

abbrev pub for_push : Buffers → List Float → List Float → Buffers
for_push o plane prior = record { plane = plane; prior = prior; gradient = o.gradient; across = o.across; down = o.down; saved = o.saved }

abbrev pub for_data : Buffers → List Float → List Float → Buffers
for_data o gradient saved = record { plane = o.plane; prior = o.prior; gradient = gradient; across = o.across; down = o.down; saved = saved }

abbrev pub for_blend : Buffers → List Float → List Float → List Float → List Float → Buffers
for_blend o plane gradient across down = record { plane = plane; prior = o.prior; gradient = gradient; across = across; down = down; saved = o.saved }

abbrev pub for_move : Buffers → List Float → List Float → Buffers
for_move o plane gradient = record { plane = plane; prior = o.prior; gradient = gradient; across = o.across; down = o.down; saved = o.saved }

abbrev pub for_project : Buffers → List Float → List Float → List Float → List Float → Buffers
for_project o plane across down saved = record { plane = plane; prior = o.prior; gradient = o.gradient; across = across; down = down; saved = saved }

-- ---- the contracts: at entry, and with a prime afterwards; what a call only reads has no prime

abbrev pub PushIs : Run → ℕ → List Float → List Float → Result Accepted Refusal → Run → List Float → List Float → Type 0
PushIs r c plane prior a r' plane' prior' =
    (levels : Levels) (tables : List ℕ) (o : Buffers)
    → call_of r (on push c) levels tables (for_push o plane prior) ≡ gave a r' (for_push o plane' prior')

abbrev pub DataIs : Run → ℕ → Levels → List ℕ → List Float → List Float → Result Accepted Refusal → Run → List Float → Type 0
DataIs r c levels tables gradient saved a r' gradient' =
    (o : Buffers) → call_of r (on fidelity c) levels tables (for_data o gradient saved) ≡ gave a r' (for_data o gradient' saved)

abbrev pub BlendIs : Run → List Float → List Float → List Float → List Float → Result Accepted Refusal → Run → List Float → List Float → List Float → Type 0
BlendIs r plane gradient across down a r' gradient' across' down' =
    (levels : Levels) (tables : List ℕ) (o : Buffers)
    → call_of r blend levels tables (for_blend o plane gradient across down) ≡ gave a r' (for_blend o plane gradient' across' down')

abbrev pub MoveIs : Run → ℕ → List Float → List Float → Result Accepted Refusal → Run → List Float → Type 0
MoveIs r c plane gradient a r' plane' =
    (levels : Levels) (tables : List ℕ) (o : Buffers)
    → call_of r (on move c) levels tables (for_move o plane gradient) ≡ gave a r' (for_move o plane' gradient)

abbrev pub ProjectIs : Run → ℕ → Levels → List ℕ → List Float → List Float → List Float → List Float
    → Result Accepted Refusal → Run → List Float → List Float → List Float → List Float → Type 0
ProjectIs r c levels tables plane across down saved a r' plane' across' down' saved' =
    (o : Buffers)
    → call_of r (on project c) levels tables (for_project o plane across down saved) ≡ gave a r' (for_project o plane' across' down' saved')

abbrev pub StartIs : Run → Levels → List ℕ → Buffers → Result Accepted Refusal → Run → Buffers → Type 0
StartIs r levels tables B a r' B' = start_of r levels tables B ≡ gave a r' B'
