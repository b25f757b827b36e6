-- What solvers would do that fool a glance, on the small sheet.
use Rattle.std.specs.Prelude.{◌≡◌, ◌≢◌, ℕ, false, List, [], ◌∷◌, length, replicate, Float}
use Rattle.calls.specs.Buffers.{Name, get}
use Rattle.calls.specs.Jobs.{fixed, kept, totals_at}
use Rattle.calls.specs.Calls.{Answer, refused, done, projected, blend_reply, State, start}
use Rattle.demand.specs.Solver.{jobs}
use Rattle.wrong.specs.Sheet.{low8, at, lent_to, After}

-- the answers of two steps: done, of each blend its totals, and of each project the number that it clips, with no mark
abbrev pub all_said : List Answer
all_said =
    done ∷ done ∷ blend_reply (totals_at jobs low8 2) ∷ done ∷ projected (kept jobs low8 5 0) false
    ∷ done ∷ done ∷ blend_reply (totals_at jobs low8 7) ∷ done ∷ projected (kept jobs low8 10 0) false
    ∷ []

-- start accepts the small sheet, whatever its six buffers hold
abbrev pub Accepted : Type 0
Accepted = (xs : List Float) → length xs ≡ 64 → (start jobs low8 (lent_to xs)).answer ≡ done

-- its ten calls in turn are each accepted, and say no more
abbrev pub AllAccepted : Type 0
AllAccepted = (said : List Answer) (t : State) → After 10 said t → said ≡ all_said

-- a solver that refuses each of the ten calls
abbrev pub Refusing : State → Type 0
Refusing t = After 10 (replicate 10 (refused 9)) t

-- no solver that meets the claim stands where it stood after the first call
abbrev pub MovesOn : Type 0
MovesOn = (said : List Answer) (t : State) → After 1 said t → t.places ≢ at 0

-- After the first n calls no solver that meets the claim has in the buffer b what it has after o of them.
abbrev pub NeverLeaves : Name → ℕ → ℕ → Type 0
NeverLeaves b n o = (said : List Answer) (t : State) → After n said t → get b t.buffers ≢ get b (fixed jobs low8 o 0)
