-- What holds between the rounds of a run: a round makes one job for every channel. Asked and told by the functions inside this crate.
use Rattle.std.specs.Prelude.{ℕ, suc, ◌+◌, ◌*◌, ◌%◌, ◌<◌, ◌≡◌, ◌≢◌, Bool, true, false, cond, List, [], ◌∷◌, eqb, ltb, Float, length}
use Rattle.start.specs.Coef.{Levels}
use Rattle.fold.specs.Part.{splice}
use Rattle.start.specs.Buffers.{Buffers}
use Rattle.calls.specs.Run.{Given, place, count, area, among}
use Rattle.calls.specs.Buffers.{Sized}
use Rattle.calls.specs.Jobs.{totals_at}
use Rattle.calls.specs.Between.{GivenOk, Inv}
use Rattle.demand.specs.Solver.{jobs}
use Rattle.record.specs.declared.Run.{Run}
use Rattle.std.specs.Prelude.{Result, Ok, Err}
use Rattle.refusal.specs.declared.Refusal.{Refusal}
use Rattle.record.specs.declared.Accepted.{Accepted}
use Rattle.record.specs.declared.Accepted.TheVariants as accepted
use Rattle.rounds.specs.declared.RoundEnd.{RoundEnd}
use Rattle.rounds.specs.declared.RoundEnd.TheVariants.{Done, Blended, Blown}
use Rattle.record.specs.Model.{sheet_of, places_of, given_of}
use Rattle.run.specs.Public.{state_of}
use Rattle.rounds.specs.Whole.{blows_at, job_count}

-- the run's sheet is G's, demand 3's invariant holds, and channel c stands at `at c`, not marked
pub record Stand (G : Given) (at : ℕ → ℕ) (r : Run) (B : Buffers) : Type 0 where
  pub sheet : sheet_of r ≡ G.sheet
  pub inv : Inv jobs G (state_of r B)
  pub at_place : (c : ℕ) → c < count G → (place (places_of r) c).position ≡ at c
  pub unmarked : (c : ℕ) → c < count G → (place (places_of r) c).mark ≡ false

-- between the rounds all channels stand at p
abbrev pub AllAt : Given → ℕ → Run → Buffers → Type 0
AllAt G p r B = Stand G (λ c. p) r B

-- the position of the first channel, which between the rounds is that of all
abbrev pub next_of : Run → ℕ
next_of r = (place (places_of r) 0).position

-- a round of job p: which channels it has passed after i calls; blend is one call for all
abbrev pub passed : ℕ → ℕ → ℕ → Bool
passed job i c = cond (eqb job 2) (ltb 0 i) (ltb c i)

abbrev pub Within : Given → ℕ → ℕ → Run → Buffers → Type 0
Within G p i r B = Stand G (λ c. cond (passed (p % 5) i c) (suc p) p) r B

-- the calls of a round of n channels
abbrev pub turns : ℕ → ℕ → ℕ
turns job n = cond (eqb job 2) 1 n

-- any channel is blown by its job p
abbrev pub round_blows : Given → ℕ → Bool
round_blows G p = among (count G) (λ c. blows_at G c p)

-- a round is asked for while jobs are left
pub record RoundAsks (r : Run) (p : ℕ) (levels : Levels) (tables : List ℕ) (B : Buffers) : Type 0 where
  pub ok : GivenOk (given_of r levels tables)
  pub left : p < job_count (given_of r levels tables)
  pub all : AllAt (given_of r levels tables) p r B

-- what an accepted call means for its round: done, or the round's end
abbrev pub round_of : Accepted → RoundEnd
round_of accepted.Done = Done
round_of (accepted.Projected clipped false) = Done
round_of (accepted.Projected clipped true) = Blown
round_of (accepted.Blended tv tgv) = Blended tv tgv

-- and answers: done, with all channels one job on, and where the job is blend with its totals; or blown, with one that is
abbrev pub RoundIs : Given → ℕ → Result RoundEnd Refusal → Run → Buffers → Type 0
RoundIs G p (Err n) r B = ⊥
RoundIs G p (Ok Done) r B = AllAt G (suc p) r B × (round_blows G p ≡ false) × (p % 5 ≢ 2)
RoundIs G p (Ok (Blended tv tgv)) r B = AllAt G (suc p) r B × (round_blows G p ≡ false) × (p % 5 ≡ 2) × (totals_at jobs G p ≡ (tv, tgv))
RoundIs G p (Ok Blown) r B = (round_blows G p ≡ true) × Sized (count G * area G) B

-- the totals with those of a blend's answer at the places of step k; with other answers as they were
abbrev pub with_pair : Result RoundEnd Refusal → ℕ → List Float → List Float
with_pair (Err n) k T = T
with_pair (Ok Done) k T = T
with_pair (Ok Blown) k T = T
with_pair (Ok (Blended tv tgv)) k T = splice T (k * 2) (k * 2 + 2) (tv ∷ tgv ∷ [])

-- all rounds are asked for where a run stands at its start, with room for its totals
pub record RunAsks (r : Run) (levels : Levels) (tables : List ℕ) (B : Buffers) (T : List Float) : Type 0 where
  pub ok : GivenOk (given_of r levels tables)
  pub all : AllAt (given_of r levels tables) 0 r B
  pub long : length T ≡ r.n * 2
