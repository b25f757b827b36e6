-- The exported calls made one by one by any program: each is lent the record and the buffers that the one before left, with the same levels and tables.
use Rattle.std.specs.Prelude.{ℕ, ◌<◌, ◌≡◌, ◌≢◌, true, false, Bool, List, [], ◌∷◌, map, All, Float, length}
use Rattle.start.specs.Coef.{Levels}
use Rattle.start.specs.Buffers.{Buffers}
use Rattle.calls.specs.Run.{Given, Place, place}
use Rattle.calls.specs.Jobs.{push, fidelity, move, project, Call, on, blend}
use Rattle.calls.specs.Calls.{Answer, projected, blended, none_yet, plain_answers, plain_places}
use Rattle.demand.specs.Solver.{jobs}
use Rattle.record.specs.declared.Run.{Run}
use Rattle.record.specs.Model.{sheet_of, places_of, clipped_of, given_of}
use Rattle.run.specs.Public.{for_push, for_data, for_blend, for_move, for_project}
use Rattle.mild.specs.Mild.{mild}
use Rattle.serve.specs.Serve.{byte_of, Served}
use Rattle.smoother.specs.Numbers.{lent_from, StartNumbers, PushNumbers, DataNumbers, BlendNumbers, MoveNumbers, ProjectNumbers}

-- a call that was made: which, its answer's number, what a blend's two places for its totals hold, and the record and the six buffers that it left
pub record Made : Type 0 where
  pub call : Call
  pub number : ℕ
  pub totals : List Float
  pub run : Run
  pub buffers : Buffers

-- A call made from the record r and the buffers B, by its contract: its answer's number, the totals, and the record and the buffers that it left, both
-- records in numbers. What it is not lent stays. A blend is lent two places for its totals, another call none.
pub data Makes (levels : Levels) (tables : List ℕ) (r : Run) (B : Buffers) : Call → ℕ → List Float → Run → Buffers → Type 0 where
  pushes : {c k : ℕ} {r' : Run} {plane prior : List Float}
      → PushNumbers (lent_from r) c B.plane B.prior k (lent_from r') plane prior → Makes levels tables r B (on push c) k [] r' (for_push B plane prior)
  fits : {c k : ℕ} {r' : Run} {gradient : List Float}
      → DataNumbers (lent_from r) c levels tables B.gradient B.saved k (lent_from r') gradient → Makes levels tables r B (on fidelity c) k [] r' (for_data B gradient B.saved)
  blends : {k : ℕ} {r' : Run} {gradient across down lent totals : List Float} → length lent ≡ 2
      → BlendNumbers (lent_from r) B.plane B.gradient B.across B.down lent k (lent_from r') gradient across down totals
      → Makes levels tables r B blend k totals r' (for_blend B B.plane gradient across down)
  moves : {c k : ℕ} {r' : Run} {plane : List Float}
      → MoveNumbers (lent_from r) c B.plane B.gradient k (lent_from r') plane → Makes levels tables r B (on move c) k [] r' (for_move B plane B.gradient)
  projects : {c k : ℕ} {r' : Run} {plane across down saved : List Float}
      → ProjectNumbers (lent_from r) c levels tables B.plane B.across B.down B.saved k (lent_from r') plane across down saved
      → Makes levels tables r B (on project c) k [] r' (for_project B plane across down saved)

abbrev pub MakesAll : Levels → List ℕ → Run → Buffers → List Made → Type 0
MakesAll levels tables r B [] = Unit {0}
MakesAll levels tables r B (m ∷ ms) = Makes levels tables r B m.call m.number m.totals m.run m.buffers × MakesAll levels tables m.run m.buffers ms

abbrev pub calls_of : List Made → List Call
calls_of ms = map (λ (m : Made). m.call) ms

abbrev pub numbers_of : List Made → List ℕ
numbers_of ms = map (λ (m : Made). m.number) ms

-- what the last call left
abbrev pub last_run : Run → List Made → Run
last_run r [] = r
last_run r (m ∷ ms) = last_run m.run ms

abbrev pub last_buffers : Buffers → List Made → Buffers
last_buffers B [] = B
last_buffers B (m ∷ ms) = last_buffers m.buffers ms

-- a call that was made tells the answer a
pub record Tells (a : Answer) (m : Made) : Type 0 where
  -- its number is the answer's
  pub number : m.number ≡ byte_of a
  -- both totals of a blend stand in the two places lent for them
  pub totals : (tv tgv : Float) → a ≡ blended tv tgv → m.totals ≡ tv ∷ tgv ∷ []
  -- the number of coefficients that a project clipped is the one that the record keeps
  pub clipped : (c n : ℕ) (blown : Bool) → m.call ≡ on project c → a ≡ projected n blown → clipped_of m.run c ≡ n

-- answer by answer and call by call
abbrev pub TellAll : List Answer → List Made → Type 0
TellAll [] [] = Unit {0}
TellAll [] (m ∷ ms) = ⊥
TellAll (a ∷ said) [] = ⊥
TellAll (a ∷ said) (m ∷ ms) = Tells a m × TellAll said ms

-- The same claim, of the calls ms that were made: G is what start is fed, r is the record lent to it,
-- ps are the plain run's places after the calls, and r' and B' are what the last call left.
pub record ServedCalls (G : Given) (r : Run) (ps : List Place) (ms : List Made) (r' : Run) (B' : Buffers) : Type 0 where
  -- each call tells the plain run's whole answer
  pub whole_answers : TellAll (plain_answers jobs G (calls_of ms) (none_yet G)) ms
  -- and what `Served` says
  pub served : Served G (calls_of ms) r ps (numbers_of ms) r' B'

-- "For every list of the calls push, data, blend, move and project from a fresh run": a start that answers 0, and calls after it, have demand 3.
abbrev pub OneByOneServed : Levels → List ℕ → Type 0
OneByOneServed levels tables =
    (r : Run) (B : Buffers) (r₁ : Run) (B₁ : Buffers) → StartNumbers (lent_from r) levels tables B 0 (lent_from r₁) B₁ → (ms : List Made) → MakesAll levels tables r₁ B₁ ms
    → let G = given_of r levels tables in
    ServedCalls G r (plain_places jobs G (calls_of ms) (none_yet G)) ms (last_run r₁ ms) (last_buffers B₁ ms)

-- no call of ms answers that a channel is marked blown, and the record that the last left has none marked
pub record NeverTold (ms : List Made) (r' : Run) : Type 0 where
  -- none is a project that marks its channel
  pub not_255 : All (λ k. k ≢ 255) (numbers_of ms)
  -- none is refused since a channel is marked
  pub not_10 : All (λ k. k ≢ 10) (numbers_of ms)
  pub unmarked : (c : ℕ) → c < r'.count → (place (places_of r') c).mark ≡ false

-- of a record: whatever levels, tables and buffers a start that answers 0 is lent with it, and whatever calls are made after it
abbrev pub CallsNeverBlow : Run → Type 0
CallsNeverBlow r =
    (levels : Levels) (tables : List ℕ) (B : Buffers) (r₁ : Run) (B₁ : Buffers) → StartNumbers (lent_from r) levels tables B 0 (lent_from r₁) B₁
    → (ms : List Made) → MakesAll levels tables r₁ B₁ ms → NeverTold ms (last_run r₁ ms)

-- at most 20 iterations and weights of at most 1
abbrev pub MildCallsNeverBlow : Type 0
MildCallsNeverBlow = (r : Run) → mild (sheet_of r) ≡ true → CallsNeverBlow r
