-- The exported calls on a run: what the public calls of `run` give, with the answer as a number (`byte_of`: the table's for a refusal, 0 for done, 255 for
-- done with the channel now marked blown), on a record whose letter of line `A` is a number.
use Rattle.std.specs.Prelude.{ℕ, ◌≡◌, ◌≢◌, Result, Ok, Err, true, false, cond, ◌&&◌, List, [], ◌∷◌, eqb, leb, Float, length}
use Rattle.refusal.specs.declared.Refusal.{Refusal}
use Rattle.refusal.specs.declared.Refusal.TheVariants.{Record}
use Rattle.start.specs.Coef.{Levels}
use Rattle.start.specs.declared.coef.Reorder.{Reorder}
use Rattle.start.specs.declared.coef.Reorder.TheVariants.{Each, Once}
use Rattle.start.specs.Buffers.{Buffers}
use Rattle.calls.specs.Jobs.{push, fidelity, move, project, on, blend}
use Rattle.calls.specs.Run.{legal}
use Rattle.calls.specs.Calls.{Answer, refused, done, projected, blended, none_yet, plain_places}
use Rattle.demand.specs.Solver.{jobs}
use Rattle.record.specs.declared.Run.{Run}
use Rattle.record.specs.Model.{sheet_of, places_of, given_of}
use Rattle.run.specs.Public.{Outcome, call_of, start_of, for_push, for_data, for_blend, for_move, for_project}
use Rattle.smoother.specs.declared.LentRun.{LentRun}
use Rattle.mild.specs.Mild.{mild}
use Rattle.mild.specs.Checked.{RunNeverBlows}
use Rattle.serve.specs.Serve.{byte_of, call_list, serve_refusal_of, Served}

-- ---- the record

-- the letter's number: 0 is `m`, 1 is `o`
abbrev pub reorder_from : ℕ → Reorder
reorder_from n = cond (eqb n 1) Once Each

abbrev pub reorder_number : Reorder → ℕ
reorder_number Each = 0
reorder_number Once = 1

-- the record that C's record says, and back
abbrev pub run_from : LentRun → Run
run_from x =
    record { w = x.w; h = x.h; n = x.n; smoothing = x.smoothing; reorder = reorder_from x.reorder; count = x.count; channels = x.channels }

abbrev pub lent_from : Run → LentRun
lent_from r =
    record { w = r.w; h = r.h; n = r.n; smoothing = r.smoothing; reorder = reorder_number r.reorder; count = r.count; channels = r.channels }

-- "13 record" where the letter's number is neither 0 nor 1
abbrev pub RunFrom : LentRun → Result Run Refusal → Type 0
RunFrom x a = a ≡ cond (leb x.reorder 1) (Ok (run_from x)) (Err Record)

abbrev pub LentFrom : Run → LentRun → Type 0
LentFrom r x = x ≡ lent_from r

-- ---- what a call gives

-- A call f made with C's record x and the buffers B: its answer's number, and the record and the buffers afterwards.
pub record GaveLent (x : LentRun) (B : Buffers) (f : Run → Outcome) (k : ℕ) (x' : LentRun) (B' : Buffers) : Type 0 where
  -- "13 record": the letter's number is neither 0 nor 1, before anything else; and all is as it was
  pub no_letter : leb x.reorder 1 ≡ false → (k ≡ 13) × (x' ≡ x) × (B' ≡ B)
  -- else what the call gives of the record that C's record says
  pub a_letter : leb x.reorder 1 ≡ true
      → (k ≡ byte_of (f (run_from x)).answer) × (x' ≡ lent_from (f (run_from x)).run) × (B' ≡ (f (run_from x)).buffers)

-- ---- M-112: 1 exactly where the letter's number is 0 or 1 and the record that C's record says is legal and mild, else 0; and 1 promises that no list of calls
-- on its runs ever marks a channel. The record is as it was.

pub record NeverBlowsNumbers (x : LentRun) (k : ℕ) (x' : LentRun) : Type 0 where
  pub exactly : k ≡ cond (leb x.reorder 1 && (legal (sheet_of (run_from x)) (places_of (run_from x)) && mild (sheet_of (run_from x)))) 1 0
  pub promise : k ≡ 1 → RunNeverBlows (run_from x)
  pub same : x' ≡ x

-- ---- the contracts, call by call as in crate `run`: at entry, and with a prime afterwards; what a call only reads has no prime

abbrev pub PushNumbers : LentRun → ℕ → List Float → List Float → ℕ → LentRun → List Float → List Float → Type 0
PushNumbers x c plane prior k x' plane' prior' =
    (levels : Levels) (tables : List ℕ) (o : Buffers)
    → let B = for_push o plane prior in
    GaveLent x B (λ r. call_of r (on push c) levels tables B) k x' (for_push o plane' prior')

abbrev pub DataNumbers : LentRun → ℕ → Levels → List ℕ → List Float → List Float → ℕ → LentRun → List Float → Type 0
DataNumbers x c levels tables gradient saved k x' gradient' =
    (o : Buffers)
    → let B = for_data o gradient saved in
    GaveLent x B (λ r. call_of r (on fidelity c) levels tables B) k x' (for_data o gradient' saved)

-- the two places of blend's totals afterwards: both totals where it is done, else as they were (document 02, M-103)
abbrev pub pair_in : Answer → List Float → List Float
pair_in (refused n) totals = totals
pair_in done totals = totals
pair_in (projected clipped blown) totals = totals
pair_in (blended tv tgv) totals = tv ∷ tgv ∷ []

-- where not two places are lent: 13 for C's record, then 8
abbrev pub room_refusal : LentRun → ℕ
room_refusal x = cond (leb x.reorder 1) (cond (legal (sheet_of (run_from x)) (places_of (run_from x))) 8 13) 13

pub record BlendNumbers (x : LentRun) (plane gradient across down totals : List Float) (k : ℕ) (x' : LentRun) (gradient' across' down' totals' : List Float) : Type 0 where
  -- two places for the totals: as the other calls
  pub two : length totals ≡ 2 → (levels : Levels) (tables : List ℕ) (o : Buffers)
      → let B = for_blend o plane gradient across down in
      GaveLent x B (λ r. call_of r blend levels tables B) k x' (for_blend o plane gradient' across' down')
  -- and the totals, where C's record has a letter; else they are as they were
  pub pair : length totals ≡ 2 → (levels : Levels) (tables : List ℕ) (o : Buffers)
      → totals' ≡ cond (leb x.reorder 1) (pair_in (call_of (run_from x) blend levels tables (for_blend o plane gradient across down)).answer totals) totals
  -- another count of places: refused, and all is as it was
  pub not_two : length totals ≢ 2
      → (k ≡ room_refusal x) × (x' ≡ x) × (gradient' ≡ gradient) × (across' ≡ across) × (down' ≡ down) × (totals' ≡ totals)

abbrev pub MoveNumbers : LentRun → ℕ → List Float → List Float → ℕ → LentRun → List Float → Type 0
MoveNumbers x c plane gradient k x' plane' =
    (levels : Levels) (tables : List ℕ) (o : Buffers)
    → let B = for_move o plane gradient in
    GaveLent x B (λ r. call_of r (on move c) levels tables B) k x' (for_move o plane' gradient)

abbrev pub ProjectNumbers : LentRun → ℕ → Levels → List ℕ → List Float → List Float → List Float → List Float
    → ℕ → LentRun → List Float → List Float → List Float → List Float → Type 0
ProjectNumbers x c levels tables plane across down saved k x' plane' across' down' saved' =
    (o : Buffers)
    → let B = for_project o plane across down saved in
    GaveLent x B (λ r. call_of r (on project c) levels tables B) k x' (for_project o plane' across' down' saved')

abbrev pub StartNumbers : LentRun → Levels → List ℕ → Buffers → ℕ → LentRun → Buffers → Type 0
StartNumbers x levels tables B k x' B' = GaveLent x B (λ r. start_of r levels tables B) k x' B'

-- A list of calls on a fresh run, as `ServeIs` has it: refused, and all is as it was; or done, and demand 3. 13 for no letter comes first here too.
unfoldable pub list_refusal : LentRun → List ℕ → List ℕ → List ℕ → Levels → List ℕ → Buffers → ℕ
list_refusal x js cs bytes levels tables B = cond (leb x.reorder 1) (serve_refusal_of (run_from x) js cs bytes levels tables B) 13

pub record ServeNumbers (x : LentRun) (js cs bytes : List ℕ) (levels : Levels) (tables : List ℕ) (B : Buffers) (k : ℕ) (x' : LentRun) (bytes' : List ℕ) (B' : Buffers) : Type 0 where
  pub if_refused : list_refusal x js cs bytes levels tables B ≢ 0
      → (k ≡ list_refusal x js cs bytes levels tables B) × (x' ≡ x) × (bytes' ≡ bytes) × (B' ≡ B)
  pub if_done : list_refusal x js cs bytes levels tables B ≡ 0
      → let G = given_of (run_from x) levels tables in
      (k ≡ 0)
      × ((r' : Run) × (x' ≡ lent_from r') × Served G (call_list js cs) (run_from x) (plain_places jobs G (call_list js cs) (none_yet G)) bytes' r' B')
