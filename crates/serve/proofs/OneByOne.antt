-- Demand 3 of any program that makes the calls one by one: a start that is accepted, and then calls, each by its contract.
use mathlib.Core.Path.{◌≡◌, refl, sym, ap, ◌∙◌}
use mathlib.Core.List.{List, [], ◌∷◌, ◌++◌, map}
use Prim.Native.Nat.{ℕ}
use lib.ListN.{length}
use Rattle.start.specs.Coef.{Levels}
use Rattle.start.specs.Buffers.{Buffers}
use Rattle.calls.specs.Run.{Given, Place, Sheet}
use Rattle.calls.specs.Jobs.{Call}
use Rattle.calls.specs.Calls.{Answer, State, start, call, answers}
use Rattle.demand.specs.Solver.{jobs}
use Rattle.demand.proofs.Demand3.{demand3}
use Rattle.record.specs.declared.Run.{Run}
use Rattle.record.specs.Model.{places_of, given_of, placed}
use Rattle.record.proofs.Placed.{sheet_stays, places_placed}
use Rattle.run.specs.Public.{Outcome, call_of, state_of}
use Rattle.serve.specs.Serve.{byte_of, GaveNumber, Listed, list_of}
use Rattle.serve.specs.Made.{Made, OneByOne, calls_of, answers_of, last_run, last_buffers, MadeServed}
use Rattle.serve.proofs.Listed.{call_long, call_first, no_call}
use Rattle.serve.proofs.Served.{start_long, start_zero, served}

module _ (levels : Levels) (tables : List ℕ) where
  -- an outcome's record and buffers, its answer as a byte
  in_bytes : {x : Outcome} (m : Made) → x ≡ record { answer = m.answer; run = m.run; buffers = m.buffers } → GaveNumber x (byte_of m.answer) m.run m.buffers
  in_bytes m e =
      record {
        number = ap (λ (o : Outcome). byte_of o.answer) (sym e);
        run = ap (λ (o : Outcome). o.run) (sym e);
        buffers = ap (λ (o : Outcome). o.buffers) (sym e);
      }

  -- the calls made are the model's list
  listed : (r : Run) (B : Buffers) (ms : List Made) → OneByOne levels tables r B ms
      → list_of r levels tables (calls_of ms) B ≡ record { bytes = map byte_of (answers_of ms); run = last_run r ms; buffers = last_buffers B ms }
  listed r B [] o = no_call levels tables r B
  listed r B (m ∷ ms) o =
      call_first levels tables r m.call (calls_of ms) B (in_bytes m o.0)
      ∙ ap (λ (l : Listed). record { bytes = byte_of m.answer ∷ l.bytes; run = l.run; buffers = l.buffers }) (listed m.run m.buffers ms o.1)

  -- the answers of a list from a record that other calls have left
  said_placed : (r : Run) (s : State) → length s.places ≡ length (places_of r) → (xs : List Call)
      → answers jobs (given_of (placed r s.places) levels tables) xs (state_of (placed r s.places) s.buffers) ≡ answers jobs (given_of r levels tables) xs s
  said_placed r s e xs =
      let same_given : given_of (placed r s.places) levels tables ≡ given_of r levels tables =
      ap (λ (S : Sheet). record { sheet = S; levels = levels; tables = tables }) (sheet_stays r s.places) in
      let same_state : state_of (placed r s.places) s.buffers ≡ s = ap (λ (ps : List Place). record { places = ps; buffers = s.buffers }) (places_placed r s.places e) in
      λ i. answers jobs (same_given i) xs (same_state i)

  -- their whole answers are the model's
  said : (r : Run) (B : Buffers) (ms : List Made) → OneByOne levels tables r B ms
      → answers jobs (given_of r levels tables) (calls_of ms) (state_of r B) ≡ answers_of ms
  unfolding answers
  said r B [] o = refl
  said r B (m ∷ ms) o =
      let G = given_of r levels tables in
      let s = (call jobs G m.call (state_of r B)).after in
      let rest : answers jobs G (calls_of ms) s ≡ answers_of ms =
      sym (said_placed r s (call_long G m.call (state_of r B)) (calls_of ms))
      ∙ ap (λ (x : Outcome). answers jobs (given_of x.run levels tables) (calls_of ms) (state_of x.run x.buffers)) o.0
      ∙ said m.run m.buffers ms o.1 in
      λ i. (o.0 i).answer ∷ rest i

pub one_by_one : MadeServed
one_by_one levels tables r B r₁ B₁ e ms o =
    let G = given_of r levels tables in
    let began = start_zero r levels tables B (sym e.number) in
    let s = (start jobs G (state_of r B)).after in
    let whole : answers_of ms ≡ answers jobs G (calls_of ms) s =
    sym (said levels tables r₁ B₁ ms o)
    ∙ (λ i. answers jobs (given_of (e.run i) levels tables) (calls_of ms) (state_of (e.run i) (e.buffers i)))
    ∙ said_placed levels tables r s (start_long r levels tables B) (calls_of ms) in
    record {
      whole_answers = whole ∙ (demand3 G (state_of r B) began (calls_of ms)).same_answers;
      served = served r levels tables B began (calls_of ms) e (listed levels tables r₁ B₁ ms o);
    }
