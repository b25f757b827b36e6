-- Start: refused, or what an accepted one has passed, and its result.
use mathlib.Core.Path.{◌≡◌, refl, sym, ◌∙◌}
use mathlib.Core.Bool.{true}
use mathlib.Core.List.{List, map}
use Prim.Native.Nat.{ℕ, ◌*◌}
use Rattle.std.specs.Prelude.{Result, Ok, Err}
use Rattle.refusal.specs.declared.Refusal.{Refusal}
use Rattle.refusal.specs.Refusal.{number_of}
use Rattle.start.specs.Coef.{Levels}
use Rattle.fold.specs.Fold.{upto}
use Rattle.start.specs.Buffers.{Buffers}
use Rattle.calls.specs.Run.{fresh, count, area}
use Rattle.calls.specs.Buffers.{Sized}
use Rattle.calls.specs.Calls as Calls
use Rattle.calls.specs.Calls.{lengths, all_six, start_refusal, start, begin}
use Rattle.calls.proofs.Tests.{lent_of}
use Rattle.demand.specs.Solver.{jobs}
use Rattle.record.specs.declared.Run.{Run}
use Rattle.record.specs.declared.Accepted.{Accepted}
use Rattle.record.specs.declared.Accepted.TheVariants.{Done}
use Rattle.record.specs.Model.{Legal, places_of, given_of, placed}
use Rattle.parts.specs.Parts.{FedAll, started_part}
use Rattle.run.specs.Public.{result, gave, state_of, start_of}
use Rattle.run.proofs.Ready.{settled, AllAre, all_are}
use Rattle.parts.proofs.Started.{six_long, all_started}

-- ---- refused, and what an accepted start has passed

module _ (r : Run) (levels : Levels) (tables : List ℕ) (B : Buffers) where
  pub start_refused : {a : Result Accepted Refusal} (e : Refusal) → a ≡ Err e → number_of e ≡ start_refusal (given_of r levels tables) (places_of r) (lengths all_six B)
      → start_of r levels tables B ≡ gave a r B
  unfolding start
  start_refused e is n = rw (is, ← n) (settled r B e (begin jobs (given_of r levels tables) (state_of r B)))

  pub start_accepted : start_refusal (given_of r levels tables) (places_of r) (lengths all_six B) ≡ 0
      → start_of r levels tables B ≡ result r (begin jobs (given_of r levels tables) (state_of r B))
  unfolding start
  start_accepted e = rw e

pub record Startable (r : Run) (levels : Levels) (tables : List ℕ) (ls : List ℕ) : Type 0 where
  pub is-legal : Legal r
  pub fed_all : FedAll r levels tables
  pub long : AllAre (r.count * (r.w * r.h)) ls

pub startable : (r : Run) (levels : Levels) (tables : List ℕ) (ls : List ℕ) → start_refusal (given_of r levels tables) (places_of r) ls ≡ 0
    → Startable r levels tables ls
unfolding start_refusal
startable r levels tables ls e =
    let p = lent_of (given_of r levels tables) (places_of r) ls true e in
    record {
      is-legal = p.is-legal;
      fed_all = λ c h. record { is-legal = p.is-legal; below = h; levels-long = p.levels-long refl; tables_long = p.tables_long refl };
      long = all_are (r.count * (r.w * r.h)) ls p.long;
    }

-- each of the six, of the lengths that the refusal was asked of
pub six_are : (n : ℕ) (B : Buffers) → AllAre n (lengths all_six B) → Sized n B
six_are n B h = six_long n B h.0 h.1.0 h.1.1.0 h.1.1.1.0 h.1.1.1.1.0 h.1.1.1.1.1.0

-- accepted: with the record r' and the buffers B' afterwards
pub start_result : (r : Run) (levels : Levels) (tables : List ℕ) (B : Buffers)
    → start_refusal (given_of r levels tables) (places_of r) (lengths all_six B) ≡ 0
    → {r' : Run} → r' ≡ placed r (map (λ p. fresh) (places_of r))
    → {B' : Buffers} → B' ≡ upto (started_part (given_of r levels tables)) r.count B
    → start_of r levels tables B ≡ gave (Ok Done) r' B'
start_result r levels tables B e p b =
    let G = given_of r levels tables in
    let long : Sized (count G * area G) B = six_are (count G * area G) B (startable r levels tables (lengths all_six B) e).long in
    start_accepted r levels tables B e
    ∙ (λ i. record { answer = Calls.done; run = sym p i; buffers = (all_started G B long ∙ sym b) i })
