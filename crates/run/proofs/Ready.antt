-- How a call ends, for the proofs of the public calls: refused, with all as it was, or accepted.
use mathlib.Core.Path.{◌≡◌, sym, ap, ◌∙◌}
use mathlib.Core.Bool.{true}
use mathlib.Core.List.{List, [], ◌∷◌}
use Prim.Native.Nat.{ℕ, zero, suc, ◌*◌, ◌<◌, ◌≤◌}
use lib.Dec.{T, eqb, eqb→eq}
use lib.Ieee.Fits.{and_l, and_r}
use native.Mathlib.Omega.{arith}
use Rattle.std.specs.Prelude.{Result, Err}
use Rattle.refusal.specs.declared.Refusal.{Refusal}
use Rattle.refusal.specs.Refusal.{number_of}
use Rattle.refusal.proofs.Laws.{number_of-positive}
use Rattle.start.specs.Coef.{Levels}
use lib.ListN.{set}
use Rattle.start.specs.Buffers.{Buffers}
use Rattle.calls.specs.Run.{place}
use Rattle.calls.specs.Buffers.{put_channel}
use Rattle.calls.specs.Jobs.{Job, project, Call, on, blend, turn, Seen}
use Rattle.calls.specs.Calls as Calls
use Rattle.calls.specs.Calls.{all, lengths, lent, lent_levels, refusal, call, settle, accept, worked, seen_in, reply, advance, marked}
use Rattle.calls.proofs.Tests.{passed_all}
use Rattle.calls.proofs.Legal.{Ready, ready_of}
use Rattle.demand.specs.Solver.{jobs}
use Rattle.record.specs.declared.Run.{Run}
use Rattle.record.specs.declared.Accepted as said
use Rattle.record.specs.Model.{Legal, sheet_of, places_of, given_of, placed, answer_of}
use Rattle.record.proofs.Placed.{placed_same}
use Rattle.parts.specs.Parts.{Fed}
use Rattle.run.specs.Public.{result, gave, state_of, call_of}

-- ---- refused

pub settled : (r : Run) (B : Buffers) (e : Refusal) (o : Calls.Called) → result r (settle (number_of e) (state_of r B) o) ≡ gave (Err e) r B
settled r B e o = go (number_of e) (number_of-positive e)
  where
    go : (n : ℕ) → 1 ≤ n → result r (settle n (state_of r B) o) ≡ record { answer = Calls.refused n; run = r; buffers = B }
    go zero h = absurd (omega arith)
    go (suc t) h = ap (λ (q : Run). record { answer = Calls.refused (suc t); run = q; buffers = B }) (placed_same r)

module _ (r : Run) (levels : Levels) (tables : List ℕ) (x : Call) (B : Buffers) where
  pub call_refused : {a : Result said.Accepted Refusal} (e : Refusal) → a ≡ Err e → number_of e ≡ refusal (given_of r levels tables) (places_of r) x (lengths (lent x) B)
      → call_of r x levels tables B ≡ gave a r B
  unfolding call
  call_refused e is n = rw (is, ← n) (settled r B e (accept jobs (given_of r levels tables) x (state_of r B)))

  pub call_accepted : refusal (given_of r levels tables) (places_of r) x (lengths (lent x) B) ≡ 0
      → call_of r x levels tables B ≡ result r (accept jobs (given_of r levels tables) x (state_of r B))
  unfolding call
  call_accepted e = rw e

-- ---- accepted

-- each length is n
abbrev pub AllAre : ℕ → List ℕ → Type 0
AllAre n [] = Unit {0}
AllAre n (m ∷ ms) = (m ≡ n) × AllAre n ms

pub all_are : (n : ℕ) (ms : List ℕ) → T (all (λ m. eqb m n) ms) → AllAre n ms
all_are n [] t = tt
all_are n (m ∷ ms) t = (eqb→eq m n (and_l (eqb m n) (all (λ m. eqb m n) ms) t), all_are n ms (and_r (eqb m n) (all (λ m. eqb m n) ms) t))

-- what an accepted job of channel c has passed
pub record Accepted (r : Run) (j : Job) (c : ℕ) (ls : List ℕ) : Type 0 where
  pub is-legal : Legal r
  pub below : c < r.count
  pub ready : Ready (sheet_of r) (places_of r) (turn j) c
  pub long : AllAre (r.count * (r.w * r.h)) ls

pub accepted : (r : Run) (levels : Levels) (tables : List ℕ) (j : Job) (c : ℕ) (ls : List ℕ)
    → refusal (given_of r levels tables) (places_of r) (on j c) ls ≡ 0 → Accepted r j c ls
accepted r levels tables j c ls e =
    let p = passed_all (given_of r levels tables) (places_of r) (on j c) ls e in
    let t = ready_of (sheet_of r) (places_of r) j c p.1 in
    record { is-legal = p.0.is-legal; below = t.0; ready = t.1; long = all_are (r.count * (r.w * r.h)) ls p.0.long }

-- and where it is lent levels and tables
pub fed : (r : Run) (levels : Levels) (tables : List ℕ) (j : Job) (c : ℕ) (ls : List ℕ) → lent_levels (on j c) ≡ true
    → refusal (given_of r levels tables) (places_of r) (on j c) ls ≡ 0 → Fed r c levels tables
fed r levels tables j c ls l e =
    let p = (passed_all (given_of r levels tables) (places_of r) (on j c) ls e).0 in
    record { is-legal = p.is-legal; below = (accepted r levels tables j c ls e).below; levels-long = p.levels-long l; tables_long = p.tables_long l }

-- what an accepted blend has passed
pub record Blendable (r : Run) (ls : List ℕ) : Type 0 where
  pub is-legal : Legal r
  pub long : AllAre (r.count * (r.w * r.h)) ls

pub blendable : (r : Run) (levels : Levels) (tables : List ℕ) (ls : List ℕ) → refusal (given_of r levels tables) (places_of r) blend ls ≡ 0 → Blendable r ls
blendable r levels tables ls e =
    let p = (passed_all (given_of r levels tables) (places_of r) blend ls e).0 in
    record { is-legal = p.is-legal; long = all_are (r.count * (r.w * r.h)) ls p.long }

-- an accepted job of channel c: with the record r' and the buffers B' afterwards
module _ (r : Run) (levels : Levels) (tables : List ℕ) (j : Job) (c : ℕ) (B : Buffers) where
  abbrev x : Seen
  x = seen_in jobs (given_of r levels tables) j c (state_of r B)

  pub job_result : refusal (given_of r levels tables) (places_of r) (on j c) (lengths (lent (on j c)) B) ≡ 0
      → {r' : Run} → r' ≡ placed r (set (places_of r) c (advance j x (place (places_of r) c)))
      → {B' : Buffers} → put_channel (r.w * r.h) c B (worked jobs (given_of r levels tables) j c (state_of r B)) ≡ B'
      → call_of r (on j c) levels tables B ≡ record { answer = reply j x; run = r'; buffers = B' }
  job_result e p b = call_accepted r levels tables (on j c) B e ∙ (λ i. record { answer = reply j x; run = sym p i; buffers = b i })

-- an accepted project, whose answer says what it tells
module _ (r : Run) (levels : Levels) (tables : List ℕ) (c : ℕ) (B : Buffers) where
  pub project_result : refusal (given_of r levels tables) (places_of r) (on project c) (lengths (lent (on project c)) B) ≡ 0
      → (x : Seen) → seen_in jobs (given_of r levels tables) project c (state_of r B) ≡ x
      → (a : Result said.Accepted Refusal) → answer_of a ≡ reply project x
      → {r' : Run} → r' ≡ placed r (set (places_of r) c (marked x (place (places_of r) c)))
      → {B' : Buffers} → put_channel (r.w * r.h) c B (worked jobs (given_of r levels tables) project c (state_of r B)) ≡ B'
      → call_of r (on project c) levels tables B ≡ gave a r' B'
  project_result e x t a q {r'} p {B'} b =
      job_result r levels tables project c B e (p ∙ ap (λ (y : Seen). placed r (set (places_of r) c (marked y (place (places_of r) c)))) (sym t)) b
      ∙ (λ i. record { answer = (ap (reply project) t ∙ sym q) i; run = r'; buffers = B' })
