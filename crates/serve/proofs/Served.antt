-- Demand 3 of the code: start, and then the list of calls.
use mathlib.Core.Path.{◌≡◌, refl, sym, ap, ◌∙◌, subst}
use mathlib.Core.Logic.{◌≢◌}
use mathlib.Core.Bool.{Bool, true, false, not, ◌&&◌}
use mathlib.Core.List.{List, [], ◌∷◌, map}
use Prim.Native.Nat.{ℕ, zero, suc}
use native.Mathlib.Omega.{arith}
use lib.Dec.{T, eqb, eqb→eq}
use lib.Ieee.Fits.{and_l, and_r}
use borrow.Author.Tests.{not-false}
use lib.ListN.{length, length-map}
use Rattle.start.specs.Coef.{Levels}
use Rattle.start.specs.Buffers.{Buffers}
use lib.IntN.{ℤ}
use lib.Signed.{le_z}
use Rattle.calls.specs.Run.{Given, Place, fresh, area, legal}
use Rattle.calls.specs.Buffers.{channel}
use Rattle.calls.specs.Jobs.{Call}
use Rattle.calls.specs.Calls as Calls
use Rattle.calls.specs.Calls.{Tests, first, test, all, table_ok, level_ok, pair_faults, levels_fault, buffers_long, values_long, begin, settle, start, start_refusal, all_six, lengths, none_yet, plain_places}
use Rattle.calls.specs.Demand.{SavedIn}
use Rattle.calls.proofs.Tests.{silent, holds, passed_of, first_one}
use Rattle.demand.specs.Solver.{jobs}
use Rattle.demand.proofs.Demand3.{demand3}
use Rattle.record.specs.declared.Run.{Run}
use Rattle.std.specs.Prelude.{Result, Ok, Err}
use Rattle.refusal.specs.declared.Refusal.{Refusal}
use Rattle.refusal.specs.Refusal.{number_of}
use Rattle.refusal.proofs.Laws.{number_of-positive}
use Rattle.record.specs.declared.Accepted.{Accepted}
use Rattle.record.specs.declared.Accepted.TheVariants.{Done}
use Rattle.record.specs.Model.{places_of, given_of, placed, answer_of}
use Rattle.run.specs.Public.{Outcome, gave, state_of, start_of}
use Rattle.serve.specs.Serve.{call_list, all_jobs, byte_of, GaveNumber, Listed, ran, list_of, serve_refusal, serve_refusal_of, Served, ServeIs}
use Rattle.serve.proofs.Listed.{in_number, settle_long, from_placed}

-- ---- what a list that is not refused has passed

pub record Passed (r : ℕ) (js : List ℕ) (channels bytes : ℕ) : Type 0 where
  pub startable : r ≡ 0
  pub channels_long : channels ≡ length js
  pub bytes_long : bytes ≡ length js
  pub all-jobs : all_jobs js ≡ true

pub passed : (r : ℕ) (js : List ℕ) (channels bytes : ℕ) → serve_refusal r js channels bytes ≡ 0 → Passed r js channels bytes
unfolding serve_refusal
passed r js channels bytes e =
    let n : ℕ = length js in
    let p = passed_of (test 13 (eqb r 13) ∷ test 8 (not (eqb channels n && eqb bytes n)) ∷ r ∷ test 9 (not (all_jobs js)) ∷ []) e in
    let long : T (eqb channels n && eqb bytes n) = holds 7 (eqb channels n && eqb bytes n) p.1.0 in
    record {
      startable = p.1.1.0;
      channels_long = eqb→eq channels n (and_l (eqb channels n) (eqb bytes n) long);
      bytes_long = eqb→eq bytes n (and_r (eqb channels n) (eqb bytes n) long);
      all-jobs = not-false (all_jobs js) (silent 8 (not (all_jobs js)) p.1.1.1.0);
    }

-- ---- 13 is for a record that is not legal, and for nothing else

never-13 : (ls hs : List ℤ) → first (pair_faults ls hs) ≢ 13
never-13 [] hs e = omega (arith, e)
never-13 (l ∷ ls) [] e = omega (arith, e)
never-13 (l ∷ ls) (h ∷ hs) e = go (not (level_ok l && level_ok h)) (not (le_z l h)) (pair_faults ls hs) (never-13 ls hs) e
  where
    go : (b d : Bool) (ts : Tests) → first ts ≢ 13 → first (first (test 5 b ∷ test 14 d ∷ []) ∷ ts) ≢ 13
    go true d ts n e = omega (arith, e)
    go false true ts n e = omega (arith, e)
    go false false ts n e = n e

pub no_record : (G : Given) (ps : List Place) (ls : List ℕ) → legal G.sheet ps ≡ false → start_refusal G ps ls ≡ 13
unfolding start_refusal
no_record G ps ls e = rw e

pub only-records : (G : Given) (ps : List Place) (ls : List ℕ) → legal G.sheet ps ≡ true → start_refusal G ps ls ≢ 13
unfolding start_refusal
only-records G ps ls e = rw e (go (not (buffers_long G ls && values_long G)) (not (all table_ok G.tables)) (levels_fault G.levels) (never-13 G.levels.lows G.levels.highs))
  where
    go : (b d : Bool) (n : ℕ) → n ≢ 13 → first (0 ∷ test 8 b ∷ test 4 d ∷ n ∷ []) ≢ 13
    go true d n k e = omega (arith, e)
    go false true n k e = omega (arith, e)
    go false false n k e = k (sym (first_one n) ∙ e)

-- ---- the two ends of the call

module _ (r : Run) (levels : Levels) (tables : List ℕ) (B : Buffers) where
  abbrev G : Given
  G = given_of r levels tables

  pub start_long : length (start jobs G (state_of r B)).after.places ≡ length (places_of r)
  unfolding start
  start_long = settle_long G (start_refusal G (places_of r) (lengths all_six B)) (state_of r B) (begin jobs G (state_of r B)) (length-map (places_of r) (λ p. fresh))

  pub start_done : start_refusal G (places_of r) (lengths all_six B) ≡ 0 → (start jobs G (state_of r B)).answer ≡ Calls.done
  unfolding start
  start_done e = rw e

  -- no refusal's number is 0
  pub start_zero : byte_of (start jobs G (state_of r B)).answer ≡ 0 → (start jobs G (state_of r B)).answer ≡ Calls.done
  unfolding start
  start_zero = go (start_refusal G (places_of r) (lengths all_six B))
    where
      go : (t : ℕ) → byte_of (settle t (state_of r B) (begin jobs G (state_of r B))).answer ≡ 0 → (settle t (state_of r B) (begin jobs G (state_of r B))).answer ≡ Calls.done
      go zero e = refl
      go (suc t) e = absurd (omega arith)

  -- a start that is accepted, and the calls xs after it: what they leave is as the model has it, so demand 3 holds of it
  pub served : (start jobs G (state_of r B)).answer ≡ Calls.done → (xs : List Call) {k : ℕ} {r₁ : Run} {B₁ : Buffers} → GaveNumber (start_of r levels tables B) k r₁ B₁
      → {bytes' : List ℕ} {r' : Run} {B' : Buffers} → list_of r₁ levels tables xs B₁ ≡ record { bytes = bytes'; run = r'; buffers = B' }
      → Served G xs r (plain_places jobs G xs (none_yet G)) bytes' r' B'
  unfolding ran
  served z xs e {bytes'} {r'} {B'} l =
      let claim = demand3 G (state_of r B) z xs in
      let q : ran r G xs (start jobs G (state_of r B)).after ≡ record { bytes = bytes'; run = r'; buffers = B' } =
      sym ((λ i. list_of (e.run i) levels tables xs (e.buffers i)) ∙ from_placed levels tables r (start jobs G (state_of r B)).after start_long xs)
      ∙ l in
      record {
        same_answers = sym (ap (λ (l : Listed). l.bytes) q) ∙ ap (map byte_of) claim.same_answers;
        same_places = sym (ap (λ (l : Listed). l.run) q) ∙ ap (placed r) claim.same_places;
        as_kept = claim.as_kept;
        as_fixed = sym (ap (λ (l : Listed). l.buffers) q) ∙ claim.as_fixed;
        in_interval = λ c h m k l. subst (λ (D : Buffers). SavedIn G c k (channel (area G) c D)) (ap (λ (l : Listed). l.buffers) q) (claim.in_interval c h m k l);
      }

module _ (r : Run) (js cs bytes : List ℕ) (levels : Levels) (tables : List ℕ) (B : Buffers) where
  pub refused_whole : {a : Result Accepted Refusal} (e : Refusal) → a ≡ Err e → number_of e ≡ serve_refusal_of r js cs bytes levels tables B → ServeIs r js cs bytes levels tables B a r bytes B
  refused_whole e is n =
      record {
        if_refused = λ m. (ap answer_of is ∙ ap Calls.refused n, refl, refl, refl);
        if_done = λ z. absurd (omega (arith, n ∙ z, number_of-positive e));
      }

  -- a start is not refused after the test of the whole list
  pub starts : serve_refusal_of r js cs bytes levels tables B ≡ 0 → (e : Refusal) {r₁ : Run} {B₁ : Buffers} → start_of r levels tables B ≡ gave (Err e) r₁ B₁ → ⊥
  starts z e h =
      let p = passed (start_refusal (given_of r levels tables) (places_of r) (lengths all_six B)) js (length cs) (length bytes) z in
      let zero : number_of e ≡ 0 = ap (λ (o : Outcome). byte_of o.answer) (sym h) ∙ ap byte_of (start_done r levels tables B p.startable) in
      omega (arith, zero, number_of-positive e)

  pub done_whole : serve_refusal_of r js cs bytes levels tables B ≡ 0 → (a : Result Accepted Refusal) {r₁ : Run} {B₁ : Buffers} → start_of r levels tables B ≡ gave a r₁ B₁
      → {bytes' : List ℕ} {r' : Run} {B' : Buffers} → list_of r₁ levels tables (call_list js cs) B₁ ≡ record { bytes = bytes'; run = r'; buffers = B' }
      → ServeIs r js cs bytes levels tables B (Ok Done) r' bytes' B'
  done_whole z a e l =
      let p = passed (start_refusal (given_of r levels tables) (places_of r) (lengths all_six B)) js (length cs) (length bytes) z in
      record { if_refused = λ n. absurd (n z); if_done = λ y. (refl, served r levels tables B (start_done r levels tables B p.startable) (call_list js cs) (in_number a e refl) l) }
