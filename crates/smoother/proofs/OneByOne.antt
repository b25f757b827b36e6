-- The claim about every list of calls, of any program that makes the exported calls one by one, with the whole answers; and that a mild record's calls answer neither 255 nor 10.
use mathlib.Core.Path.{◌≡◌, refl, sym, ap, ◌∙◌, subst}
use mathlib.Core.Logic.{◌≢◌}
use mathlib.Core.Bool.{true, false, ◌||◌}
use mathlib.Core.List.{List, [], ◌∷◌, map}
use Prim.Native.Nat.{ℕ, zero, suc, ◌<◌}
use native.Mathlib.Nat.{not-suc-le-zero, le_of_suc-le-suc}
use native.Mathlib.Omega.{arith}
use lib.Dec.{T, eqb}
use lib.Ieee.{Float}
use lib.Ieee.Fits.{and_l, and_r}
use lib.ListN.{length}
use Rattle.std.specs.Prelude.{All}
use Rattle.start.specs.Coef.{Levels}
use Rattle.start.specs.Buffers.{Buffers}
use Rattle.calls.specs.Run.{Place, place}
use Rattle.calls.specs.Jobs.{Job, push, fidelity, move, project, Call, on}
use Rattle.calls.specs.Calls as Calls
use Rattle.calls.specs.Calls.{Answer, all, refusal, lengths, lent, settle, accept, call, start, none_yet, plain_answers, plain_places}
use Rattle.demand.specs.Solver.{jobs}
use Rattle.demand.proofs.Demand3.{demand3}
use Rattle.record.specs.declared.Run.{Run}
use Rattle.record.specs.Model.{places_of, clipped_of, given_of}
use Rattle.record.proofs.Placed.{places_placed}
use Rattle.run.specs.Public.{state_of, call_of}
use Rattle.serve.proofs.Kept.{project_keeps}
use Rattle.mild.specs.Mild.{calm}
use Rattle.mild.specs.Checked.{RunNeverBlows}
use Rattle.mild.proofs.Never.{never_blows}
use Rattle.serve.specs.Serve.{byte_of, GaveNumber, Served}
use Rattle.serve.specs.Made as Whole
use Rattle.serve.proofs.Listed.{final_long}
use Rattle.serve.proofs.OneByOne.{one_by_one}
use Rattle.serve.proofs.Served.{start_long, start_zero}
use Rattle.smoother.proofs.InNumbers.{made_of, pair_of}
use Rattle.smoother.specs.OneByOne.{Made, Makes, MakesAll, calls_of, numbers_of, last_run, last_buffers, Tells, TellAll, OneByOneServed, CallsNeverBlow, MildCallsNeverBlow}
use Rattle.smoother.specs.OneByOne.Makes.{pushes, fits, blends, moves, projects}

module _ (levels : Levels) (tables : List ℕ) where
  -- a call's contract, at the levels, tables and buffers at hand
  made : (r : Run) (B : Buffers) {x : Call} {k : ℕ} {T : List Float} {r' : Run} {B' : Buffers} → Makes levels tables r B x k T r' B' → GaveNumber (call_of r x levels tables B) k r' B'
  made r B (pushes h) = made_of r (h levels tables B)
  made r B (fits h) = made_of r (h B)
  made r B (blends e h) = made_of r (h.two e levels tables B)
  made r B (moves h) = made_of r (h levels tables B)
  made r B (projects h) = made_of r (h B)

  -- a job of one channel tells no totals
  not_blended : (r : Run) (B : Buffers) (j : Job) (c : ℕ) (tv tgv : Float) → (call_of r (on j c) levels tables B).answer ≡ Calls.blended tv tgv → ⊥
  unfolding call
  not_blended r B j c tv tgv = go j (refusal (given_of r levels tables) (places_of r) (on j c) (lengths (lent (on j c)) B))
    where
      go : (j : Job) (t : ℕ) → (settle t (state_of r B) (accept jobs (given_of r levels tables) (on j c) (state_of r B))).answer ≡ Calls.blended tv tgv → ⊥
      go j (suc t) e = let z : ◌≡◌ {A = ℕ} 0 1 = cc in omega arith
      go push zero e = let z : ◌≡◌ {A = ℕ} 0 1 = cc in omega arith
      go fidelity zero e = let z : ◌≡◌ {A = ℕ} 0 1 = cc in omega arith
      go move zero e = let z : ◌≡◌ {A = ℕ} 0 1 = cc in omega arith
      go project zero e = let z : ◌≡◌ {A = ℕ} 0 1 = cc in omega arith

  -- a blend's totals stand in its two places
  both_put : (r : Run) (B : Buffers) {x : Call} {k : ℕ} {T : List Float} {r' : Run} {B' : Buffers} → Makes levels tables r B x k T r' B'
      → (tv tgv : Float) → (call_of r x levels tables B).answer ≡ Calls.blended tv tgv → T ≡ tv ∷ tgv ∷ []
  both_put r B (pushes {c} h) tv tgv q = absurd (not_blended r B push c tv tgv q)
  both_put r B (fits {c} h) tv tgv q = absurd (not_blended r B fidelity c tv tgv q)
  both_put r B (moves {c} h) tv tgv q = absurd (not_blended r B move c tv tgv q)
  both_put r B (projects {c} h) tv tgv q = absurd (not_blended r B project c tv tgv q)
  both_put r B (blends e h) tv tgv q = pair_of r levels tables B e h tv tgv q

  -- what one call tells
  told : (r : Run) (B : Buffers) (m : Made) → Makes levels tables r B m.call m.number m.totals m.run m.buffers → Tells (call_of r m.call levels tables B).answer m
  told r B m h =
      record {
        number = (made r B h).number;
        totals = both_put r B h;
        clipped =
            λ c n b e q.
            ap (λ (z : Run). clipped_of z c) (made r B h).run
            ∙ ap (λ (x : Call). clipped_of (call_of r x levels tables B).run c) e
            ∙ project_keeps r levels tables c B n b (sym (ap (λ (x : Call). (call_of r x levels tables B).answer) e) ∙ q);
      }

  -- the calls with their whole answers
  whole : Run → Buffers → List Made → List Whole.Made
  whole r B [] = []
  whole r B (m ∷ ms) = record { call = m.call; answer = (call_of r m.call levels tables B).answer; run = m.run; buffers = m.buffers } ∷ whole m.run m.buffers ms

  whole_made : (r : Run) (B : Buffers) (ms : List Made) → MakesAll levels tables r B ms → Whole.OneByOne levels tables r B (whole r B ms)
  unfolding whole
  whole_made r B [] o = tt
  whole_made r B (m ∷ ms) o =
      let g = made r B o.0 in
      ((λ i. record { answer = (call_of r m.call levels tables B).answer; run = sym g.run i; buffers = sym g.buffers i }), whole_made m.run m.buffers ms o.1)

  all_told : (r : Run) (B : Buffers) (ms : List Made) → MakesAll levels tables r B ms → TellAll (Whole.answers_of (whole r B ms)) ms
  unfolding whole
  all_told r B [] o = tt
  all_told r B (m ∷ ms) o = (told r B m o.0, all_told m.run m.buffers ms o.1)

  same_calls : (r : Run) (B : Buffers) (ms : List Made) → Whole.calls_of (whole r B ms) ≡ calls_of ms
  unfolding whole
  same_calls r B [] = refl
  same_calls r B (m ∷ ms) = ap (λ (xs : List Call). m.call ∷ xs) (same_calls m.run m.buffers ms)

  same_numbers : (r : Run) (B : Buffers) (ms : List Made) → MakesAll levels tables r B ms → map byte_of (Whole.answers_of (whole r B ms)) ≡ numbers_of ms
  unfolding whole
  same_numbers r B [] o = refl
  same_numbers r B (m ∷ ms) o = λ i. sym (made r B o.0).number i ∷ same_numbers m.run m.buffers ms o.1 i

  same_run : (r : Run) (B : Buffers) (ms : List Made) (q : Run) → Whole.last_run q (whole r B ms) ≡ last_run q ms
  unfolding whole
  same_run r B [] q = refl
  same_run r B (m ∷ ms) q = same_run m.run m.buffers ms m.run

  same_buffers : (r : Run) (B : Buffers) (ms : List Made) (D : Buffers) → Whole.last_buffers D (whole r B ms) ≡ last_buffers D ms
  unfolding whole
  same_buffers r B [] D = refl
  same_buffers r B (m ∷ ms) D = same_buffers m.run m.buffers ms m.buffers

  pub one_by_one_served : OneByOneServed levels tables
  one_by_one_served r B r₁ B₁ e ms o =
      let G = given_of r levels tables in
      let w = whole r₁ B₁ ms in
      let d = one_by_one levels tables r B r₁ B₁ (made_of r e) w (whole_made r₁ B₁ ms o) in
      let xs = same_calls r₁ B₁ ms in
      record {
        whole_answers =
            subst (λ (said : List Answer). TellAll said ms) (d.whole_answers ∙ ap (λ (l : List Call). plain_answers jobs G l (none_yet G)) xs) (all_told r₁ B₁ ms o);
        served =
            subst (λ (l : List Call). Served G l r (plain_places jobs G l (none_yet G)) (numbers_of ms) (last_run r₁ ms) (last_buffers B₁ ms)) xs
            (subst (λ (ns : List ℕ). Served G (Whole.calls_of w) r (plain_places jobs G (Whole.calls_of w) (none_yet G)) ns (last_run r₁ ms) (last_buffers B₁ ms))
            (same_numbers r₁ B₁ ms o)
            (subst (λ (q : Run). Served G (Whole.calls_of w) r (plain_places jobs G (Whole.calls_of w) (none_yet G)) (map byte_of (Whole.answers_of w)) q (last_buffers B₁ ms))
            (same_run r₁ B₁ ms r₁)
            (subst (λ (D : Buffers). Served G (Whole.calls_of w) r (plain_places jobs G (Whole.calls_of w) (none_yet G)) (map byte_of (Whole.answers_of w)) (Whole.last_run r₁ w) D)
            (same_buffers r₁ B₁ ms B₁) d.served)));
      }

-- ---- a mild record

-- a calm answer's number is neither
calm_number : (a : Answer) → T (calm a) → (byte_of a ≢ 255) × (byte_of a ≢ 10)
calm_number (Calls.refused n) t =
    (λ e. subst (λ (k : ℕ). T (eqb k 9 || eqb k 11 || eqb k 12)) e t, λ e. subst (λ (k : ℕ). T (eqb k 9 || eqb k 11 || eqb k 12)) e t)
calm_number Calls.done t = (λ e. omega (arith, e), λ e. omega (arith, e))
calm_number (Calls.projected n true) t = absurd t
calm_number (Calls.projected n false) t = (λ e. omega (arith, e), λ e. omega (arith, e))
calm_number (Calls.blended tv tgv) t = (λ e. omega (arith, e), λ e. omega (arith, e))

all_none : (P : ℕ → Type 0) → All P []
all_none P k d l = absurd (not-suc-le-zero l)

all_more : (P : ℕ → Type 0) (n : ℕ) (ns : List ℕ) → P n → All P ns → All P (n ∷ ns)
all_more P n ns p h zero d l = p
all_more P n ns p h (suc k) d l = h k d (le_of_suc-le-suc l)

calm_numbers : (said : List Answer) (ms : List Made) → TellAll said ms → T (all calm said) → All (λ k. k ≢ 255) (numbers_of ms) × All (λ k. k ≢ 10) (numbers_of ms)
calm_numbers [] [] h t = (all_none (λ k. k ≢ 255), all_none (λ k. k ≢ 10))
calm_numbers [] (m ∷ ms) h t = absurd h
calm_numbers (a ∷ said) [] h t = absurd h
calm_numbers (a ∷ said) (m ∷ ms) h t =
    let one = calm_number a (and_l (calm a) (all calm said) t) in
    let rest = calm_numbers said ms h.1 (and_r (calm a) (all calm said) t) in (
      all_more (λ k. k ≢ 255) m.number (numbers_of ms) (λ e. one.0 (sym h.0.number ∙ e)) rest.0,
      all_more (λ k. k ≢ 10) m.number (numbers_of ms) (λ e. one.1 (sym h.0.number ∙ e)) rest.1,
    )

pub calls_never : (r : Run) → RunNeverBlows r → CallsNeverBlow r
calls_never r never levels tables B r₁ B₁ e ms o =
    let G = given_of r levels tables in
    let xs = calls_of ms in
    let began = start_zero r levels tables B (sym (made_of r e).number) in
    let after = (start jobs G (state_of r B)).after in
    let n = never levels tables (state_of r B) began xs in
    let claim = demand3 G (state_of r B) began xs in
    let d = one_by_one_served levels tables r B r₁ B₁ e ms o in
    let ps = plain_places jobs G xs (none_yet G) in
    let long : length ps ≡ length (places_of r) = ap length (sym claim.same_places) ∙ final_long G xs after ∙ start_long r levels tables B in
    let said = calm_numbers (plain_answers jobs G xs (none_yet G)) ms d.whole_answers (subst (λ (l : List Answer). T (all calm l)) claim.same_answers n.calm_answers) in
    record {
      not_255 = said.0;
      not_10 = said.1;
      unmarked =
          subst (λ (q : Run). (c : ℕ) → c < q.count → (place (places_of q) c).mark ≡ false) (sym d.served.same_places)
          (λ c l.
          ap (λ (qs : List Place). (place qs c).mark) (places_placed r ps long) ∙ ap (λ (qs : List Place). (place qs c).mark) (sym claim.same_places) ∙ n.unmarked c l);
    }

pub mild_calls : MildCallsNeverBlow
mild_calls r m = calls_never r (λ levels tables s e xs. never_blows (given_of r levels tables) m s e xs)
