-- C's record and a call's answer in numbers: what a call gives by value, it gives in numbers, and 13 where C's record has no letter.
use lib.Dec.{leb}
use mathlib.Core.Path.{◌≡◌, refl, sym, ap, ◌∙◌, subst}
use mathlib.Core.Bool.{Bool, true, false, cond, true≢false}
use mathlib.Core.Logic.{◌≢◌}
use mathlib.Core.List.{List, [], ◌∷◌}
use Prim.Native.Nat.{ℕ, zero, suc, ◌≤◌}
use native.Mathlib.Omega.{arith}
use lib.Ieee.{Float}
use lib.ListN.{length}
use borrow.Author.Tests.{le-leb, leb-true}
use Rattle.start.specs.Coef.{Levels}
use Rattle.start.specs.declared.coef.Reorder.{Reorder}
use Rattle.start.specs.declared.coef.Reorder.TheVariants.{Each, Once}
use Rattle.start.specs.Buffers.{Buffers}
use Rattle.record.specs.declared.Run.{Run}
use Rattle.std.specs.Prelude.{Result, Ok, Err}
use Rattle.refusal.specs.declared.Refusal.{Refusal}
use Rattle.refusal.specs.declared.Refusal.TheVariants.{Record}
use Rattle.calls.specs.Calls.{Answer, blended}
use Rattle.record.specs.declared.Accepted.{Accepted}
use Rattle.record.specs.Model.{answer_of}
use Rattle.calls.specs.Jobs.{blend}
use Rattle.run.specs.Public.{Outcome, call_of, for_blend, BlendIs}
use Rattle.serve.specs.Serve.{byte_of, GaveNumber, ServeIs, serve_refusal_of}
use Rattle.smoother.specs.declared.LentRun.{LentRun}
use Rattle.smoother.specs.Numbers.{reorder_from, reorder_number, run_from, lent_from, RunFrom, GaveLent, pair_in, room_refusal, BlendNumbers, list_refusal, ServeNumbers}

-- ---- the letter and the record, there and back

letter_back : (R : Reorder) → reorder_from (reorder_number R) ≡ R
letter_back Each = refl
letter_back Once = refl

some_letter : (R : Reorder) → reorder_number R ≤ 1
some_letter Each = omega arith
some_letter Once = omega arith

small_back : (n : ℕ) → n ≤ 1 → reorder_number (reorder_from n) ≡ n
small_back zero l = refl
small_back (suc zero) l = refl
small_back (suc (suc n)) l = absurd (omega arith)

number_back : (n : ℕ) → leb n 1 ≡ true → reorder_number (reorder_from n) ≡ n
number_back n l = small_back n (leb-true n 1 l)

run_back : (r : Run) → run_from (lent_from r) ≡ r
run_back r =
    λ i.
    record { w = r.w; h = r.h; n = r.n; smoothing = r.smoothing; reorder = letter_back r.reorder i; count = r.count; channels = r.channels }

lent_back : (x : LentRun) → leb x.reorder 1 ≡ true → lent_from (run_from x) ≡ x
lent_back x l =
    λ i.
    record { w = x.w; h = x.h; n = x.n; smoothing = x.smoothing; reorder = number_back x.reorder l i; count = x.count; channels = x.channels }

-- the record that C's record says, where it has a letter
pub lettered : (x : LentRun) (a : Result Run Refusal) → RunFrom x a → (r : Run) → a ≡ Ok r → (leb x.reorder 1 ≡ true) × (r ≡ run_from x)
lettered x a h r p = go (leb x.reorder 1) refl (sym h ∙ p)
  where
    go : (b : Bool) → leb x.reorder 1 ≡ b → cond b (Ok (run_from x)) (Err Record) ≡ Ok r → (leb x.reorder 1 ≡ true) × (r ≡ run_from x)
    go true e q = (e, let z : r ≡ run_from x = cc in z)
    go false e q = absurd (let z : ◌≡◌ {A = ℕ} 0 1 = cc in omega arith)

pub unlettered : (x : LentRun) (a : Result Run Refusal) → RunFrom x a → ((r : Run) → a ≡ Ok r → ⊥) → leb x.reorder 1 ≡ false
unlettered x a h none = go (leb x.reorder 1) refl
  where
    go : (b : Bool) → leb x.reorder 1 ≡ b → leb x.reorder 1 ≡ false
    go true e = absurd (none (run_from x) (h ∙ ap (λ (b : Bool). cond b (Ok (run_from x)) (Err Record)) e))
    go false e = e

-- ---- one call

module _ {x : LentRun} {B : Buffers} {f : Run → Outcome} where
  pub no_letter : leb x.reorder 1 ≡ false → GaveLent x B f 13 x B
  no_letter l = record { no_letter = λ e. (refl, refl, refl); a_letter = λ e. absurd (true≢false (sym e ∙ l)) }

  pub in-numbers : leb x.reorder 1 ≡ true → (r : Run) → r ≡ run_from x → (a : Answer) (r' : Run) {k : ℕ} {x' : LentRun} → k ≡ byte_of a → x' ≡ lent_from r'
      → {B' : Buffers} → f r ≡ record { answer = a; run = r'; buffers = B' } → GaveLent x B f k x' B'
  in-numbers l r q a r' e w h =
      let given = ap f (sym q) ∙ h in
      record {
        no_letter = λ z. absurd (true≢false (sym l ∙ z));
        a_letter = λ z. (
          e ∙ ap (λ (o : Outcome). byte_of o.answer) (sym given),
          w ∙ ap (λ (o : Outcome). lent_from o.run) (sym given),
          ap (λ (o : Outcome). o.buffers) (sym given),
        );
      }

-- ---- blend, with its totals

module _ {x : LentRun} {plane gradient across down totals : List Float} where
  pub not_two : length totals ≢ 2 → (k : ℕ) → k ≡ room_refusal x → BlendNumbers x plane gradient across down totals k x gradient across down totals
  not_two f k e =
      record { two = λ q. absurd (f q); pair = λ q. absurd (f q); not_two = λ g. (e, refl, refl, refl, refl, refl) }

  module _ (long : length totals ≡ 2) where
    pub blend_no_letter : leb x.reorder 1 ≡ false → BlendNumbers x plane gradient across down totals 13 x gradient across down totals
    blend_no_letter l =
        record {
          two = λ q levels tables o. no_letter l;
          pair = λ q levels tables o. rw l;
          not_two = λ g. absurd (g long);
        }

    pub blend_numbers : leb x.reorder 1 ≡ true → (r : Run) → r ≡ run_from x → (a : Result Accepted Refusal) (r' : Run) {k : ℕ} {x' : LentRun}
        → k ≡ byte_of (answer_of a) → x' ≡ lent_from r' → {gradient' across' down' totals' : List Float}
        → BlendIs r plane gradient across down a r' gradient' across' down' → totals' ≡ pair_in (answer_of a) totals
        → BlendNumbers x plane gradient across down totals k x' gradient' across' down' totals'
    blend_numbers l r q a r' e w h put =
        record {
          two = λ z levels tables o. in-numbers l r q (answer_of a) r' e w (h levels tables o);
          pair =
              λ z levels tables o.
              put
              ∙ ap (λ (z : Outcome). pair_in z.answer totals) (sym (ap (λ (s : Run). call_of s blend levels tables (for_blend o plane gradient across down)) (sym q) ∙ h levels tables o))
              ∙ rw l;
          not_two = λ g. absurd (g long);
        }

-- both totals of a blend that was lent the numbers of a record stand in its two places
pub pair_of : (r : Run) (levels : Levels) (tables : List ℕ) (B : Buffers) {k : ℕ} {x' : LentRun} {gradient across down lent totals : List Float} → length lent ≡ 2
    → BlendNumbers (lent_from r) B.plane B.gradient B.across B.down lent k x' gradient across down totals
    → (tv tgv : Float) → (call_of r blend levels tables B).answer ≡ blended tv tgv → totals ≡ tv ∷ tgv ∷ []
pair_of r levels tables B {k} {x'} {gradient} {across} {down} {lent} e h tv tgv q =
    h.pair e levels tables B
    ∙ ap (λ (b : Bool). cond b (pair_in (call_of (run_from (lent_from r)) blend levels tables B).answer lent) lent)
    (le-leb (reorder_number r.reorder) 1 (some_letter r.reorder))
    ∙ ap (λ (z : Run). pair_in (call_of z blend levels tables B).answer lent) (run_back r)
    ∙ ap (λ (a : Answer). pair_in a lent) q

-- a call that was lent the numbers of a record: what it gave
pub made_of : (r : Run) {B : Buffers} {f : Run → Outcome} {k : ℕ} {r' : Run} {B' : Buffers} → GaveLent (lent_from r) B f k (lent_from r') B' → GaveNumber (f r) k r' B'
made_of r {B} {f} {k} {r'} h =
    let b = run_back r in
    let y = h.a_letter (le-leb (reorder_number r.reorder) 1 (some_letter r.reorder)) in
    record {
      number = y.0 ∙ ap (λ (z : Run). byte_of (f z).answer) b;
      run = sym (run_back r') ∙ ap run_from y.1 ∙ run_back (f (run_from (lent_from r))).run ∙ ap (λ (z : Run). (f z).run) b;
      buffers = y.2 ∙ ap (λ (z : Run). (f z).buffers) b;
    }

-- ---- a list of calls

module _ (x : LentRun) (js cs bytes : List ℕ) (levels : Levels) (tables : List ℕ) (B : Buffers) where
  pub no_letter_list : leb x.reorder 1 ≡ false → ServeNumbers x js cs bytes levels tables B 13 x bytes B
  unfolding list_refusal
  no_letter_list l =
      let e : list_refusal x js cs bytes levels tables B ≡ 13 = rw l in
      record {
        if_refused = λ w. (sym e, refl, refl, refl);
        if_done = λ z. absurd (let q : ◌≡◌ {A = ℕ} 13 0 = sym e ∙ z in omega arith);
      }

  lettered_list : leb x.reorder 1 ≡ true → list_refusal x js cs bytes levels tables B ≡ serve_refusal_of (run_from x) js cs bytes levels tables B
  unfolding list_refusal
  lettered_list l = rw l

  pub serve_numbers : leb x.reorder 1 ≡ true → (r : Run) → r ≡ run_from x → (a : Result Accepted Refusal) (r' : Run) {k : ℕ} {x' : LentRun}
      → k ≡ byte_of (answer_of a) → x' ≡ lent_from r' → {bytes' : List ℕ} {B' : Buffers}
      → ServeIs r js cs bytes levels tables B a r' bytes' B' → ServeNumbers x js cs bytes levels tables B k x' bytes' B'
  serve_numbers l r q a r' e w {bytes'} {B'} h =
      let s = lettered_list l in
      let served = subst (λ (z : Run). ServeIs z js cs bytes levels tables B a r' bytes' B') q h in
      record {
        if_refused = λ g. let y = served.if_refused (λ z. g (s ∙ z)) in (e ∙ ap byte_of y.0 ∙ sym s, w ∙ ap lent_from y.1 ∙ lent_back x l, y.2, y.3);
        if_done = λ z. let y = served.if_done (sym s ∙ z) in (e ∙ ap byte_of y.0, (r', w, y.1));
      }

-- with each of the six buffers as its owner has it
pub serve_lent : {x : LentRun} {js cs bytes : List ℕ} {levels : Levels} {tables : List ℕ} {B : Buffers} {k : ℕ} {x' : LentRun} {bytes' : List ℕ} {B' : Buffers}
    → ServeNumbers x js cs bytes levels tables B k x' bytes' B' → {plane prior gradient across down saved : List Float}
    → plane ≡ B'.plane → prior ≡ B'.prior → gradient ≡ B'.gradient → across ≡ B'.across → down ≡ B'.down → saved ≡ B'.saved
    → ServeNumbers x js cs bytes levels tables B k x' bytes' (record { plane = plane; prior = prior; gradient = gradient; across = across; down = down; saved = saved })
serve_lent {x} {js} {cs} {bytes} {levels} {tables} {B} {k} {x'} {bytes'} h p q r s t u =
    subst (λ (z : Buffers). ServeNumbers x js cs bytes levels tables B k x' bytes' z)
    (λ i. record { plane = sym p i; prior = sym q i; gradient = sym r i; across = sym s i; down = sym t i; saved = sym u i }) h
