-- A call in its turn, for any jobs: it is accepted, and what it answers and leaves is by the fixed buffers.
use mathlib.Core.Path.{◌≡◌, ap, ◌∙◌}
use mathlib.Core.Logic.{⊎_elim}
use mathlib.Core.Bool.{Bool, true, false, not}
use mathlib.Core.List.{List, [], map}
use Prim.Native.Nat.{ℕ, ◌*◌, ◌%◌, ◌<◌}
use native.Mathlib.Omega.{arith}
use lib.ListN.{set}
use lib.Dec.{eqb}
use borrow.Author.Tests.{lt-ltb, eq-eqb, ne_eqb}
use Rattle.calls.specs.Run.{Given, Sheet, Place, place, count}
use Rattle.calls.specs.Jobs.{Job, on, blend, turn, blend_turn, Jobs, Seen, seen_at, totals_at}
use Rattle.calls.specs.Calls.{State, Plain, first, test, turn_tests, advance, onward, reply, blend_reply, call, plain, plain_accept, plain_settle}
use Rattle.calls.specs.Between.{GivenOk, Inv}
use Rattle.calls.specs.Laws.{Laws}
use Rattle.calls.proofs.Tests.{every_true, among_false, skip}
use Rattle.calls.proofs.Facts.{sheet_is}
use Rattle.calls.proofs.Step.{call_good}

module _ (S : Sheet) (ps : List Place) (p : ℕ) (left : p < 5 * S.N) where
  -- in its turn, none of the tests is true
  not_ended : (k : ℕ) → k ≡ p → eqb k (5 * S.N) ≡ false
  not_ended k e = ne_eqb k (5 * S.N) (λ f. omega arith)

  in-turn : (k n : ℕ) → k ≡ p → p % 5 ≡ n → eqb (k % 5) n ≡ true
  in-turn k n e t = ap (λ (i : ℕ). eqb (i % 5) n) e ∙ eq-eqb (p % 5) n t

  pub on_turn : (j : Job) (c : ℕ) → c < S.count → (place ps c).position ≡ p → (place ps c).mark ≡ false → p % 5 ≡ turn j → first (turn_tests S ps (on j c)) ≡ 0
  on_turn j c below here free t =
      let q : ℕ = (place ps c).position in
      skip (turn_tests S ps (on j c)) []
      (ap (λ (b : Bool). test 12 (not b)) (lt-ltb c S.count below), (ap (test 10) free, (ap (test 11) (not_ended q here), (ap (λ (b : Bool). test 9 (not b)) (in-turn q (turn j) here t), tt))))

  pub blend-turn : ((c : ℕ) → c < S.count → (place ps c).position ≡ p) → ((c : ℕ) → c < S.count → (place ps c).mark ≡ false) → p % 5 ≡ 2
      → first (turn_tests S ps blend) ≡ 0
  blend-turn here free t =
      skip (turn_tests S ps blend) [] (
        ap (test 10) (among_false S.count (λ c. (place ps c).mark) free),
        (
          ap (test 11) (among_false S.count (λ c. eqb (place ps c).position (5 * S.N)) (λ c h. not_ended (place ps c).position (here c h))),
          (
            ap (λ (b : Bool). test 9 (not b))
                (every_true S.count (λ c. eqb ((place ps c).position % 5) blend_turn) (λ c h. in-turn (place ps c).position blend_turn (here c h) t)),
            tt,
          ),
        ),
      )

-- what a call in its turn gives
module _ (J : Jobs) (laws : Laws J) (G : Given) (ok : GivenOk G) (s : State) (inv : Inv J G s) (p : ℕ) (left : p < 5 * G.sheet.N) where
  module _ (j : Job) (c : ℕ) (below : c < count G) (here : (place s.places c).position ≡ p) (free : (place s.places c).mark ≡ false) (t : p % 5 ≡ turn j) where
    abbrev told : Seen → Plain
    told x = record { answer = reply j x; places = set s.places c (advance j x (place s.places c)) }

    accepted : plain J G (on j c) s.places ≡ told (seen_at J G p c)
    unfolding plain
    accepted =
        ap (λ (r : ℕ). plain_settle r s.places (plain_accept J G (on j c) s.places)) (on_turn G.sheet s.places p left j c below here free t)
        ∙ ap (λ (k : ℕ). told (seen_at J G k c)) here

    pub on_answer : (call J G (on j c) s).answer ≡ reply j (seen_at J G p c)
    on_answer = (call_good J laws G ok s inv (on j c)).same_answer ∙ ap (λ (o : Plain). o.answer) accepted

    pub on_places : (call J G (on j c) s).after.places ≡ set s.places c (advance j (seen_at J G p c) (place s.places c))
    on_places = (call_good J laws G ok s inv (on j c)).same_places ∙ ap (λ (o : Plain). o.places) accepted

  module _ (here : (c : ℕ) → c < count G → (place s.places c).position ≡ p) (free : (c : ℕ) → c < count G → (place s.places c).mark ≡ false) (t : p % 5 ≡ 2) where
    first_here : (place s.places 0).position ≡ p
    first_here = here 0 (⊎_elim (λ e. omega arith) (λ e. omega arith) (sheet_is G.sheet ok.sheet-ok).channels)

    all_accepted : plain J G blend s.places ≡ record { answer = blend_reply (totals_at J G p); places = map onward s.places }
    unfolding plain
    all_accepted =
        ap (λ (r : ℕ). plain_settle r s.places (plain_accept J G blend s.places)) (blend-turn G.sheet s.places p left here free t)
        ∙ ap (λ (k : ℕ). record { answer = blend_reply (totals_at J G k); places = map onward s.places }) first_here

    pub blend_answer : (call J G blend s).answer ≡ blend_reply (totals_at J G p)
    blend_answer = (call_good J laws G ok s inv blend).same_answer ∙ ap (λ (o : Plain). o.answer) all_accepted

    pub blend_places : (call J G blend s).after.places ≡ map onward s.places
    blend_places = (call_good J laws G ok s inv blend).same_places ∙ ap (λ (o : Plain). o.places) all_accepted
