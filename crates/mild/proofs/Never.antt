-- M-112: ordinary weights never blow. Every definition that the statement leans on:
--   `mild`, `NeverBlows`, `MildNeverBlows`           mild/specs/Mild
--   `Given` and what it holds                        calls/specs/Run
--   `start`, `answers`, `final`                      calls/specs/Calls
--   `jobs`, the arithmetic of the jobs               demand/specs/Solver, work/specs/Work
use mathlib.Core.Path.{◌≡◌, refl, sym, ap, ◌∙◌, subst}
use mathlib.Core.Bool.{Bool, true, false, not, ◌||◌, cond}
use mathlib.Core.List.{List, [], ◌∷◌}
use Prim.Native.Nat.{ℕ, zero, suc, ◌*◌, ◌/◌, ◌%◌, ◌^◌, ◌≤◌, ◌<◌}
use native.Mathlib.Omega.{arith}
use borrow.Author.Tests.{ltb-true}
use lib.Dec.{T, eqb, ltb, eqb-suc-zero}
use lib.ListN.{take}
use lib.Ieee.Fits.{and_i}
use Rattle.start.specs.Buffers.{Buffers}
use Rattle.projection.specs.Blown.{any_bad, is_blown}
use Rattle.calls.specs.Run.{Given, place, count, coefs, every, among}
use Rattle.calls.specs.Jobs.{Job, push, fidelity, move, project, Call, on, blend, turn, blend_turn, fixed, channel_blown, Seen, seen_at}
use Rattle.calls.specs.Calls.{Answer, State, first, test, turn_tests, all, reply, call, start, answers, final, plain, plain_accept, plain_settle}
use Rattle.calls.specs.Between.{GivenOk, Inv}
use Rattle.calls.proofs.Legal.{ready_of}
use Rattle.calls.proofs.Tests.{among_false, never}
use Rattle.calls.proofs.Step.{call_good}
use Rattle.calls.proofs.Runs.{between, given_ok}
use Rattle.demand.specs.Solver.{jobs}
use Rattle.demand.proofs.Laws.{laws}
use Rattle.bounds.proofs.Good.{take_good}
use Rattle.mild.specs.Mild.{mild, MildNeverBlows, calm}
use Rattle.mild.proofs.Channel.{none_bad}
use Rattle.mild.proofs.Jobs.{At, Bounded}
use Rattle.mild.proofs.Positions.{fixed_fine}

-- ---- bounded buffers are not blown

bounded_not : (n p r g s : ℕ) (b : Buffers) → Bounded p r g s b → is_blown n b.plane b.saved ≡ false
unfolding is_blown
bounded_not n p r g s b h =
    ap (λ (t : Bool). t || any_bad (take n b.saved)) (none_bad p b.plane h.plane_good) ∙ none_bad (2 ^ 168) (take n b.saved) (take_good (2 ^ 168) n b.saved h.saved_good)

at_not : (j e n : ℕ) (b : Buffers) → At j e b → is_blown n b.plane b.saved ≡ false
at_not zero e n b h = bounded_not n _ _ _ _ b h
at_not (suc zero) e n b h = bounded_not n _ _ _ _ b h
at_not (suc (suc zero)) e n b h = bounded_not n _ _ _ _ b h
at_not (suc (suc (suc zero))) e n b h = bounded_not n _ _ _ _ b h
at_not (suc (suc (suc (suc zero)))) e n b h = bounded_not n _ _ _ _ b h
at_not (suc (suc (suc (suc (suc j))))) e n b h = bounded_not n _ _ _ _ b h

-- ---- where no channel is marked, a call is refused by 9, 11 or 12 or not at all

abbrev by_turn : ℕ → Bool
by_turn n = eqb n 0 || (eqb n 9 || eqb n 11 || eqb n 12)

no_ten : (a b d e : Bool) → (a ≡ false → b ≡ false) → T (by_turn (first (test 12 a ∷ test 10 b ∷ test 11 d ∷ test 9 e ∷ [])))
no_ten true b d e h = tt
no_ten false true d e h = never true (h refl) refl
no_ten false false true e h = tt
no_ten false false false true h = tt
no_ten false false false false h = tt

no_ten_all : (b d e : Bool) → b ≡ false → T (by_turn (first (test 10 b ∷ test 11 d ∷ test 9 e ∷ [])))
no_ten_all b d e h = no_ten false b d e (λ z. h)

module _ (G : Given) (ok : GivenOk G) (m : mild G.sheet ≡ true) where
  pub not_blown : (p : ℕ) → p ≤ 5 * G.sheet.N → (c : ℕ) → c < count G → channel_blown G c (fixed jobs G p c) ≡ false
  not_blown p h c l = at_not (p % 5) (p / 5) (coefs G.sheet c) (fixed jobs G p c) (fixed_fine G ok m p h c l).1

  module _ (s : State) (inv : Inv jobs G s) where
    pub unmarked : (c : ℕ) → c < count G → (place s.places c).mark ≡ false
    unmarked c l = go (place s.places c).mark refl
      where
        go : (t : Bool) → (place s.places c).mark ≡ t → (place s.places c).mark ≡ false
        go false e = e
        go true e =
            let b = inv.marked c l e in
            let n = not_blown (place s.places c).position (inv.legal_places.each c l).within c l in
            absurd (differ (sym n ∙ b))
          where
            differ : false ≡ true → ⊥
            differ h = subst (λ (t : Bool). T (not t)) h tt

    -- 10 is no refusal
    not_ten : (x : Call) → T (by_turn (first (turn_tests G.sheet s.places x)))
    not_ten (on j c) =
        no_ten (not (ltb c (count G))) (place s.places c).mark (eqb (place s.places c).position (5 * G.sheet.N)) (not (eqb ((place s.places c).position % 5) (turn j)))
        (λ e. unmarked c (ltb-true c (count G) (not-false (ltb c (count G)) e)))
      where
        not-false : (b : Bool) → not b ≡ false → b ≡ true
        not-false true e = refl
        not-false false e = never true e refl
    not_ten blend =
        no_ten_all (among (count G) (λ c. (place s.places c).mark)) (among (count G) (λ c. eqb (place s.places c).position (5 * G.sheet.N)))
        (not (every (count G) (λ c. eqb ((place s.places c).position % 5) blend_turn))) (among_false (count G) (λ c. (place s.places c).mark) unmarked)

    -- an accepted call does not say blown
    accepted : (x : Call) → first (turn_tests G.sheet s.places x) ≡ 0 → T (calm (plain_accept jobs G x s.places).answer)
    accepted (on j c) e =
        let r = ready_of G.sheet s.places j c e in
        let at = (place s.places c).position in
        let inside : suc at ≤ 5 * G.sheet.N = further at (5 * G.sheet.N) (inv.legal_places.each c r.0).within r.1.unfinished in
        says j (seen_at jobs G at c) (not_blown (suc at) inside c r.0)
      where
        says : (j : Job) (x : Seen) → x.blown ≡ false → T (calm (reply j x))
        says push x e = tt
        says fidelity x e = tt
        says move x e = tt
        says project x e = subst (λ (t : Bool). T (not t)) (sym e) tt

        further : (p n : ℕ) → p ≤ n → (p ≡ n → ⊥) → suc p ≤ n
        further p n h d = omega arith
    accepted blend e = tt

    plain_calm : (x : Call) → T (calm (plain jobs G x s.places).answer)
    unfolding plain
    plain_calm x = go (first (turn_tests G.sheet s.places x)) refl
      where
        go : (r : ℕ) → first (turn_tests G.sheet s.places x) ≡ r → T (calm (plain_settle r s.places (plain_accept jobs G x s.places)).answer)
        go zero e = accepted x e
        go (suc r) e = subst (λ (b : Bool). T (b || (eqb (suc r) 9 || eqb (suc r) 11 || eqb (suc r) 12))) (eqb-suc-zero r) (subst (λ (n : ℕ). T (by_turn n)) e (not_ten x))

  -- of a list of calls
  list_calm : (xs : List Call) (s : State) → Inv jobs G s → T (all calm (answers jobs G xs s))
  unfolding answers
  list_calm [] s inv = tt
  list_calm (x ∷ xs) s inv =
      let g = call_good jobs laws G ok s inv x in
      and_i (calm (call jobs G x s).answer) (all calm (answers jobs G xs (call jobs G x s).after))
      (subst (λ (a : Answer). T (calm a)) (sym g.same_answer) (plain_calm s inv x)) (list_calm xs (call jobs G x s).after g.again)

-- For every mild sheet with levels, tables and lent buffers that start accepts, and every list of calls after it.
pub never_blows : MildNeverBlows jobs
unfolding final
never_blows G m s e xs =
    let ok = given_ok jobs G s e in
    record {
      unmarked = unmarked G ok m (final jobs G xs (start jobs G s).after) (between jobs laws G s e xs);
      calm_answers = list_calm G ok m xs (start jobs G s).after (between jobs laws G s e []);
    }
