-- A run whose fixed buffers are never blown marks no channel, whatever calls are made, for any jobs.
use mathlib.Core.Path.{◌≡◌, refl, ap, ◌∙◌, subst}
use Prim.Native.Nat.{ℕ, zero, suc, ◌*◌, ◌/◌, ◌%◌, ◌≤◌, ◌<◌}
use native.Mathlib.Omega.{arith}
use native.Mathlib.Decide.{ℕ_discrete}
use mathlib.Core.Bool.{false}
use mathlib.Core.List.{List, [], ◌∷◌, map}
use lib.Dec.{eqb}
use lib.ListN.{set}
use Rattle.calls.specs.Run.{Place, Given, place, count, coefs, held}
use Rattle.start.specs.Buffers.{Buffers}
use Rattle.calls.specs.Jobs.{Job, push, fidelity, move, project, Call, on, blend, turn, blend_turn, Jobs, fixed, clips, kept, channel_blown, seen_at}
use Rattle.calls.specs.Calls.{State, done, first, turn_tests, onward, advance, start, final, none_yet, plain, plain_accept, plain_settle, plain_places}
use Rattle.calls.specs.Between.{PlacesAre}
use Rattle.calls.specs.Laws.{Laws}
use Rattle.calls.proofs.Legal.{Ready, ready_of, blend_ready_of, place_here, place_elsewhere, job_legal, place_blended, blend_legal}
use Rattle.calls.proofs.Step.{either_most}
use Rattle.calls.proofs.Runs.{at_fresh, fresh_are, demand3}

module _ (J : Jobs) (G : Given) (most : (c : ℕ) (b : Buffers) → J.clip G c b ≤ coefs G.sheet c)
    (fine : (c p : ℕ) → c < count G → p ≤ 5 * G.sheet.N → channel_blown G c (fixed J G p c) ≡ false) where
  record Unmarked (ps : List Place) : Type 0 where
    are : PlacesAre G.sheet ps
    none : (c : ℕ) → c < count G → (place ps c).mark ≡ false

  -- no more are clipped, and kept, than the channel has
  clips_most : (c step last : ℕ) (b : Buffers) → last ≤ coefs G.sheet c → clips J G c step last b ≤ coefs G.sheet c
  clips_most c step last b h = either_most (held G.sheet c step) last (J.clip G c b) (coefs G.sheet c) h (most c b)

  kept_most : (p c : ℕ) → kept J G p c ≤ coefs G.sheet c
  unfolding kept
  kept_most zero c = omega arith
  kept_most (suc p) c =
      either_most (eqb (p % 5) (turn project)) (clips J G c (p / 5) (kept J G p c) (fixed J G p c)) (kept J G p c) (coefs G.sheet c)
      (clips_most c (p / 5) (kept J G p c) (fixed J G p c) (kept_most p c)) (kept_most p c)

  one_on : (j : Job) (c : ℕ) (p : Place) → c < count G → p.mark ≡ false → p.position ≤ 5 * G.sheet.N → (p.position ≡ 5 * G.sheet.N → ⊥)
      → (advance j (seen_at J G p.position c) p).mark ≡ false
  one_on push c p h m w f = m
  one_on fidelity c p h m w f = m
  one_on move c p h m w f = m
  one_on project c p h m w f = fine c (suc p.position) h (omega arith)

  module _ (ps : List Place) (u : Unmarked ps) where
    job_unmarked : (j : Job) (c : ℕ) → c < count G → Ready G.sheet ps (turn j) c → Unmarked (set ps c (advance j (seen_at J G (place ps c).position c) (place ps c)))
    job_unmarked j c below r =
        let p : Place = advance j (seen_at J G (place ps c).position c) (place ps c) in
        record {
          are = job_legal G.sheet ps j c (seen_at J G (place ps c).position c) u.are below r
              (clips_most c ((place ps c).position / 5) (kept J G (place ps c).position c) (fixed J G (place ps c).position c) (kept_most (place ps c).position c));
          none =
              λ d h.
              elim (ℕ_discrete c d) [
                | yes e ↦
                    subst (λ (i : ℕ). (place (set ps c p) i).mark ≡ false) e
                    (ap (λ (q : Place). q.mark) (place_here ps c p (omega (arith, u.are.long)))
                    ∙ one_on j c (place ps c) below r.unmarked (u.are.each c below).within r.unfinished)
                | no f ↦ ap (λ (q : Place). q.mark) (place_elsewhere ps c p d f) ∙ u.none d h
              ];
        }

    blend_unmarked : ((c : ℕ) → c < count G → Ready G.sheet ps blend_turn c) → Unmarked (map onward ps)
    blend_unmarked r =
        record {
          are = blend_legal G.sheet ps u.are r;
          none = λ c h. ap (λ (q : Place). q.mark) (place_blended G.sheet ps u.are r c h) ∙ u.none c h;
        }

    settled : (x : Call) (n : ℕ) → first (turn_tests G.sheet ps x) ≡ n → Unmarked (plain_settle n ps (plain_accept J G x ps)).places
    settled x (suc n) e = u
    settled (on j c) zero e = let h = ready_of G.sheet ps j c e in job_unmarked j c h.0 h.1
    settled blend zero e = blend_unmarked (blend_ready_of G.sheet ps e)

    call_unmarked : (x : Call) → Unmarked (plain J G x ps).places
    unfolding plain
    call_unmarked x = settled x (first (turn_tests G.sheet ps x)) refl

  list_unmarked : (xs : List Call) (ps : List Place) → Unmarked ps → Unmarked (plain_places J G xs ps)
  unfolding plain_places
  list_unmarked [] ps u = u
  list_unmarked (x ∷ xs) ps u = list_unmarked xs (plain J G x ps).places (call_unmarked ps u x)

  -- of the plain run
  pub plain_unmarked : (xs : List Call) (c : ℕ) → c < count G → (place (plain_places J G xs (none_yet G)) c).mark ≡ false
  plain_unmarked xs =
      (list_unmarked xs (none_yet G) (record { are = fresh_are G; none = λ c h. ap (λ (p : Place). p.mark) (at_fresh G c h) })).none

  -- and so of the run
  pub run_unmarked : Laws J → (s : State) → (start J G s).answer ≡ done → (xs : List Call) (c : ℕ) → c < count G
      → (place (final J G xs (start J G s).after).places c).mark ≡ false
  run_unmarked laws s e xs c h = ap (λ (ps : List Place). (place ps c).mark) (demand3 J laws G s e xs).same_places ∙ plain_unmarked xs c h
