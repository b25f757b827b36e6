-- Demand 3: every list of calls from a fresh run.
use mathlib.Core.Path.{◌≡◌, refl, sym, ap, ◌∙◌, subst}
use Prim.Native.Nat.{ℕ, zero, suc, ◌<◌}
use native.Mathlib.Omega.{arith}
use mathlib.Core.Bool.{true, false}
use mathlib.Core.List.{List, [], ◌∷◌, map}
use lib.Ieee.Fits.{and_l, and_r}
use lib.ListN.{length, replicate, length-replicate, get_or-replicate}
use Rattle.calls.specs.Run.{Place, Given, fresh, own, place, count, area, blends_in, sheet_ok, places_ok}
use Rattle.calls.specs.Buffers.{channel, joined, Sized}
use Rattle.calls.specs.Jobs.{Call, Jobs, fixed, kept}
use Rattle.calls.specs.Calls.{Answer, done, State, first, lend_tests, all_six, lengths, start_refusal, settle, call, begin, start, answers, final, none_yet, plain_answers, plain_places}
use Rattle.calls.specs.Demand.{Demand3, MeetsDemand3}
use Rattle.calls.specs.Between.{GivenOk, PlaceIs, PlacesAre, AllIn, Inv}
use Rattle.calls.specs.Laws.{Laws}
use Rattle.calls.proofs.Parts.{joined_sized, channel_joined, joined_channels}
use Rattle.calls.proofs.Tests.{never, Lent, lent_of}
use Rattle.calls.proofs.Legal.{places_are}
use Rattle.calls.proofs.Step.{call_good}

-- ---- a list of calls

module _ (J : Jobs) (laws : Laws J) (G : Given) (ok : GivenOk G) where
  -- of the whole list: the plain run's answers and places, and the invariant at the end
  record All (xs : List Call) (s : State) : Type 0 where
    same_answers : answers J G xs s ≡ plain_answers J G xs s.places
    same_places : (final J G xs s).places ≡ plain_places J G xs s.places
    last : Inv J G (final J G xs s)

  list_good : (xs : List Call) (s : State) → Inv J G s → All xs s
  unfolding answers final plain_answers plain_places
  list_good [] s inv = record { same_answers = refl; same_places = refl; last = inv }
  list_good (x ∷ xs) s inv =
      let g = call_good J laws G ok s inv x in
      let r = list_good xs (call J G x s).after g.again in
      record {
        same_answers = λ i. ∷-path g.same_answer (r.same_answers ∙ ap (plain_answers J G xs) g.same_places) i;
        same_places = r.same_places ∙ ap (plain_places J G xs) g.same_places;
        last = r.last;
      }
    where
      ∷-path : {a b : Answer} {xs ys : List Answer} → a ≡ b → xs ≡ ys → (a ∷ xs) ≡ (b ∷ ys)
      ∷-path p q i = p i ∷ q i

-- ---- start

map_fresh : (ps : List Place) → map (λ p. fresh) ps ≡ replicate (length ps) fresh
map_fresh [] = refl
map_fresh (p ∷ ps) = ap (λ (l : List Place). fresh ∷ l) (map_fresh ps)

-- a fresh run's places
module _ (G : Given) where
  pub at_fresh : (c : ℕ) → c < count G → place (none_yet G) c ≡ fresh
  at_fresh c h = get_or-replicate (count G) c fresh fresh h

  fresh_is : (c : ℕ) → PlaceIs G.sheet (own G.sheet c) fresh
  fresh_is c = record { within = omega arith; marked = λ m. never false refl m; clipped_most = omega arith; clipped_none = λ l. refl }

  pub fresh_are : PlacesAre G.sheet (none_yet G)
  fresh_are =
      record {
        long = length-replicate (count G) fresh;
        each = λ c h. subst (PlaceIs G.sheet (own G.sheet c)) (sym (at_fresh c h)) (fresh_is c);
        equal = λ c h. ap (λ (p : Place). blends_in p.position) (at_fresh c h ∙ sym (at_fresh 0 (omega arith)));
      }

-- an accepted start has passed its four tests
module _ (J : Jobs) (G : Given) (s : State) where
  accepted : (start J G s).answer ≡ done → first (lend_tests G s.places (lengths all_six s.buffers) true) ≡ 0
  unfolding start start_refusal
  accepted = go (first (lend_tests G s.places (lengths all_six s.buffers) true))
    where
      go : (r : ℕ) → (settle r s (begin J G s)).answer ≡ done → r ≡ 0
      go zero e = refl
      go (suc r) e = let z : ◌≡◌ {A = ℕ} 0 1 = cc in absurd (omega arith)

  module _ (e : (start J G s).answer ≡ done) where
    passed : Lent G s.places (lengths all_six s.buffers) true
    passed = lent_of G s.places (lengths all_six s.buffers) true (accepted e)

    pub given_ok : GivenOk G
    given_ok =
        record {
          sheet-ok = and_l (sheet_ok G.sheet) (places_ok G.sheet s.places) passed.is-legal;
          levels-long = passed.levels-long refl;
          tables_long = passed.tables_long refl;
          tables_ok = passed.tables_ok refl;
          levels_ok = passed.levels_ok refl;
        }

    -- all places are fresh, and there is one for each channel
    fresh_places : map (λ p. fresh) s.places ≡ none_yet G
    fresh_places =
        map_fresh s.places
        ∙ ap (λ (k : ℕ). replicate k fresh) (places_are G.sheet s.places (and_r (sheet_ok G.sheet) (places_ok G.sheet s.places) passed.is-legal)).long

    -- the state that start leaves
    s₀ : State
    s₀ = record { places = none_yet G; buffers = joined (count G) (J.start G) }

    started : (start J G s).after ≡ s₀
    unfolding start start_refusal s₀
    started =
        ap (λ (r : ℕ). (settle r s (begin J G s)).after) (accepted e)
        ∙ ap (λ (ps : List Place). record { places = ps; buffers = joined (count G) (J.start G) }) fresh_places

    module _ (laws : Laws J) where
      start_good : Inv J G s₀
      unfolding s₀ fixed kept
      start_good =
          let sizes : (c : ℕ) → c < count G → Sized (area G) (J.start G c) = laws.start_sized G given_ok in
          let parts : (c : ℕ) → c < count G → channel (area G) c (joined (count G) (J.start G)) ≡ J.start G c = channel_joined (area G) (count G) (J.start G) sizes in
          record {
            legal_places = fresh_are G;
            sized = joined_sized (area G) (count G) (J.start G) sizes;
            as_fixed = λ c h. parts c h ∙ ap (λ (p : Place). fixed J G p.position c) (sym (at_fresh G c h));
            as_kept = λ c h. subst (λ (p : Place). p.clipped ≡ kept J G p.position c) (sym (at_fresh G c h)) refl;
            inside = λ c h m. subst (AllIn G c) (sym (parts c h)) (laws.start_in G given_ok c h);
            marked = λ c h m. never false refl (ap (λ (p : Place). p.mark) (sym (at_fresh G c h)) ∙ m);
          }

      from_start : (xs : List Call) → Demand3 J G xs s₀
      unfolding s₀
      from_start xs =
          let r = list_good J laws G given_ok xs s₀ start_good in
          record {
            same_answers = r.same_answers;
            same_places = r.same_places;
            as_fixed =
                sym
                (joined_channels (area G) (count G) (λ c. fixed J G (place (plain_places J G xs (none_yet G)) c).position c) (final J G xs s₀).buffers
                r.last.sized
                (λ c h. r.last.as_fixed c h ∙ ap (λ (ps : List Place). fixed J G (place ps c).position c) r.same_places));
            as_kept = λ c h. subst (λ (ps : List Place). (place ps c).clipped ≡ kept J G (place ps c).position c) r.same_places (r.last.as_kept c h);
            in_interval = λ c h m. r.last.inside c h (ap (λ (ps : List Place). (place ps c).mark) r.same_places ∙ m);
          }

-- What holds between the calls holds after every list of them; for functions that make many calls.
pub between : (J : Jobs) → Laws J → (G : Given) (s : State) → (start J G s).answer ≡ done → (xs : List Call) → Inv J G (final J G xs (start J G s).after)
between J laws G s e xs =
    subst (λ (t : State). Inv J G (final J G xs t)) (sym (started J G s e)) (list_good J laws G (given_ok J G s e) xs (s₀ J G s e) (start_good J G s e laws)).last

-- Demand 3, of jobs that meet the laws.
pub demand3 : (J : Jobs) → Laws J → MeetsDemand3 J
demand3 J laws G s e xs = subst (Demand3 J G xs) (sym (started J G s e)) (from_start J G s e laws xs)
