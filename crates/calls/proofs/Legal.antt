-- An accepted call keeps the record legal.
use mathlib.Core.Path.{◌≡◌, refl, sym, ap, ◌∙◌, subst}
use mathlib.Core.Logic.{◌≢◌}
use Prim.Native.Nat.{ℕ, suc, ◌*◌, ◌%◌, ◌≤◌, ◌<◌}
use native.Mathlib.Omega.{arith}
use native.Mathlib.Decide.{ℕ_discrete}
use mathlib.Core.Bool.{Bool, true, false, not, ◌&&◌, ◌||◌}
use mathlib.Core.List.{List, map}
use lib.Dec.{T, leb, ltb, eqb, leb→le, le→leb, ltb→lt, lt→ltb, eqb→eq}
use lib.Ieee.Fits.{and_l, and_r, and_i, eq→eqb}
use lib.ListN.{length, set, length-set, length-map}
use lib.Seq.{get_or-set_same, get_or-set_other}
use borrow.Author.Tests.{eqb-false, leb-false, lt-leb}
use Rattle.calls.specs.Run.{Numbers, Sheet, Place, fresh, own, place, coefs, every, among, blends_in, kept_ok, place_ok, places_ok}
use Rattle.calls.specs.Jobs.{Job, push, fidelity, move, project, on, blend, turn, blend_turn, Seen}
use Rattle.calls.specs.Calls.{first, turn_tests, advance, onward}
use Rattle.calls.specs.Between.{PlaceIs, PlacesAre}
use Rattle.calls.proofs.Tests.{never, or_r, or_i, every_at, every_of, none_at, get_d_map_lt, silent, holds, passed_of}

-- ---- what an accepted call has passed

-- channel c is not marked and not at its end, and its next job has the place j in its step
pub record Ready (S : Sheet) (ps : List Place) (j c : ℕ) : Type 0 where
  pub unmarked : (place ps c).mark ≡ false
  pub unfinished : (place ps c).position ≡ 5 * S.N → ⊥
  pub next : (place ps c).position % 5 ≡ j

pub ready_of : (S : Sheet) (ps : List Place) (j : Job) (c : ℕ) → first (turn_tests S ps (on j c)) ≡ 0 → (c < S.count) × Ready S ps (turn j) c
ready_of S ps j c e =
    let h = passed_of (turn_tests S ps (on j c)) e in
    let p = (place ps c).position in (
      ltb→lt c S.count (holds 11 (ltb c S.count) h.0),
      record {
        unmarked = silent 9 (place ps c).mark h.1.0;
        unfinished = eqb-false p (5 * S.N) (silent 10 (eqb p (5 * S.N)) h.1.1.0);
        next = eqb→eq (p % 5) (turn j) (holds 8 (eqb (p % 5) (turn j)) h.1.1.1.0);
      },
    )

-- blend: every channel is
pub blend_ready_of : (S : Sheet) (ps : List Place) → first (turn_tests S ps blend) ≡ 0 → (c : ℕ) → c < S.count → Ready S ps blend_turn c
blend_ready_of S ps e c h =
    let t = passed_of (turn_tests S ps blend) e in
    let marked : ℕ → Bool = λ c. (place ps c).mark in
    let ended : ℕ → Bool = λ c. eqb (place ps c).position (5 * S.N) in
    let due : ℕ → Bool = λ c. eqb ((place ps c).position % 5) blend_turn in
    record {
      unmarked = none_at S.count marked (silent 9 (among S.count marked) t.0) c h;
      unfinished = eqb-false (place ps c).position (5 * S.N) (none_at S.count ended (silent 10 (among S.count ended) t.1.0) c h);
      next = eqb→eq ((place ps c).position % 5) blend_turn (every_at S.count due (holds 8 (every S.count due) t.1.1.0) c h);
    }

-- ---- legal places, as facts

-- a number that is not 0 comes after the first project
none-of : (p : Place) → T (leb 5 p.position || eqb p.clipped 0) → p.position < 5 → p.clipped ≡ 0
none-of p t h = eqb→eq p.clipped 0 (subst (λ (b : Bool). T (b || eqb p.clipped 0)) (lt-leb 5 p.position h) t)

none_so : (p : Place) (b : Bool) → leb 5 p.position ≡ b → (p.position < 5 → p.clipped ≡ 0) → T (b || eqb p.clipped 0)
none_so p true e h = tt
none_so p false e h = eq→eqb (h (leb-false 5 p.position e))

place_is : (S : Sheet) (o : Numbers) (p : Place) → T (place_ok S o p) → PlaceIs S o p
unfolding place_ok
place_is S o p t =
    let rule : Bool = ltb 0 p.position && eqb (p.position % 5) 0 in
    let within : Bool = leb p.position (5 * S.N) in
    let most : Bool = leb p.clipped (o.width * o.height) in
    let none : Bool = leb 5 p.position || eqb p.clipped 0 in
    let two = and_l (within && (not p.mark || rule)) (kept_ok o p) t in
    let kept = and_r (within && (not p.mark || rule)) (kept_ok o p) t in
    let both : p.mark ≡ true → T rule = or_r p.mark rule (and_r within (not p.mark || rule) two) in
    record {
      within = leb→le p.position (5 * S.N) (and_l within (not p.mark || rule) two);
      clipped_most = leb→le p.clipped (o.width * o.height) (and_l most none kept);
      clipped_none = none-of p (and_r most none kept);
      marked =
          λ e. (
            ltb→lt 0 p.position (and_l (ltb 0 p.position) (eqb (p.position % 5) 0) (both e)),
            eqb→eq (p.position % 5) 0 (and_r (ltb 0 p.position) (eqb (p.position % 5) 0) (both e)),
          );
    }

place-ok : (S : Sheet) (o : Numbers) (p : Place) → PlaceIs S o p → T (place_ok S o p)
unfolding place_ok
place-ok S o p h =
    let rule : Bool = ltb 0 p.position && eqb (p.position % 5) 0 in
    let within : Bool = leb p.position (5 * S.N) in
    let most : Bool = leb p.clipped (o.width * o.height) in
    let none : Bool = leb 5 p.position || eqb p.clipped 0 in
    and_i (within && (not p.mark || rule)) (kept_ok o p)
    (and_i within (not p.mark || rule) (le→leb p.position (5 * S.N) h.within)
    (or_i p.mark rule
    (λ e. and_i (ltb 0 p.position) (eqb (p.position % 5) 0) (lt→ltb 0 p.position (h.marked e).0) (eq→eqb (h.marked e).1))))
    (and_i most none (le→leb p.clipped (o.width * o.height) h.clipped_most) (none_so p (leb 5 p.position) refl h.clipped_none))

module _ (S : Sheet) (ps : List Place) where
  abbrev long_test : Bool
  long_test = eqb (length ps) S.count

  abbrev each_test : Bool
  each_test = every S.count (λ c. place_ok S (own S c) (place ps c))

  abbrev has : ℕ → Bool
  has c = eqb (blends_in (place ps c).position) (blends_in (place ps 0).position)

  pub places_are : T (places_ok S ps) → PlacesAre S ps
  unfolding places_ok
  places_are t =
      let first_two = and_l (long_test && each_test) (every S.count has) t in
      record {
        long = eqb→eq (length ps) S.count (and_l long_test each_test first_two);
        each = λ c h. place_is S (own S c) (place ps c) (every_at S.count (λ c. place_ok S (own S c) (place ps c)) (and_r long_test each_test first_two) c h);
        equal = λ c h. eqb→eq _ _ (every_at S.count has (and_r (long_test && each_test) (every S.count has) t) c h);
      }

  pub places-ok : PlacesAre S ps → T (places_ok S ps)
  unfolding places_ok
  places-ok h =
      and_i (long_test && each_test) (every S.count has)
      (and_i long_test each_test (eq→eqb h.long) (every_of S.count (λ c. place_ok S (own S c) (place ps c)) (λ c p. place-ok S (own S c) (place ps c) (h.each c p))))
      (every_of S.count has (λ c p. eq→eqb (h.equal c p)))

-- ---- an accepted job of one channel

same_blends : (j : Job) (p : ℕ) → p % 5 ≡ turn j → blends_in (suc p) ≡ blends_in p
same_blends push p e = omega arith
same_blends fidelity p e = omega arith
same_blends move p e = omega arith
same_blends project p e = omega arith

pub advance_position : (j : Job) (x : Seen) (p : Place) → (advance j x p).position ≡ suc p.position
advance_position push x p = refl
advance_position fidelity x p = refl
advance_position move x p = refl
advance_position project x p = refl

-- a place one job on, whose number is kept
pub onward_is : (S : Sheet) (o : Numbers) (p : Place) → PlaceIs S o p → p.mark ≡ false → (p.position ≡ 5 * S.N → ⊥) → PlaceIs S o (onward p)
onward_is S o p h m f =
    record {
      within = omega (arith, h.within);
      marked = λ e. never p.mark m e;
      clipped_most = h.clipped_most;
      clipped_none = λ l. h.clipped_none (omega arith);
    }

advance_is : (S : Sheet) (o : Numbers) (j : Job) (x : Seen) (p : Place) → PlaceIs S o p → p.mark ≡ false → (p.position ≡ 5 * S.N → ⊥) → p.position % 5 ≡ turn j
    → x.clipped ≤ o.width * o.height → PlaceIs S o (advance j x p)
advance_is S o push x p h m f t l = onward_is S o p h m f
advance_is S o fidelity x p h m f t l = onward_is S o p h m f
advance_is S o move x p h m f t l = onward_is S o p h m f
advance_is S o project x p h m f t l =
    record { within = omega (arith, h.within); marked = λ e. omega arith; clipped_most = l; clipped_none = λ b. absurd (omega arith) }

-- places after a store at channel c
module _ (ps : List Place) (c : ℕ) (p : Place) where
  pub place_here : c < length ps → place (set ps c p) c ≡ p
  place_here h = get_or-set_same ps c p fresh h

  pub place_elsewhere : (d : ℕ) → c ≢ d → place (set ps c p) d ≡ place ps d
  place_elsewhere d f = get_or-set_other ps c d p fresh (λ e. f (sym e))

module _ (S : Sheet) (ps : List Place) (j : Job) (c : ℕ) (x : Seen) (is : PlacesAre S ps) (below : c < S.count) (r : Ready S ps (turn j) c)
    (most : x.clipped ≤ coefs S c) where
  p : Place
  p = advance j x (place ps c)

  in_list : c < length ps
  in_list = omega (arith, is.long)

  -- no job but blend changes how many blends a channel has had
  kept : (d : ℕ) → blends_in (place (set ps c p) d).position ≡ blends_in (place ps d).position
  unfolding p
  kept d =
      elim (ℕ_discrete c d) [
        | yes e ↦
            subst (λ (i : ℕ). blends_in (place (set ps c p) i).position ≡ blends_in (place ps i).position) e
            (ap (λ (q : Place). blends_in q.position) (place_here ps c p in_list)
            ∙ ap blends_in (advance_position j x (place ps c))
            ∙ same_blends j (place ps c).position r.next)
        | no f ↦ ap (λ (q : Place). blends_in q.position) (place_elsewhere ps c p d f)
      ]

  each-is : (d : ℕ) → d < S.count → PlaceIs S (own S d) (place (set ps c p) d)
  unfolding p
  each-is d h =
      elim (ℕ_discrete c d) [
        | yes e ↦
            subst (λ (i : ℕ). PlaceIs S (own S i) (place (set ps c p) i)) e
            (subst (PlaceIs S (own S c)) (sym (place_here ps c p in_list))
            (advance_is S (own S c) j x (place ps c) (is.each c below) r.unmarked r.unfinished r.next most))
        | no f ↦ subst (PlaceIs S (own S d)) (sym (place_elsewhere ps c p d f)) (is.each d h)
      ]

  pub job_legal : PlacesAre S (set ps c (advance j x (place ps c)))
  unfolding p
  job_legal =
      record {
        long = length-set ps c p ∙ is.long;
        each = each-is;
        equal = λ d h. kept d ∙ is.equal d h ∙ sym (kept 0);
      }

-- ---- an accepted blend: all positions are equal, and stay so

module _ (S : Sheet) (ps : List Place) (is : PlacesAre S ps) (r : (c : ℕ) → c < S.count → Ready S ps blend_turn c) where
  pub blend_same : (c : ℕ) → c < S.count → (place ps c).position ≡ (place ps 0).position
  blend_same c h = omega (arith, is.equal c h, (r c h).next, (r 0 (omega arith)).next)

  pub place_blended : (c : ℕ) → c < S.count → place (map onward ps) c ≡ onward (place ps c)
  place_blended c h = get_d_map_lt onward ps fresh fresh c (omega (arith, is.long))

  blended_position : (c : ℕ) → c < S.count → (place (map onward ps) c).position ≡ suc (place ps 0).position
  blended_position c h = ap (λ (q : Place). q.position) (place_blended c h) ∙ ap suc (blend_same c h)

  pub blend_legal : PlacesAre S (map onward ps)
  blend_legal =
      record {
        long = length-map ps onward ∙ is.long;
        each = λ c h. subst (PlaceIs S (own S c)) (sym (place_blended c h)) (onward_is S (own S c) (place ps c) (is.each c h) (r c h).unmarked (r c h).unfinished);
        equal = λ c h. ap blends_in (blended_position c h ∙ sym (blended_position 0 (omega arith)));
      }
