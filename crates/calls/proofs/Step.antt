-- What holds between the calls (`Inv`), and that a call keeps it and answers as the plain run does.
use mathlib.Core.Path.{◌≡◌, refl, sym, ap, ◌∙◌, subst}
use mathlib.Core.Logic.{◌≢◌}
use Prim.Native.Nat.{ℕ, zero, suc, ◌*◌, ◌/◌, ◌%◌, ◌≤◌, ◌<◌}
use native.Mathlib.Nat.{not-suc-le-zero, le_of_suc-le-suc}
use native.Mathlib.Omega.{arith}
use native.Mathlib.Decide.{ℕ_discrete}
use mathlib.Core.Bool.{Bool, true, false, cond}
use mathlib.Core.List.{List, [], ◌∷◌, map}
use lib.Dec.{eqb}
use lib.Ieee.Fits.{and_i}
use lib.ListN.{length, get_or, set, take}
use lib.Seq.{get_or-take, length-take-le}
use lib.Ieee.{Float, nan}
use Rattle.calls.specs.Run.{Place, Given, place, count, area, coefs, held, sheet_ok, places_ok}
use Rattle.start.specs.Buffers.{Buffers}
use Rattle.calls.specs.Buffers.{Name, Saved, channel, put_channel, joined, Sized}
use Rattle.calls.specs.Jobs.{Job, push, fidelity, move, project, Call, on, blend, turn, blend_turn, Jobs, next, fixed, working, clips, kept, channel_blown, Seen, seen, seen_at}
use Rattle.projection.specs.Blown.{bad, any_bad, is_blown}
use Rattle.calls.specs.Calls.{State, Called, first, turn_tests, lent, lent_levels, lengths, lend_tests, refusal, advance, onward, reply, worked, seen_in, blend_reply, accept, settle, call, Plain, plain_accept, plain_settle, plain}
use Rattle.calls.specs.Between.{GivenOk, AllIn, Inv}
use Rattle.calls.specs.Laws.{Laws}
use Rattle.calls.proofs.Parts.{channel_sized, put_sized, put_same, put_other, joined_channels}
use Rattle.calls.proofs.Tests.{never, or_false_l, or_false_r, Passed, skip, sized_names, of_lent}
use Rattle.calls.proofs.Facts.{coefs_fit}
use Rattle.calls.proofs.Legal.{Ready, ready_of, blend_ready_of, places-ok, advance_position, place_here, place_elsewhere, job_legal, blend_same, place_blended, blend_legal}

module _ (J : Jobs) (G : Given) where
  -- what a call must give: the plain run's answer and places, and the same between the calls
  pub record Good (o : Called) (p : Plain) : Type 0 where
    pub same_answer : o.answer ≡ p.answer
    pub same_places : o.after.places ≡ p.places
    pub again : Inv J G o.after

-- ---- 13, 8, 4 and 5 are never given

module _ (J : Jobs) (G : Given) (ok : GivenOk G) where
  pub lend_passed : (s : State) → Inv J G s → (names : List Name) (levels : Bool) → Passed (lend_tests G s.places (lengths names s.buffers) levels)
  lend_passed s inv names levels =
      let S = G.sheet in
      of_lent G s.places (lengths names s.buffers) levels
      record {
        is-legal = and_i (sheet_ok S) (places_ok S s.places) ok.sheet-ok (places-ok S s.places inv.legal_places);
        long = sized_names (count G * area G) s.buffers inv.sized names;
        levels-long = λ e. ok.levels-long;
        tables_long = λ e. ok.tables_long;
        tables_ok = λ e. ok.tables_ok;
        levels_ok = λ e. ok.levels_ok;
      }

-- ---- an accepted job of one channel

next_is : (J : Jobs) (G : Given) (j : Job) (step : ℕ) (before : ℕ → Buffers) (c : ℕ) → next J G (turn j) step before c ≡ J.work j G c step (before c)
next_is J G push step before c = refl
next_is J G fidelity step before c = refl
next_is J G move step before c = refl
next_is J G project step before c = refl

none_bad : (xs : List Float) → any_bad xs ≡ false → (i : ℕ) → i < length xs → bad (get_or xs i nan) ≡ false
none_bad [] e i h = absurd (not-suc-le-zero h)
none_bad (x ∷ xs) e zero h = or_false_l (bad x) (any_bad xs) e
none_bad (x ∷ xs) e (suc i) h = none_bad xs (or_false_r (bad x) (any_bad xs) e) i (le_of_suc-le-suc h)

-- the kept number after one more job: a project's, or the one before
kept_new : (J : Jobs) (G : Given) (p c : ℕ) → p % 5 ≡ turn project → kept J G (suc p) c ≡ clips J G c (p / 5) (kept J G p c) (fixed J G p c)
unfolding kept
kept_new J G p c e = rw e

kept_old : (J : Jobs) (G : Given) (p c r : ℕ) → p % 5 ≡ r → eqb r (turn project) ≡ false → kept J G (suc p) c ≡ kept J G p c
unfolding kept
kept_old J G p c r e f = rw (e, f)

-- M-108: what holds of both holds of a channel that may be held
either_way : (P : Buffers → Type 0) (h : Bool) (x y : Buffers) → P x → P y → P (cond h x y)
either_way P true x y p q = p
either_way P false x y p q = q

pub either_most : (h : Bool) (m n k : ℕ) → m ≤ k → n ≤ k → cond h m n ≤ k
either_most true m n k p q = p
either_most false m n k p q = q

-- a channel that is not blown has finite coefficients
coefs_fine : (G : Given) (c : ℕ) (b : Buffers) → coefs G.sheet c ≤ length b.saved → channel_blown G c b ≡ false → (k : ℕ) → k < coefs G.sheet c → bad (get_or b.saved k nan) ≡ false
unfolding is_blown
coefs_fine G c b fits e k h =
    let l : List Float = take (coefs G.sheet c) b.saved in
    ap bad (sym (get_or-take (coefs G.sheet c) b.saved k nan h))
    ∙ none_bad l (or_false_r (any_bad b.plane) (any_bad l) e) k (omega (arith, length-take-le (coefs G.sheet c) b.saved fits))

module _ (J : Jobs) (laws : Laws J) (G : Given) (ok : GivenOk G) (s : State) (inv : Inv J G s) where
  module _ (j : Job) (c : ℕ) (below : c < count G) (t : Ready G.sheet s.places (turn j) c) where
    -- the job's result is what is fixed for the next count
    worked_is : worked J G j c s ≡ fixed J G (suc (place s.places c).position) c
    unfolding fixed
    worked_is =
        let q : ℕ = (place s.places c).position in
        ap (working J j G c (q / 5)) (inv.as_fixed c below)
        ∙ ap (λ (b : Buffers). cond (held G.sheet c (q / 5)) (fixed J G q c) b)
        (sym (next_is J G j (q / 5) (fixed J G q) c) ∙ ap (λ (r : ℕ). next J G r (q / 5) (fixed J G q) c) (sym t.next))

    -- and what it tells is told of the buffers fixed for both counts
    told_is : seen_in J G j c s ≡ seen_at J G (place s.places c).position c
    told_is = λ i. seen J G c ((place s.places c).position / 5) (inv.as_kept c below i) (inv.as_fixed c below i) (worked_is i)

    x : Buffers
    x = worked J G j c s

    o : Place
    o = advance j (seen_in J G j c s) (place s.places c)

    -- the lent part, and the part handed back, have the channel's length
    part_sized : Sized (area G) (channel (area G) c s.buffers)
    part_sized = channel_sized (area G) c (count G) s.buffers inv.sized below

    x_sized : Sized (area G) x
    unfolding x
    x_sized =
        let b : Buffers = channel (area G) c s.buffers in
        let step : ℕ = (place s.places c).position / 5 in
        either_way (Sized (area G)) (held G.sheet c step) b (J.work j G c step b) part_sized (laws.work_sized j G ok c step below b part_sized)

    -- its coefficients are in their intervals, unless it is now marked
    x_in : o.mark ≡ false → AllIn G c x
    unfolding o x
    x_in = go j
      where
        b : Buffers
        b = channel (area G) c s.buffers

        step : ℕ
        step = (place s.places c).position / 5

        was : AllIn G c b
        was = inv.inside c below t.unmarked

        long : coefs G.sheet c ≤ length (J.work project G c step b).saved
        long = omega (arith, coefs_fit G ok c below, laws.work_sized project G ok c step below b part_sized Saved)

        -- a held channel's are as they were
        or_held : (i : Job) → AllIn G c (J.work i G c step b) → AllIn G c (working J i G c step b)
        or_held i = either_way (AllIn G c) (held G.sheet c step) b (J.work i G c step b) was

        projected : (h : Bool) → channel_blown G c (cond h b (J.work project G c step b)) ≡ false → AllIn G c (cond h b (J.work project G c step b))
        projected true e = was
        projected false e = λ k h. laws.project_in G ok c step below b part_sized was k h (coefs_fine G c (J.work project G c step b) long e k h)

        go : (i : Job) → (advance i (seen J G c step (place s.places c).clipped b (working J i G c step b)) (place s.places c)).mark ≡ false
            → AllIn G c (working J i G c step b)
        go push e = or_held push (laws.push_in G ok c step below b part_sized was)
        go fidelity e = or_held fidelity (laws.fidelity_in G ok c step below b part_sized was)
        go move e = or_held move (laws.move_in G ok c step below b part_sized was)
        go project e = projected (held G.sheet c step) e

    -- a mark is new, and tells that the job's result is blown
    x_marked : o.mark ≡ true → channel_blown G c x ≡ true
    unfolding o x
    x_marked = go j
      where
        go : (i : Job) → (advance i (seen_in J G j c s) (place s.places c)).mark ≡ true → channel_blown G c (worked J G j c s) ≡ true
        go push e = never (place s.places c).mark t.unmarked e
        go fidelity e = never (place s.places c).mark t.unmarked e
        go move e = never (place s.places c).mark t.unmarked e
        go project e = e

    -- the number that is now kept is that of the next count
    o_kept : o.clipped ≡ kept J G (suc (place s.places c).position) c
    unfolding o
    o_kept = go j t.next
      where
        p : ℕ
        p = (place s.places c).position

        go : (i : Job) → p % 5 ≡ turn i → (advance i (seen_in J G j c s) (place s.places c)).clipped ≡ kept J G (suc p) c
        go push e = inv.as_kept c below ∙ sym (kept_old J G p c 0 e refl)
        go fidelity e = inv.as_kept c below ∙ sym (kept_old J G p c 1 e refl)
        go move e = inv.as_kept c below ∙ sym (kept_old J G p c 3 e refl)
        go project e = (λ i. clips J G c (p / 5) (inv.as_kept c below i) (inv.as_fixed c below i)) ∙ sym (kept_new J G p c e)

    -- the lent buffers and the places afterwards
    B' : Buffers
    B' = put_channel (area G) c s.buffers x

    ps' : List Place
    ps' = set s.places c o

    here : channel (area G) c B' ≡ x
    unfolding B'
    here = put_same (area G) c (count G) s.buffers inv.sized below x x_sized

    elsewhere : (d : ℕ) → d < count G → c ≢ d → channel (area G) d B' ≡ channel (area G) d s.buffers
    unfolding B'
    elsewhere d q f = put_other (area G) c (count G) s.buffers inv.sized below x x_sized d q f

    at_here : place ps' c ≡ o
    unfolding ps'
    at_here = place_here s.places c o (omega (arith, inv.legal_places.long))

    at_elsewhere : (d : ℕ) → c ≢ d → place ps' d ≡ place s.places d
    unfolding ps'
    at_elsewhere d f = place_elsewhere s.places c o d f

    fixed_here : channel (area G) c B' ≡ fixed J G (place ps' c).position c
    unfolding x o
    fixed_here =
        here
        ∙ worked_is
        ∙ ap (λ (r : ℕ). fixed J G r c)
        (sym (ap (λ (q : Place). q.position) at_here ∙ advance_position j (seen_in J G j c s) (place s.places c)))

    after_fixed : (d : ℕ) → d < count G → channel (area G) d B' ≡ fixed J G (place ps' d).position d
    after_fixed d q =
        elim (ℕ_discrete c d) [
          | yes e ↦ subst (λ (i : ℕ). channel (area G) i B' ≡ fixed J G (place ps' i).position i) e fixed_here
          | no f ↦ elsewhere d q f ∙ inv.as_fixed d q ∙ ap (λ (r : Place). fixed J G r.position d) (sym (at_elsewhere d f))
        ]

    after_kept : (d : ℕ) → d < count G → (place ps' d).clipped ≡ kept J G (place ps' d).position d
    unfolding o
    after_kept d q =
        elim (ℕ_discrete c d) [
          | yes e ↦
              subst (λ (i : ℕ). (place ps' i).clipped ≡ kept J G (place ps' i).position i) e
              (ap (λ (r : Place). r.clipped) at_here
              ∙ o_kept
              ∙ ap (λ (r : ℕ). kept J G r c)
              (sym (ap (λ (q : Place). q.position) at_here ∙ advance_position j (seen_in J G j c s) (place s.places c))))
          | no f ↦ subst (λ (r : Place). r.clipped ≡ kept J G r.position d) (sym (at_elsewhere d f)) (inv.as_kept d q)
        ]

    after_inside : (d : ℕ) → d < count G → (place ps' d).mark ≡ false → AllIn G d (channel (area G) d B')
    after_inside d q =
        elim (ℕ_discrete c d) [
          | yes e ↦
              subst (λ (i : ℕ). (place ps' i).mark ≡ false → AllIn G i (channel (area G) i B')) e
              (λ m. subst (AllIn G c) (sym here) (x_in (ap (λ (r : Place). r.mark) (sym at_here) ∙ m)))
          | no f ↦ λ m. subst (AllIn G d) (sym (elsewhere d q f)) (inv.inside d q (ap (λ (r : Place). r.mark) (sym (at_elsewhere d f)) ∙ m))
        ]

    marked_here : (place ps' c).mark ≡ true → channel_blown G c (fixed J G (place ps' c).position c) ≡ true
    marked_here m = ap (channel_blown G c) (sym fixed_here ∙ here) ∙ x_marked (ap (λ (r : Place). r.mark) (sym at_here) ∙ m)

    after_marked : (d : ℕ) → d < count G → (place ps' d).mark ≡ true → channel_blown G d (fixed J G (place ps' d).position d) ≡ true
    after_marked d q =
        elim (ℕ_discrete c d) [
          | yes e ↦ subst (λ (i : ℕ). (place ps' i).mark ≡ true → channel_blown G i (fixed J G (place ps' i).position i) ≡ true) e marked_here
          | no f ↦
              λ m.
              ap (λ (r : Place). channel_blown G d (fixed J G r.position d)) (at_elsewhere d f)
              ∙ inv.marked d q (ap (λ (r : Place). r.mark) (sym (at_elsewhere d f)) ∙ m)
        ]

    -- no more are clipped than the channel has
    clipped_most : (seen_in J G j c s).clipped ≤ coefs G.sheet c
    clipped_most =
        let b : Buffers = channel (area G) c s.buffers in
        either_most (held G.sheet c ((place s.places c).position / 5)) (place s.places c).clipped (J.clip G c b) (coefs G.sheet c)
        (inv.legal_places.each c below).clipped_most (laws.clip_most G c b)

    pub job_good : Good J G (accept J G (on j c) s) (plain_accept J G (on j c) s.places)
    unfolding x o B' ps'
    job_good =
        record {
          same_answer = ap (reply j) told_is;
          same_places = ap (λ (x : Seen). set s.places c (advance j x (place s.places c))) told_is;
          again =
              record {
                legal_places = job_legal G.sheet s.places j c (seen_in J G j c s) inv.legal_places below t clipped_most;
                sized = put_sized (area G) c (count G) s.buffers inv.sized below x x_sized;
                as_fixed = after_fixed;
                as_kept = after_kept;
                inside = after_inside;
                marked = after_marked;
              };
        }

  -- ---- an accepted blend

  module _ (t : (c : ℕ) → c < count G → Ready G.sheet s.places blend_turn c) where
    -- the position of all channels, and the lent buffers afterwards
    q : ℕ
    q = (place s.places 0).position

    after_blend : Buffers
    after_blend = J.blending G ((place s.places 0).position / 5) s.buffers

    at_q : (c : ℕ) → c < count G → (place s.places c).position ≡ q
    unfolding q
    at_q c h = blend_same G.sheet s.places inv.legal_places t c h

    -- before the blend the lent buffers hold every channel's at that position
    all_fixed : joined (count G) (fixed J G q) ≡ s.buffers
    all_fixed =
        joined_channels (area G) (count G) (fixed J G q) s.buffers inv.sized
        (λ c h. inv.as_fixed c h ∙ ap (λ (r : ℕ). fixed J G r c) (at_q c h))

    blend_fixed : (c : ℕ) → c < count G → channel (area G) c after_blend ≡ fixed J G (suc q) c
    unfolding after_blend fixed q
    blend_fixed c h = go (held G.sheet c (q / 5)) refl
      where
        go : (d : Bool) → held G.sheet c (q / 5) ≡ d
            → channel (area G) c (J.blending G (q / 5) s.buffers) ≡ cond d (fixed J G q c) (next J G (q % 5) (q / 5) (fixed J G q) c)
        go true e = laws.blend_held G ok (q / 5) c h e s.buffers inv.sized ∙ inv.as_fixed c h ∙ ap (λ (r : ℕ). fixed J G r c) (at_q c h)
        go false e =
            let turn_is : (place s.places 0).position % 5 ≡ 2 = (t 0 (omega arith)).next in
            sym
            (ap (λ (r : ℕ). next J G r (q / 5) (fixed J G q) c) turn_is
            ∙ ap (λ (B : Buffers). channel (area G) c (J.blending G (q / 5) B)) all_fixed)

    at_blended : (c : ℕ) → c < count G → place (map onward s.places) c ≡ onward (place s.places c)
    at_blended c h = place_blended G.sheet s.places inv.legal_places t c h

    pub blend_good : Good J G (accept J G blend s) (plain_accept J G blend s.places)
    unfolding after_blend q
    blend_good =
        record {
          same_answer = ap (λ (B : Buffers). blend_reply (J.totals G (q / 5) B)) (sym all_fixed);
          same_places = refl;
          again =
              record {
                legal_places = blend_legal G.sheet s.places inv.legal_places t;
                sized = laws.blend_sized G ok ((place s.places 0).position / 5) s.buffers inv.sized;
                as_fixed =
                    λ c h. blend_fixed c h ∙ ap (λ (r : ℕ). fixed J G r c) (sym (ap (λ (p : Place). p.position) (at_blended c h) ∙ ap suc (at_q c h)));
                as_kept =
                    λ c h.
                    ap (λ (p : Place). p.clipped) (at_blended c h)
                    ∙ inv.as_kept c h
                    ∙ sym (kept_old J G (place s.places c).position c 2 (t c h).next refl)
                    ∙ ap (λ (p : Place). kept J G p.position c) (sym (at_blended c h));
                inside =
                    λ c h m.
                    laws.blend_in G ok ((place s.places 0).position / 5) c h s.buffers inv.sized
                    (inv.inside c h (ap (λ (p : Place). p.mark) (sym (at_blended c h)) ∙ m));
                marked = λ c h m. never (place s.places c).mark (t c h).unmarked (ap (λ (p : Place). p.mark) (sym (at_blended c h)) ∙ m);
              };
        }

  -- ---- any call

  settled : (x : Call) (r : ℕ) → first (turn_tests G.sheet s.places x) ≡ r
      → Good J G (settle r s (accept J G x s)) (plain_settle r s.places (plain_accept J G x s.places))
  settled x (suc r) e = record { same_answer = refl; same_places = refl; again = inv }
  settled (on j c) zero e = let h = ready_of G.sheet s.places j c e in job_good j c h.0 h.1
  settled blend zero e = blend_good (blend_ready_of G.sheet s.places e)

  pub call_good : (x : Call) → Good J G (call J G x s) (plain J G x s.places)
  unfolding call plain refusal
  call_good x =
      let turns = turn_tests G.sheet s.places x in
      let ls = lengths (lent x) s.buffers in
      subst (λ (r : ℕ). Good J G (settle r s (accept J G x s)) (plain_settle (first turns) s.places (plain_accept J G x s.places)))
      (sym (skip (lend_tests G s.places ls (lent_levels x)) turns (lend_passed J G ok s inv (lent x) (lent_levels x))))
      (settled x (first turns) refl)
