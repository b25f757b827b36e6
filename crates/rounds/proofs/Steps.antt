-- A call in its turn, of the code: one more channel of a round has its job.
use mathlib.Core.Path.{◌≡◌, refl, sym, ap, ◌∙◌, subst}
use mathlib.Core.Logic.{◌≢◌, ◌⊎◌, inl, inr}
use mathlib.Core.Bool.{Bool, true, false, ◌&&◌, cond}
use mathlib.Core.List.{List, map}
use Prim.Native.Nat.{ℕ, zero, suc, ◌+◌, ◌*◌, ◌%◌, ◌≤◌, ◌<◌}
use native.Mathlib.Omega.{arith}
use native.Mathlib.Numerals.{add-one}
use native.Mathlib.Decide.{ℕ_discrete, dec_lt}
use lib.ListN.{length, set}
use lib.Dec.{eqb, ltb}
use lib.Ieee.{Float}
use borrow.Author.Tests.{lt-ltb, le-ltb}
use Rattle.start.specs.Coef.{Levels}
use Rattle.start.specs.Buffers.{Buffers}
use Rattle.calls.specs.Run.{Given, Sheet, Place, fresh, place, count, area, among}
use Rattle.calls.specs.Buffers.{Plane, Prior, Gradient, Across, Down, Saved, Sized}
use Rattle.calls.specs.Jobs.{Job, push, fidelity, move, project, Call, on, blend, turn, fixed, channel_blown, Seen, seen_at, totals_at}
use Rattle.calls.specs.Calls.{Called, refused, done, projected, blended, advance, onward, reply, blend_reply, call}
use Rattle.calls.specs.Between.{GivenOk, Inv}
use Rattle.calls.proofs.Legal.{advance_position, place_here, place_elsewhere}
use Rattle.calls.proofs.Tests.{among_false, among_true, get_d_map_lt}
use Rattle.calls.proofs.Step.{call_good}
use Rattle.calls.proofs.Turns.{on_answer, on_places, blend_answer, blend_places}
use Rattle.demand.specs.Solver.{jobs}
use Rattle.demand.proofs.Laws.{laws}
use Rattle.record.specs.declared.Run.{Run}
use Rattle.std.specs.Prelude.{Result, Ok, Err}
use Rattle.refusal.specs.declared.Refusal.{Refusal}
use Rattle.refusal.specs.Refusal.{number_of}
use Rattle.record.specs.declared.Accepted.{Accepted}
use Rattle.record.specs.declared.Accepted.TheVariants as accepted
use Rattle.record.specs.Model.{sheet_of, places_of, given_of, answer_of, placed}
use Rattle.record.proofs.Placed.{sheet_stays, places_placed}
use Rattle.run.specs.Public.{Outcome, result, gave, state_of, call_of}
use Rattle.numbered.specs.Numbered.{numbered}
use Rattle.rounds.specs.Whole.{blows_at, RestStays}
use Rattle.rounds.specs.declared.RoundEnd.{RoundEnd}
use Rattle.rounds.specs.declared.RoundEnd.TheVariants.{Done, Blended, Blown}
use Rattle.rounds.specs.Rounds.{AllAt, passed, Within, turns, round_blows, round_of, RoundAsks, RoundIs}

-- ---- what a call by its number leaves, where it is the model's call x

module _ (G : Given) (ok : GivenOk G) (r : Run) (B : Buffers) (same : sheet_of r ≡ G.sheet) (inv : Inv jobs G (state_of r B)) (x : Call)
    (a : Result Accepted Refusal) (r' : Run) (B' : Buffers) (gives : result r (call jobs G x (state_of r B)) ≡ gave a r' B') where
  o : Called
  o = call jobs G x (state_of r B)

  good : Inv jobs G (call jobs G x (state_of r B)).after
  good = (call_good jobs laws G ok (state_of r B) inv x).again

  pub same_answer : (call jobs G x (state_of r B)).answer ≡ answer_of a
  same_answer = ap (λ (y : Outcome). y.answer) gives

  pub same_places : places_of r' ≡ (call jobs G x (state_of r B)).after.places
  same_places =
      ap (λ (y : Outcome). places_of y.run) (sym gives)
      ∙ places_placed r (call jobs G x (state_of r B)).after.places (good.legal_places.long ∙ sym inv.legal_places.long)

  pub rest_stays : RestStays r r'
  rest_stays = ap (λ (y : Outcome). y.run) (sym gives) ∙ ap (placed r) (sym same_places)

  pub same-sheet : sheet_of r' ≡ G.sheet
  same-sheet = ap (λ (y : Outcome). sheet_of y.run) (sym gives) ∙ sheet_stays r (call jobs G x (state_of r B)).after.places ∙ same

  same_state : (call jobs G x (state_of r B)).after ≡ state_of r' B'
  same_state = λ i. record { places = sym same_places i; buffers = (gives i).buffers }

  pub inv_after : Inv jobs G (state_of r' B')
  inv_after = subst (Inv jobs G) same_state good

-- ---- a job of one channel: by its answer

module _ (j : Job) (p : ℕ) (t : p % 5 ≡ turn j) where
  not_refused : (x : Seen) (n : ℕ) → reply j x ≡ refused n → ⊥
  not_refused x n = go j
    where
      go : (j : Job) → reply j x ≡ refused n → ⊥
      go push e = let z : ◌≡◌ {A = ℕ} 0 1 = cc in omega arith
      go fidelity e = let z : ◌≡◌ {A = ℕ} 0 1 = cc in omega arith
      go move e = let z : ◌≡◌ {A = ℕ} 0 1 = cc in omega arith
      go project e = let z : ◌≡◌ {A = ℕ} 0 1 = cc in omega arith

  not_blended : (x : Seen) (tv tgv : Float) → reply j x ≡ blended tv tgv → ⊥
  not_blended x tv tgv = go j
    where
      go : (j : Job) → reply j x ≡ blended tv tgv → ⊥
      go push e = let z : ◌≡◌ {A = ℕ} 0 1 = cc in omega arith
      go fidelity e = let z : ◌≡◌ {A = ℕ} 0 1 = cc in omega arith
      go move e = let z : ◌≡◌ {A = ℕ} 0 1 = cc in omega arith
      go project e = let z : ◌≡◌ {A = ℕ} 0 1 = cc in omega arith

  not_blend : p % 5 ≢ 2
  not_blend e = go j (sym t ∙ e)
    where
      go : (j : Job) → turn j ≡ 2 → ⊥
      go push e = omega arith
      go fidelity e = omega arith
      go move e = omega arith
      go project e = omega arith

  done_on : (x : Seen) (q : Place) → q.mark ≡ false → reply j x ≡ done → ((advance j x q).mark ≡ false) × ((eqb (p % 5) 4 && x.blown) ≡ false)
  done_on x q m = rw t (go j)
    where
      go : (j : Job) → reply j x ≡ done → ((advance j x q).mark ≡ false) × ((eqb (turn j) 4 && x.blown) ≡ false)
      go push e = (m, refl)
      go fidelity e = (m, refl)
      go move e = (m, refl)
      go project e = let z : ◌≡◌ {A = ℕ} 0 1 = cc in absurd (omega arith)

  -- what project tells is in its answer
  told_blown : (x : Seen) (n : ℕ) (b : Bool) → reply j x ≡ projected n b → (turn j ≡ 4) × (x.blown ≡ b)
  told_blown x n b = go j
    where
      go : (j : Job) → reply j x ≡ projected n b → (turn j ≡ 4) × (x.blown ≡ b)
      go push e = let z : ◌≡◌ {A = ℕ} 0 1 = cc in absurd (omega arith)
      go fidelity e = let z : ◌≡◌ {A = ℕ} 0 1 = cc in absurd (omega arith)
      go move e = let z : ◌≡◌ {A = ℕ} 0 1 = cc in absurd (omega arith)
      go project e = (refl, cc)

  fine_on : (x : Seen) (q : Place) (n : ℕ) → q.mark ≡ false → reply j x ≡ projected n false
      → ((advance j x q).mark ≡ false) × ((eqb (p % 5) 4 && x.blown) ≡ false)
  fine_on x q n m e = (go j, rw ((told_blown x n false e).1) (off (eqb (p % 5) 4)))
    where
      off : (b : Bool) → (b && false) ≡ false
      off true = refl
      off false = refl

      go : (j : Job) → (advance j x q).mark ≡ false
      go push = m
      go fidelity = m
      go move = m
      go project = (told_blown x n false e).1

  blown_on : (x : Seen) (n : ℕ) → reply j x ≡ projected n true → (eqb (p % 5) 4 && x.blown) ≡ true
  blown_on x n e = let b = told_blown x n true e in rw (t, b.0, b.1) refl

  -- no blend: the channels below i are passed
  passed_is : (i c : ℕ) → passed (p % 5) i c ≡ ltb c i
  passed_is i c = ap (λ (k : ℕ). passed k i c) t ∙ go j
    where
      go : (j : Job) → passed (turn j) i c ≡ ltb c i
      go push = refl
      go fidelity = refl
      go move = refl
      go project = refl

  turns_are : (n : ℕ) → turns (p % 5) n ≡ n
  turns_are n = ap (λ (k : ℕ). turns k n) t ∙ go j
    where
      go : (j : Job) → turns (turn j) n ≡ n
      go push = refl
      go fidelity = refl
      go move = refl
      go project = refl

  number_is : (c : ℕ) → numbered (p % 5) c ≡ on j c
  number_is c = ap (λ (k : ℕ). numbered k c) t ∙ go j
    where
      go : (j : Job) → numbered (turn j) c ≡ on j c
      go push = refl
      go fidelity = refl
      go move = refl
      go project = refl

-- the jobs by their numbers
job_of : (k : ℕ) → k < 5 → ((j : Job) × (k ≡ turn j)) ⊎ (k ≡ 2)
job_of zero h = inl (push, refl)
job_of (suc zero) h = inl (fidelity, refl)
job_of (suc (suc zero)) h = inr refl
job_of (suc (suc (suc zero))) h = inl (move, refl)
job_of (suc (suc (suc (suc k)))) h = inl (project, omega arith)

-- what an answer means for its round
abbrev pub rounded : Result Accepted Refusal → Result RoundEnd Refusal
rounded (Err n) = Err n
rounded (Ok a) = Ok (round_of a)

-- what a call of a round tells
abbrev pub StepIs : Given → ℕ → ℕ → Result RoundEnd Refusal → Run → Buffers → Type 0
StepIs G p i (Err n) r B = ⊥
StepIs G p i (Ok Done) r B = Within G p (suc i) r B × (blows_at G i p ≡ false) × (p % 5 ≢ 2)
StepIs G p i (Ok (Blended tv tgv)) r B = Within G p (suc i) r B × (blows_at G i p ≡ false) × (p % 5 ≡ 2) × (totals_at jobs G p ≡ (tv, tgv))
StepIs G p i (Ok Blown) r B = (i < count G) × (blows_at G i p ≡ true) × Sized (count G * area G) B

module _ (G : Given) (ok : GivenOk G) (p : ℕ) (left : p < 5 * G.sheet.N) (i : ℕ) (r : Run) (B : Buffers) (w : Within G p i r B) (r' : Run) (B' : Buffers) where
  module _ (j : Job) (t : p % 5 ≡ turn j) (below : i < count G) where
    here : (place (places_of r) i).position ≡ p
    here = w.at_place i below ∙ ap (λ (b : Bool). cond b (suc p) p) (passed_is j p t i i ∙ le-ltb i i (omega arith))

    x : Seen
    x = seen_at jobs G p i

    q : Place
    q = advance j (seen_at jobs G p i) (place (places_of r) i)

    long : i < length (places_of r)
    long = omega (arith, w.inv.legal_places.long)

    module _ (a : Result Accepted Refusal) (gives : result r (call jobs G (on j i) (state_of r B)) ≡ gave a r' B') where
      replied : reply j x ≡ answer_of a
      unfolding x
      replied =
          sym (on_answer jobs laws G ok (state_of r B) w.inv p left j i below here (w.unmarked i below) t)
          ∙ same_answer G ok r B w.sheet w.inv (on j i) a r' B' gives

      places_now : places_of r' ≡ set (places_of r) i q
      unfolding q
      places_now =
          same_places G ok r B w.sheet w.inv (on j i) a r' B' gives
          ∙ on_places jobs laws G ok (state_of r B) w.inv p left j i below here (w.unmarked i below) t

      inv_now : Inv jobs G (state_of r' B')
      inv_now = inv_after G ok r B w.sheet w.inv (on j i) a r' B' gives

      now_at : (c : ℕ) → c < count G → (place (places_of r') c).position ≡ cond (passed (p % 5) (suc i) c) (suc p) p
      unfolding q
      now_at c h =
          ap (λ (ps : List Place). (place ps c).position) places_now
          ∙ elim (ℕ_discrete i c) [
            | yes e ↦
                subst (λ (d : ℕ). (place (set (places_of r) i q) d).position ≡ cond (ltb d (suc i)) (suc p) p) e
                (ap (λ (k : Place). k.position) (place_here (places_of r) i q long)
                ∙ advance_position j (seen_at jobs G p i) (place (places_of r) i)
                ∙ ap suc here
                ∙ ap (λ (b : Bool). cond b (suc p) p) (sym (lt-ltb i (suc i) (omega arith))))
            | no f ↦
                ap (λ (k : Place). k.position) (place_elsewhere (places_of r) i q c f)
                ∙ w.at_place c h
                ∙ ap (λ (b : Bool). cond b (suc p) p) (passed_is j p t i c ∙ one_more c f)
          ]
          ∙ ap (λ (b : Bool). cond b (suc p) p) (sym (passed_is j p t (suc i) c))
        where
          one_more : (c : ℕ) → i ≢ c → ltb c i ≡ ltb c (suc i)
          one_more c f =
              elim (dec_lt c i) [
                | yes l ↦ lt-ltb c i l ∙ sym (lt-ltb c (suc i) (omega arith))
                | no q ↦ le-ltb c i (omega arith) ∙ sym (le-ltb c (suc i) (omega arith))
              ]

      now_unmarked : q.mark ≡ false → (c : ℕ) → c < count G → (place (places_of r') c).mark ≡ false
      now_unmarked m c h =
          ap (λ (ps : List Place). (place ps c).mark) places_now
          ∙ elim (ℕ_discrete i c) [
            | yes e ↦
                subst (λ (d : ℕ). (place (set (places_of r) i q) d).mark ≡ false) e (ap (λ (k : Place). k.mark) (place_here (places_of r) i q long) ∙ m)
            | no f ↦ ap (λ (k : Place). k.mark) (place_elsewhere (places_of r) i q c f) ∙ w.unmarked c h
          ]

    one_on : (a : Result Accepted Refusal) → result r (call jobs G (on j i) (state_of r B)) ≡ gave a r' B' → q.mark ≡ false → blows_at G i p ≡ false
        → StepIs G p i (Ok Done) r' B'
    one_on a g m b = (
      record {
        sheet = same-sheet G ok r B w.sheet w.inv (on j i) a r' B' g;
        inv = inv_now a g;
        at_place = now_at a g;
        unmarked = now_unmarked a g m;
      },
      b,
      not_blend j p t,
    )

    on_step : (a : Result Accepted Refusal) → result r (call jobs G (on j i) (state_of r B)) ≡ gave a r' B' → StepIs G p i (rounded a) r' B'
    unfolding x q blows_at
    on_step (Err n) g = not_refused j p t x (number_of n) (replied (Err n) g)
    on_step (Ok accepted.Done) g =
        let d = done_on j p t x (place (places_of r) i) (w.unmarked i below) (replied (Ok accepted.Done) g) in
        one_on (Ok accepted.Done) g d.0 d.1
    on_step (Ok (accepted.Projected n false)) g =
        let d = fine_on j p t x (place (places_of r) i) n (w.unmarked i below) (replied (Ok (accepted.Projected n false)) g) in
        one_on (Ok (accepted.Projected n false)) g d.0 d.1
    on_step (Ok (accepted.Projected n true)) g =
        let b = blown_on j p t x n (replied (Ok (accepted.Projected n true)) g) in
        (below, b, (inv_now (Ok (accepted.Projected n true)) g).sized)
    on_step (Ok (accepted.Blended tv tgv)) g = absurd (not_blended j p t x tv tgv (replied (Ok (accepted.Blended tv tgv)) g))

  -- blend: one call for all channels
  module _ (t : p % 5 ≡ 2) (first : i ≡ 0) where
    all_here : (c : ℕ) → c < count G → (place (places_of r) c).position ≡ p
    all_here c h = w.at_place c h ∙ ap (λ (b : Bool). cond b (suc p) p) (ap (λ (k : ℕ). passed k i c) t ∙ ap (λ (k : ℕ). ltb 0 k) first)

    blend_step : (a : Result Accepted Refusal) → result r (call jobs G blend (state_of r B)) ≡ gave a r' B' → StepIs G p i (rounded a) r' B'
    unfolding blows_at
    blend_step a g =
        let says : blend_reply (totals_at jobs G p) ≡ answer_of a =
        sym (blend_answer jobs laws G ok (state_of r B) w.inv p left all_here w.unmarked t) ∙ same_answer G ok r B w.sheet w.inv blend a r' B' g in
        let places : places_of r' ≡ map onward (places_of r) =
        same_places G ok r B w.sheet w.inv blend a r' B' g ∙ blend_places jobs laws G ok (state_of r B) w.inv p left all_here w.unmarked t in
        let now : Inv jobs G (state_of r' B') = inv_after G ok r B w.sheet w.inv blend a r' B' g in
        go a says places now (same-sheet G ok r B w.sheet w.inv blend a r' B' g)
      where
        both : (tv tgv : Float) → blend_reply (totals_at jobs G p) ≡ blended tv tgv → totals_at jobs G p ≡ (tv, tgv)
        both tv tgv e =
            let first : (totals_at jobs G p).0 ≡ tv = cc in
            let second : (totals_at jobs G p).1 ≡ tgv = cc in
            λ i. (first i, second i)

        go : (a : Result Accepted Refusal) → blend_reply (totals_at jobs G p) ≡ answer_of a → places_of r' ≡ map onward (places_of r) → Inv jobs G (state_of r' B') → sheet_of r' ≡ G.sheet
            → StepIs G p i (rounded a) r' B'
        go (Err n) e o v s = let z : ◌≡◌ {A = ℕ} 0 1 = cc in omega arith
        go (Ok (accepted.Projected n b)) e o v s = let z : ◌≡◌ {A = ℕ} 0 1 = cc in absurd (omega arith)
        go (Ok accepted.Done) e o v s = let z : ◌≡◌ {A = ℕ} 0 1 = cc in absurd (omega arith)
        go (Ok (accepted.Blended tv tgv)) e o v s =
            let each : (c : ℕ) → c < count G → place (places_of r') c ≡ onward (place (places_of r) c) =
            λ c h. ap (λ (ps : List Place). place ps c) o ∙ get_d_map_lt onward (places_of r) fresh fresh c (omega (arith, w.inv.legal_places.long)) in (
              record {
                sheet = s;
                inv = v;
                at_place =
                    λ c h.
                    ap (λ (k : Place). k.position) (each c h)
                    ∙ ap suc (all_here c h)
                    ∙ ap (λ (b : Bool). cond b (suc p) p) (sym (ap (λ (k : ℕ). passed k (suc i) c) t ∙ lt-ltb 0 (suc i) (omega arith)));
                unmarked = λ c h. ap (λ (k : Place). k.mark) (each c h) ∙ w.unmarked c h;
              },
              ap (λ (k : ℕ). eqb k 4 && channel_blown G i (fixed jobs G (suc p) i)) t,
              t,
              both tv tgv e,
            )

  -- the round's next call, by the job's number
  pub next_call : i < turns (p % 5) (count G) → (a : Result Accepted Refusal) → call_of r (numbered (p % 5) i) G.levels G.tables B ≡ gave a r' B' → StepIs G p i (rounded a) r' B'
  next_call more a g = go (job_of (p % 5) (omega arith))
    where
      given_is : given_of r G.levels G.tables ≡ G
      given_is = ap (λ (S : Sheet). record { sheet = S; levels = G.levels; tables = G.tables }) w.sheet

      plainly : result r (call jobs G (numbered (p % 5) i) (state_of r B)) ≡ gave a r' B'
      plainly =
          ap (λ (H : Given). result r (call jobs H (numbered (p % 5) i) (state_of r B))) (sym given_is) ∙ g

      go : ((j : Job) × (p % 5 ≡ turn j)) ⊎ (p % 5 ≡ 2) → StepIs G p i (rounded a) r' B'
      go (inl q) =
          on_step q.0 q.1 (omega (arith, turns_are q.0 p q.1 (count G))) a
          (ap (λ (x : Call). result r (call jobs G x (state_of r B))) (sym (number_is q.0 p q.1 i)) ∙ plainly)
      go (inr t) =
          let only : turns (p % 5) (count G) ≡ 1 = ap (λ (k : ℕ). turns k (count G)) t in
          blend_step t (omega arith) a
          (ap (λ (k : ℕ). result r (call jobs G (numbered k i) (state_of r B))) (sym t) ∙ plainly)

  pub next_rest : (a : Result Accepted Refusal) → call_of r (numbered (p % 5) i) G.levels G.tables B ≡ gave a r' B' → RestStays r r'
  next_rest a g =
      let given_is : given_of r G.levels G.tables ≡ G = ap (λ (S : Sheet). record { sheet = S; levels = G.levels; tables = G.tables }) w.sheet in
      rest_stays G ok r B w.sheet w.inv (numbered (p % 5) i) a r' B'
      (ap (λ (H : Given). result r (call jobs H (numbered (p % 5) i) (state_of r B))) (sym given_is) ∙ g)

-- ---- a round's ends

module _ (G : Given) (p : ℕ) (r : Run) (B : Buffers) where
  pub none_passed : AllAt G p r B → Within G p 0 r B
  none_passed h =
      record { sheet = h.sheet; inv = h.inv; at_place = λ c l. h.at_place c l ∙ ap (λ (b : Bool). cond b (suc p) p) (sym (none c)); unmarked = h.unmarked }
    where
      none : (c : ℕ) → passed (p % 5) 0 c ≡ false
      none c = same (eqb (p % 5) 2) (le-ltb c 0 (omega arith))
        where
          same : (b : Bool) → ltb c 0 ≡ false → cond b (ltb 0 0) (ltb c 0) ≡ false
          same true e = refl
          same false e = e

  pub all_passed : Within G p (turns (p % 5) (count G)) r B → AllAt G (suc p) r B
  all_passed h =
      record { sheet = h.sheet; inv = h.inv; at_place = λ c l. h.at_place c l ∙ ap (λ (b : Bool). cond b (suc p) p) (all c l); unmarked = h.unmarked }
    where
      all : (c : ℕ) → c < count G → passed (p % 5) (turns (p % 5) (count G)) c ≡ true
      all c l = same (eqb (p % 5) 2) (lt-ltb c (count G) l)
        where
          same : (b : Bool) → ltb c (count G) ≡ true → cond b (ltb 0 (cond b 1 (count G))) (ltb c (cond b 1 (count G))) ≡ true
          same true e = refl
          same false e = e

pub none_blown : (G : Given) (p : ℕ) → among (turns (p % 5) (count G)) (λ c. blows_at G c p) ≡ false → round_blows G p ≡ false
unfolding blows_at
none_blown G p e = go (job_of (p % 5) (omega arith))
  where
    go : ((j : Job) × (p % 5 ≡ turn j)) ⊎ (p % 5 ≡ 2) → round_blows G p ≡ false
    go (inl q) = ap (λ (n : ℕ). among n (λ c. blows_at G c p)) (sym (turns_are q.0 p q.1 (count G))) ∙ e
    go (inr t) = among_false (count G) (λ c. blows_at G c p) (λ c h. ap (λ (k : ℕ). eqb k 4 && channel_blown G c (fixed jobs G (suc p) c)) t)

-- ---- results that differ

pub ok_same : {X : Type 0} {a b : X} → ◌≡◌ {A = Result X Refusal} (Ok a) (Ok b) → a ≡ b
ok_same {X} {a} {b} z = cc

pub err_ok : {X : Type 0} {e : Refusal} {a : X} → ◌≡◌ {A = Result X Refusal} (Err e) (Ok a) → ⊥
err_ok {X} {e} {a} z = let q : ◌≡◌ {A = ℕ} 0 1 = cc in omega arith

-- ---- a round's loop: after i of n calls

-- each of the six has its length still
pub record Kept (B₀ B : Buffers) : Type 0 where
  pub plane_long : length B.plane ≡ length B₀.plane
  pub prior_long : length B.prior ≡ length B₀.prior
  pub gradient_long : length B.gradient ≡ length B₀.gradient
  pub across_long : length B.across ≡ length B₀.across
  pub down_long : length B.down ≡ length B₀.down
  pub saved_long : length B.saved ≡ length B₀.saved

pub kept_of : (m : ℕ) (B₀ B : Buffers) → Sized m B₀ → Sized m B → Kept B₀ B
kept_of m B₀ B h l =
    record {
      plane_long = l Plane ∙ sym (h Plane);
      prior_long = l Prior ∙ sym (h Prior);
      gradient_long = l Gradient ∙ sym (h Gradient);
      across_long = l Across ∙ sym (h Across);
      down_long = l Down ∙ sym (h Down);
      saved_long = l Saved ∙ sym (h Saved);
    }

pub record Passing (G : Given) (p n i : ℕ) (r : Run) (B₀ B : Buffers) : Type 0 where
  pub most : i ≤ n
  pub within : Within G p i r B
  pub none : among i (λ c. blows_at G c p) ≡ false
  pub other_job : 0 < i → p % 5 ≢ 2
  pub kept : Kept B₀ B

module _ (r₀ : Run) (p : ℕ) (levels : Levels) (tables : List ℕ) (B₀ : Buffers) (asks : RoundAsks r₀ p levels tables B₀) where
  abbrev G : Given
  G = given_of r₀ levels tables

  pub begins : (n : ℕ) → Passing G p n 0 r₀ B₀ B₀
  begins n =
      record {
        most = omega arith;
        within = none_passed G p r₀ B₀ asks.all;
        none = refl;
        other_job = λ l. absurd (omega arith);
        kept = kept_of (count G * area G) B₀ B₀ asks.all.inv.sized asks.all.inv.sized;
      }

  module _ (n i : ℕ) (is : n ≡ turns (p % 5) (count G)) (r : Run) (B : Buffers) (h : Passing G p n i r B₀ B) where
    -- a call that was answered `done`, and one that was not
    pub goes-on : i < n → (a : Result Accepted Refusal) (r' : Run) (B' : Buffers) → call_of r (numbered (p % 5) i) levels tables B ≡ gave a r' B' → rounded a ≡ (Ok Done)
        → Passing G p n (i + 1) r' B₀ B'
    goes-on more a r' B' g one = go (rounded a) one (next_call G asks.ok p asks.left i r B h.within r' B' (omega arith) a g)
      where
        go : (a : Result RoundEnd Refusal) → a ≡ (Ok Done) → StepIs G p i a r' B' → Passing G p n (i + 1) r' B₀ B'
        go (Err m) one s = absurd s
        go (Ok Blown) one s = let z : ◌≡◌ {A = ℕ} 0 1 = cc in absurd (omega arith)
        go (Ok (Blended tv tgv)) one s = let z : ◌≡◌ {A = ℕ} 0 1 = cc in absurd (omega arith)
        go (Ok Done) one s =
            rw (add-one)
            record {
              most = omega (arith, h.most);
              within = s.0;
              none = rw h.none s.1;
              other_job = λ l. s.2;
              kept = kept_of (count G * area G) B₀ B' asks.all.inv.sized s.0.inv.sized;
            }

    pub rest_next : (a : Result Accepted Refusal) (r' : Run) (B' : Buffers) → call_of r (numbered (p % 5) i) levels tables B ≡ gave a r' B' → RestStays r r'
    rest_next a r' B' g = next_rest G asks.ok p asks.left i r B h.within r' B' a g

    pub stops : i < n → (a : Result Accepted Refusal) (r' : Run) (B' : Buffers) → call_of r (numbered (p % 5) i) levels tables B ≡ gave a r' B' → (rounded a ≡ (Ok Done) → ⊥)
        → RoundIs G p (rounded a) r' B'
    stops more a r' B' g one = go (rounded a) one (next_call G asks.ok p asks.left i r B h.within r' B' (omega arith) a g)
      where
        go : (a : Result RoundEnd Refusal) → (a ≡ (Ok Done) → ⊥) → StepIs G p i a r' B' → RoundIs G p a r' B'
        go (Err m) one s = s
        go (Ok Done) one s = absurd (one refl)
        go (Ok Blown) one s = (among_true (count G) (λ c. blows_at G c p) i s.0 s.1, s.2)
        go (Ok (Blended tv tgv)) one s =
            let only : turns (p % 5) (count G) ≡ 1 = ap (λ (k : ℕ). turns k (count G)) s.2 in
            let last : suc i ≡ turns (p % 5) (count G) = omega arith in
            let none : among (suc i) (λ c. blows_at G c p) ≡ false = rw h.none s.1 in (
              all_passed G p r' B' (subst (λ (k : ℕ). Within G p k r' B') last s.0),
              none_blown G p (subst (λ (k : ℕ). among k (λ c. blows_at G c p) ≡ false) last none),
              s.2,
              s.3,
            )

    pub ends : n ≤ i → RoundIs G p (Ok Done) r B
    ends l =
        let last : i ≡ turns (p % 5) (count G) = omega (arith, h.most) in
        let other : p % 5 ≢ 2 =
        λ e.
        let only : turns (p % 5) (count G) ≡ 1 = ap (λ (k : ℕ). turns k (count G)) e in
        h.other_job (omega arith) e in
        (all_passed G p r B (rw last at h.within), none_blown G p (rw last at h.none), other)
