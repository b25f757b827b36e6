-- A run of all its rounds: from what start leaves to the planes after the last job, with the totals of its blends.
use mathlib.Core.Path.{◌≡◌, refl, sym, ap, ◌∙◌, subst}
use mathlib.Core.Logic.{◌≢◌, inl, inr}
use mathlib.Core.Bool.{Bool, true, false}
use mathlib.Core.List.{List, [], ◌∷◌, ◌++◌, map}
use Prim.Native.Nat.{ℕ, zero, suc, ◌+◌, ◌*◌, ◌/◌, ◌%◌, ◌≤◌, ◌<◌}
use native.Mathlib.Omega.{arith}
use native.Mathlib.Numerals.{add-one}
use lib.ListN.{length, drop, get_or, length-append, length-drop}
use lib.Dec.{eqb}
use lib.Ieee.{Float}
use lib.Ieee.Fits.{and_r}
use Rattle.start.specs.Coef.{Levels}
use Rattle.fold.specs.Join.{join_upto}
use Rattle.fold.specs.Part.{splice}
use Rattle.fold.proofs.Joins.{join_length, fill_none, fill_more, fill_all}
use Rattle.start.specs.Buffers.{Buffers}
use Rattle.calls.specs.Run.{Given, Sheet, Place, fresh, place, count, area, coefs, held, among, blends_in, sheet_ok, places_ok}
use Rattle.calls.specs.Buffers.{Plane, Prior, Gradient, Across, Down, Saved, Sized}
use Rattle.calls.specs.Jobs.{project, turn, fixed, clips, kept, totals_at}
use Rattle.calls.specs.Calls as Calls
use Rattle.calls.specs.Calls.{State, all, all_six, lengths, start_refusal, settle, begin, start, final}
use Rattle.calls.specs.Between.{GivenOk, Inv}
use Rattle.calls.proofs.Legal.{places_are}
use Rattle.calls.proofs.Facts.{sheet_is}
use Rattle.calls.proofs.Parts.{joined_channels}
use Rattle.calls.proofs.Tests.{never, among_true, sized_of, Lent, lent_of}
use Rattle.calls.proofs.Step.{either_most}
use Rattle.calls.proofs.Runs.{between, given_ok}
use Rattle.demand.specs.Solver.{jobs}
use Rattle.demand.proofs.Laws.{laws}
use Rattle.record.specs.declared.Run.{Run}
use Rattle.std.specs.Prelude.{Result, Ok, Err}
use Rattle.refusal.specs.declared.Refusal.{Refusal}
use Rattle.refusal.specs.Refusal.{number_of}
use Rattle.record.specs.declared.Job.TheVariants as job
use Rattle.record.specs.declared.Accepted.{Accepted}
use Rattle.record.specs.declared.Accepted.TheVariants as answer
use Rattle.record.specs.Model.{sheet_of, places_of, clipped_of, given_of, answer_of, turn_of, placed}
use Rattle.record.proofs.Placed.{sheet_stays, places_placed, placed_same}
use Rattle.run.specs.Public.{Outcome, state_of, StartIs}
use Rattle.rounds.specs.declared.RoundEnd.{RoundEnd}
use Rattle.rounds.specs.declared.RoundEnd.TheVariants.{Done, Blended, Blown}
use Rattle.rounds.specs.declared.Ran.{Ran}
use Rattle.rounds.specs.declared.Ran.TheVariants as ran
use Rattle.rounds.specs.Whole as ending
use Rattle.rounds.specs.Whole.{Ending, ending_of, job_count, run_blows, pair_at, run_totals, Whole, last, run_of, Loan, loan, SameLengths, ClippedAre, Ended, Ends, RunIs, RestStays, AtItsEnd}
use Rattle.rounds.specs.Rounds.{next_of, AllAt, round_blows, RoundAsks, RoundIs, with_pair, RunAsks}
use Rattle.rounds.proofs.Rest.{rest_of}
use Rattle.rounds.proofs.Steps.{Kept, kept_of}

-- ---- lengths

pub same_lengths : (B₀ B : Buffers) → Kept B₀ B → SameLengths B₀ B
same_lengths B₀ B k Plane = k.plane_long
same_lengths B₀ B k Prior = k.prior_long
same_lengths B₀ B k Gradient = k.gradient_long
same_lengths B₀ B k Across = k.across_long
same_lengths B₀ B k Down = k.down_long
same_lengths B₀ B k Saved = k.saved_long

-- ---- the rounds

-- the jobs of a step, by their turns
pub jobs_turn : (i : ℕ) → i < 5 → turn_of (get_or (job.Push ∷ job.Data ∷ job.Blend ∷ job.Move ∷ job.Project ∷ []) i job.Push) ≡ i
jobs_turn zero h = refl
jobs_turn (suc zero) h = refl
jobs_turn (suc (suc zero)) h = refl
jobs_turn (suc (suc (suc zero))) h = refl
jobs_turn (suc (suc (suc (suc zero)))) h = refl
jobs_turn (suc (suc (suc (suc (suc i))))) h = absurd (omega arith)

-- after all jobs the buffers are those fixed for them, joined
buffers_are : (G : Given) (r : Run) (B : Buffers) → AllAt G (job_count G) r B → B ≡ (run_of G).buffers
unfolding run_of last
buffers_are G r B h =
    sym
    (joined_channels (area G) (count G) (fixed jobs G (job_count G)) B h.inv.sized
    (λ c l. h.inv.as_fixed c l ∙ ap (λ (k : ℕ). fixed jobs G k c) (h.at_place c l)))

-- and each channel keeps the number for them
clipped_are : (G : Given) (r : Run) (B : Buffers) → AllAt G (job_count G) r B → ClippedAre (run_of G) (clipped_of r)
unfolding run_of
clipped_are G r B h = λ c l. h.inv.as_kept c l ∙ ap (λ (k : ℕ). kept jobs G k c) (h.at_place c l)

-- and stands at its end
pub at_end_of : (G : Given) (r : Run) (B : Buffers) → AllAt G (job_count G) r B → AtItsEnd G r
at_end_of G r B h =
    λ c l i. record {
      position = h.at_place c l i;
      mark = h.unmarked c l i;
      clipped = (h.inv.as_kept c l ∙ ap (λ (k : ℕ). kept jobs G k c) (h.at_place c l)) i;
    }

-- no more than the channel has coefficients
pub kept_most : (G : Given) (p c : ℕ) → kept jobs G p c ≤ coefs G.sheet c
unfolding kept
kept_most G zero c = omega arith
kept_most G (suc p) c =
    let most = coefs G.sheet c in
    let before = kept_most G p c in
    either_most (eqb (p % 5) (turn project)) (clips jobs G c (p / 5) (kept jobs G p c) (fixed jobs G p c)) (kept jobs G p c) most
    (either_most (held G.sheet c (p / 5)) (kept jobs G p c) (jobs.clip G c (fixed jobs G p c)) most before (laws.clip_most G c (fixed jobs G p c))) before

-- the numbers may come from elsewhere
pub renumber : (n : ℕ) (w : Whole) (L : Loan) (a : Ending) (k k' : ℕ → ℕ) (L' : Loan) → ((c : ℕ) → c < w.channels → k' c ≡ k c)
    → Ends n w L a k L' → Ends n w L a k' L'
renumber (suc n) w L a k k' L' same e = e
renumber zero w L a k k' L' same e = go w.blown e
  where
    go : (b : Bool) → Ended b w L a k L' → Ended b w L a k' L'
    go true e = e
    go false e = (e.0, e.1, e.2, λ c h. same c h ∙ e.3 c h)

-- ---- the totals

pair_long : (G : Given) (k : ℕ) → length (pair_at G k) ≡ 2
unfolding pair_at
pair_long G k = refl

-- after p jobs the pairs of the blends among them stand at the front
abbrev Summed : Given → ℕ → List Float → List Float → Type 0
Summed G p T₀ T = T ≡ join_upto (pair_at G) (blends_in p) ++ drop (blends_in p * 2) T₀

summed_long : (G : Given) (p N : ℕ) (T₀ T : List Float) → p ≤ 5 * N → length T₀ ≡ N * 2 → Summed G p T₀ T → length T ≡ length T₀
summed_long G p N T₀ T most long e =
    ap length e
    ∙ length-append (join_upto (pair_at G) (blends_in p)) (drop (blends_in p * 2) T₀)
    ∙ omega (arith, join_length (pair_at G) 2 (pair_long G) (blends_in p), length-drop (blends_in p * 2) T₀)

-- a round that is no blend, and one that is
summed_same : (G : Given) (p : ℕ) (T₀ T : List Float) → p % 5 ≢ 2 → Summed G p T₀ T → Summed G (suc p) T₀ T
summed_same G p T₀ T other e =
    let same : blends_in p ≡ blends_in (suc p) = omega (arith, other) in
    subst (λ (b : ℕ). T ≡ join_upto (pair_at G) b ++ drop (b * 2) T₀) same e

summed_more : (G : Given) (p : ℕ) (T₀ T T' : List Float) (tv tgv : Float) → p % 5 ≡ 2 → totals_at jobs G p ≡ (tv, tgv) → Summed G p T₀ T
    → T' ≡ splice T (p / 5 * 2) (p / 5 * 2 + 2) (tv ∷ tgv ∷ []) → Summed G (suc p) T₀ T'
unfolding pair_at
summed_more G p T₀ T T' tv tgv here is e put =
    let place : 5 * (p / 5) + 2 ≡ p = omega arith in
    let now : blends_in p ≡ p / 5 = omega arith in
    let next : p / 5 + 1 ≡ blends_in (suc p) = omega arith in
    let pair : (tv ∷ tgv ∷ []) ≡ pair_at G (p / 5) =
    ap (λ (t : Float × Float). t.0 ∷ t.1 ∷ []) (sym is ∙ ap (totals_at jobs G) (sym place)) in
    subst (λ (b : ℕ). T' ≡ join_upto (pair_at G) b ++ drop (b * 2) T₀) next
    (fill_more (pair_at G) 2 (pair_long G) (p / 5) T₀ (subst (λ (b : ℕ). T ≡ join_upto (pair_at G) b ++ drop (b * 2) T₀) now e)
    (put ∙ ap (splice T (p / 5 * 2) (p / 5 * 2 + 2)) pair))

pub totals_length : (G : Given) → length (run_totals G) ≡ G.sheet.N * 2
unfolding run_totals
totals_length G = join_length (pair_at G) 2 (pair_long G) G.sheet.N

summed_all : (G : Given) (T₀ T : List Float) → length T₀ ≡ G.sheet.N * 2 → Summed G (job_count G) T₀ T → T ≡ run_totals G
unfolding run_totals
summed_all G T₀ T long e = fill_all (pair_at G) 2 (pair_long G) (blends_in (job_count G)) G.sheet.N T₀ e (omega arith) long

-- a round with which a run goes on
abbrev pub goes : Result RoundEnd Refusal → Bool
goes (Err n) = false
goes (Ok Done) = true
goes (Ok Blown) = false
goes (Ok (Blended tv tgv)) = true

pub going : (a : RoundEnd) → (a ≡ Blown → ⊥) → goes (Ok a) ≡ true
going Done n = refl
going Blown n = absurd (n refl)
going (Blended tv tgv) n = refl

-- the loop: p of n rounds
pub record Rounding (G : Given) (n p : ℕ) (r : Run) (B₀ : Buffers) (T₀ : List Float) (B : Buffers) (T : List Float) : Type 0 where
  pub most : p ≤ n
  pub all : AllAt G p r B
  pub none : among p (round_blows G) ≡ false
  pub kept : Kept B₀ B
  pub summed : Summed G p T₀ T
  pub totals_long : length T ≡ length T₀

module _ (r₀ : Run) (levels : Levels) (tables : List ℕ) (B₀ : Buffers) (T₀ : List Float) (asks : RunAsks r₀ levels tables B₀ T₀) where
  abbrev G : Given
  G = given_of r₀ levels tables

  some : 0 < count G
  some = elim (sheet_is (sheet_of r₀) asks.ok.sheet-ok).channels [ inl e ↦ omega arith | inr e ↦ omega arith ]

  pub begins : (n : ℕ) → Rounding G n 0 r₀ B₀ T₀ B₀ T₀
  begins n =
      record {
        most = omega arith;
        all = asks.all;
        none = refl;
        kept = kept_of (count G * area G) B₀ B₀ asks.all.inv.sized asks.all.inv.sized;
        summed = fill_none (pair_at G) 2 (pair_long G) T₀;
        totals_long = refl;
      }

  -- job i of step k
  module _ (k i : ℕ) (r : Run) (B : Buffers) (T : List Float) (h : Rounding G (5 * r₀.n) (5 * k + i) r B₀ T₀ B T) where
    abbrev p : ℕ
    p = 5 * k + i

    next_is : next_of r ≡ p
    next_is = h.all.at_place 0 some

    given_is : given_of r levels tables ≡ G
    given_is = ap (λ (S : Sheet). record { sheet = S; levels = levels; tables = tables }) h.all.sheet

    module _ (left : k < r₀.n) (five : i < 5) where
      before : p < 5 * r₀.n
      before = omega arith

      pub round_asks : RoundAsks r (next_of r) levels tables B
      round_asks =
          subst (λ (q : ℕ). RoundAsks r q levels tables B) (sym next_is)
          record {
            ok = subst GivenOk (sym given_is) asks.ok;
            left = subst (λ (H : Given). p < job_count H) (sym given_is) before;
            all = subst (λ (H : Given). AllAt H p r B) (sym given_is) h.all;
          }

      pub turn_is : next_of r % 5 ≡ i
      turn_is = ap (λ (q : ℕ). q % 5) next_is ∙ omega arith

      module _ (a : Result RoundEnd Refusal) (r' : Run) (B' : Buffers) (T' : List Float) (said : RoundIs (given_of r levels tables) (next_of r) a r' B') (put : T' ≡ with_pair a k T) where
        said_of : RoundIs G p a r' B'
        said_of = subst (λ (H : Given). RoundIs H p a r' B') given_is (subst (λ (q : ℕ). RoundIs (given_of r levels tables) q a r' B') next_is said)

        put_of : T' ≡ with_pair a (p / 5) T
        put_of = put ∙ ap (λ (s : ℕ). with_pair a s T) (omega arith)

        pub goes-on : goes a ≡ true → Rounding G (5 * r₀.n) (5 * k + (i + 1)) r' B₀ T₀ B' T'
        goes-on on =
            let next : p + 1 ≡ 5 * k + (i + 1) = omega arith in
            rw (← next) (go a on said_of put_of)
          where
            one_more : AllAt G (suc p) r' B' → round_blows G p ≡ false → Summed G (suc p) T₀ T' → Rounding G (5 * r₀.n) (p + 1) r' B₀ T₀ B' T'
            one_more standing fine summed =
                rw (add-one)
                record {
                  most = omega arith;
                  all = standing;
                  none = rw h.none fine;
                  kept = kept_of (count G * area G) B₀ B' asks.all.inv.sized standing.inv.sized;
                  summed = summed;
                  totals_long = summed_long G (suc p) r₀.n T₀ T' (omega arith) asks.long summed;
                }

            go : (a : Result RoundEnd Refusal) → goes a ≡ true → RoundIs G p a r' B' → T' ≡ with_pair a (p / 5) T → Rounding G (5 * r₀.n) (p + 1) r' B₀ T₀ B' T'
            go (Err m) on s put = absurd s
            go (Ok Blown) on s put = never false refl on
            go (Ok Done) on s put = one_more s.0 s.1 (summed_same G p T₀ T' s.2 (put ∙ h.summed))
            go (Ok (Blended tv tgv)) on s put = one_more s.0 s.1 (summed_more G p T₀ T T' tv tgv s.2 s.3 h.summed put)

        pub stops : goes a ≡ false → Ends 0 (run_of G) (loan B₀ T₀) ending.blown (clipped_of r') (loan B' T')
        unfolding run_of run_blows
        stops off = go a off said_of put_of
          where
            go : (a : Result RoundEnd Refusal) → goes a ≡ false → RoundIs G p a r' B' → T' ≡ with_pair a (p / 5) T → Ends 0 (run_of G) (loan B₀ T₀) ending.blown (clipped_of r') (loan B' T')
            go (Err m) off s put = absurd s
            go (Ok Done) off s put = never true off refl
            go (Ok (Blended tv tgv)) off s put = never true off refl
            go (Ok Blown) off s put =
                rw (among_true (job_count G) (round_blows G) p before s.0)
                (refl, (same_lengths B₀ B' (kept_of (count G * area G) B₀ B' asks.all.inv.sized s.1), ap length put ∙ h.totals_long))

  -- after the last step
  module _ (k : ℕ) (r : Run) (B : Buffers) (T : List Float) (h : Rounding G (5 * r₀.n) (5 * k) r B₀ T₀ B T) where
    pub ends : r₀.n ≤ k → Ends 0 (run_of G) (loan B₀ T₀) ending.done (clipped_of r) (loan B T)
    unfolding run_of run_blows
    ends l =
        let last : 5 * k ≡ job_count G = omega (arith, h.most) in
        let none : among (job_count G) (round_blows G) ≡ false = rw last at h.none in
        let six_are : B ≡ (run_of G).buffers = buffers_are G r B (rw last at h.all) in
        let totals-are : T ≡ (run_of G).totals = summed_all G T₀ T asks.long (subst (λ (k : ℕ). Summed G k T₀ T) last h.summed) in
        rw none (refl, λ i. loan (six_are i) (totals-are i), (same_lengths B₀ B h.kept, h.totals_long), clipped_are G r B (rw last at h.all))

    pub ends_there : r₀.n ≤ k → AtItsEnd G r
    ends_there l =
        let last : 5 * k ≡ job_count G = omega (arith, h.most) in
        at_end_of G r B (rw last at h.all)

-- ---- start

fresh_at : (ps : List Place) (c : ℕ) → place (map (λ p. fresh) ps) c ≡ fresh
fresh_at [] c = refl
fresh_at (p ∷ ps) zero = refl
fresh_at (p ∷ ps) (suc c) = fresh_at ps c

-- an answer by its case
pub is_done : (a : Result Ran Refusal) → a ≡ (Ok ran.Done) → ending_of a ≡ ending.done
is_done (Err m) one = let z : ◌≡◌ {A = ℕ} 0 1 = cc in absurd (omega arith)
is_done (Ok ran.Done) one = refl
is_done (Ok ran.Blown) one = let z : ◌≡◌ {A = ℕ} 0 1 = cc in absurd (omega arith)

pub not_done : (a : Result Ran Refusal) → (a ≡ (Ok ran.Done) → ⊥) → ending.done ≡ ending_of a → ⊥
not_done (Err m) one e = let z : ◌≡◌ {A = ℕ} 0 1 = cc in omega arith
not_done (Ok ran.Done) one e = one refl
not_done (Ok ran.Blown) one e = let z : ◌≡◌ {A = ℕ} 0 1 = cc in omega arith

-- and a start's
start_is_done : (a : Result Accepted Refusal) → a ≡ (Ok answer.Done) → answer_of a ≡ Calls.done
start_is_done (Err m) one = let z : ◌≡◌ {A = ℕ} 0 1 = cc in absurd (omega arith)
start_is_done (Ok answer.Done) one = refl
start_is_done (Ok (answer.Projected n b)) one = let z : ◌≡◌ {A = ℕ} 0 1 = cc in absurd (omega arith)
start_is_done (Ok (answer.Blended tv tgv)) one = let z : ◌≡◌ {A = ℕ} 0 1 = cc in absurd (omega arith)

module _ (r : Run) (levels : Levels) (tables : List ℕ) (B : Buffers) (T : List Float) (a : Result Accepted Refusal) (r' : Run) (B' : Buffers) (h : StartIs r levels tables B a r' B') where
  abbrev H : Given
  H = given_of r levels tables

  abbrev s : State
  s = state_of r B

  -- refused: as it was
  pub refuses : (e : Refusal) → a ≡ Err e → RunIs r levels tables (loan B T) (Err e) r' (loan B' T)
  unfolding start
  refuses e is =
      go (start_refusal H (places_of r) (lengths all_six B)) (ap (λ (y : Outcome). y.answer) h ∙ ap answer_of is) (ap (λ (y : Outcome). y.buffers) h)
    where
      go : (n : ℕ) → (settle n s (begin jobs H s)).answer ≡ Calls.refused (number_of e) → (settle n s (begin jobs H s)).after.buffers ≡ B'
          → Ends n (run_of H) (loan B T) (ending.refused (number_of e)) (clipped_of r') (loan B' T)
      go zero q f = let z : ◌≡◌ {A = ℕ} 0 1 = cc in absurd (omega arith)
      go (suc n) q f = (let z : number_of e ≡ suc n = cc in ap ending.refused z, λ i. loan (sym f i) T)

  -- and the record too
  pub leaves : (e : Refusal) → a ≡ Err e → r' ≡ r
  unfolding start
  leaves e is =
      go (start_refusal H (places_of r) (lengths all_six B)) (ap (λ (y : Outcome). y.answer) h ∙ ap answer_of is) (ap (λ (y : Outcome). y.run) h)
    where
      go : (n : ℕ) → (settle n s (begin jobs H s)).answer ≡ Calls.refused (number_of e) → placed r (settle n s (begin jobs H s)).after.places ≡ r' → r' ≡ r
      go zero q f = let z : ◌≡◌ {A = ℕ} 0 1 = cc in absurd (omega arith)
      go (suc n) q f = sym f ∙ placed_same r

  -- start answers nothing but done
  pub started : (f : Accepted) → a ≡ Ok f → a ≡ Ok answer.Done
  unfolding start
  started f e = e ∙ go f (start_refusal H (places_of r) (lengths all_six B)) (ap (λ (y : Outcome). y.answer) h ∙ ap answer_of e)
    where
      go : (f : Accepted) (n : ℕ) → (settle n s (begin jobs H s)).answer ≡ answer_of (Ok f) → ◌≡◌ {A = Result Accepted Refusal} (Ok f) (Ok answer.Done)
      go answer.Done n q = refl
      go (answer.Projected m b) zero q = let z : ◌≡◌ {A = ℕ} 0 1 = cc in absurd (omega arith)
      go (answer.Projected m b) (suc n) q = let z : ◌≡◌ {A = ℕ} 0 1 = cc in absurd (omega arith)
      go (answer.Blended tv tgv) zero q = let z : ◌≡◌ {A = ℕ} 0 1 = cc in absurd (omega arith)
      go (answer.Blended tv tgv) (suc n) q = let z : ◌≡◌ {A = ℕ} 0 1 = cc in absurd (omega arith)

  module _ (one : a ≡ (Ok answer.Done)) where
    said_done : (start jobs H s).answer ≡ Calls.done
    said_done = ap (λ (y : Outcome). y.answer) h ∙ start_is_done a one

    pub accepted : start_refusal H (places_of r) (lengths all_six B) ≡ 0
    unfolding start
    accepted = go (start_refusal H (places_of r) (lengths all_six B)) said_done
      where
        go : (n : ℕ) → (settle n s (begin jobs H s)).answer ≡ Calls.done → n ≡ 0
        go zero e = refl
        go (suc n) e = let z : ◌≡◌ {A = ℕ} 0 1 = cc in absurd (omega arith)

    inv : Inv jobs H (start jobs H s).after
    unfolding final
    inv = between jobs laws H s said_done []

    places_fresh : (start jobs H s).after.places ≡ map (λ p. fresh) (places_of r)
    unfolding start
    places_fresh = ap (λ (n : ℕ). (settle n s (begin jobs H s)).after.places) accepted

    passed : Lent H (places_of r) (lengths all_six B) true
    unfolding start_refusal
    passed = lent_of H (places_of r) (lengths all_six B) true accepted

    sized : Sized (count H * area H) B
    sized = sized_of (count H * area H) B passed.long

    places_long : length (places_of r) ≡ r.count
    places_long = (places_are (sheet_of r) (places_of r) (and_r (sheet_ok (sheet_of r)) (places_ok (sheet_of r) (places_of r)) passed.is-legal)).long

    places_now : places_of r' ≡ (start jobs H s).after.places
    places_now = ap (λ (y : Outcome). places_of y.run) (sym h) ∙ places_placed r (start jobs H s).after.places (inv.legal_places.long ∙ sym places_long)

    sheet_now : sheet_of r' ≡ sheet_of r
    sheet_now = ap (λ (y : Outcome). sheet_of y.run) (sym h) ∙ sheet_stays r (start jobs H s).after.places

    given_now : given_of r' levels tables ≡ H
    given_now = ap (λ (S : Sheet). record { sheet = S; levels = levels; tables = tables }) sheet_now

    state_now : (start jobs H s).after ≡ state_of r' B'
    state_now = λ i. record { places = sym places_now i; buffers = (h i).buffers }

    at_start : AllAt H 0 r' B'
    at_start =
        record {
          sheet = sheet_now;
          inv = subst (Inv jobs H) state_now inv;
          at_place = λ c l. ap (λ (ps : List Place). (place ps c).position) (places_now ∙ places_fresh) ∙ ap (λ (p : Place). p.position) (fresh_at (places_of r) c);
          unmarked = λ c l. ap (λ (ps : List Place). (place ps c).mark) (places_now ∙ places_fresh) ∙ ap (λ (p : Place). p.mark) (fresh_at (places_of r) c);
        }

    -- accepted: the run stands at its start
    pub run_asks : length T ≡ r.n * 2 → RunAsks r' levels tables B' T
    run_asks long =
        record {
          ok = subst GivenOk (sym given_now) (given_ok jobs H s said_done);
          all = subst (λ (K : Given). AllAt K 0 r' B') (sym given_now) at_start;
          long = long ∙ ap (λ (S : Sheet). S.N * 2) (sym sheet_now);
        }

    from_start : (b : Bool) (w : Whole) (d : Ending) (k : ℕ → ℕ) (D : Loan) → Ended b w (loan B' T) d k D → Ended b w (loan B T) d k D
    from_start b w d k D = go b
      where
        longs : SameLengths B B'
        longs = same_lengths B B' (kept_of (count H * area H) B B' sized at_start.inv.sized)

        go : (b : Bool) → Ended b w (loan B' T) d k D → Ended b w (loan B T) d k D
        go true e = (e.0, (λ n. e.1.0 n ∙ longs n, e.1.1))
        go false e = (e.0, e.1, (λ n. e.2.0 n ∙ longs n, e.2.1), e.3)

    pub rest_started : RestStays r r'
    rest_started =
        rest_of r r' (start jobs H s).after.places (ap (λ (y : Outcome). y.run) (sym h)) (inv.legal_places.long ∙ sym places_long)

    pub end_is : (u : Run) → AtItsEnd (given_of r' levels tables) u → AtItsEnd H u
    end_is u e = subst (λ (K : Given). AtItsEnd K u) given_now e

    -- and ends as its rounds do
    pub runs_on : (d : Result Ran Refusal) (u : Run) (D : Loan) → Ends 0 (run_of (given_of r' levels tables)) (loan B' T) (ending_of d) (clipped_of u) D
        → RunIs r levels tables (loan B T) d u D
    runs_on d u D e =
        rw accepted
        (from_start (run_of H).blown (run_of H) (ending_of d) (clipped_of u) D
        (subst (λ (K : Given). Ends 0 (run_of K) (loan B' T) (ending_of d) (clipped_of u) D) given_now e))
