-- M-112 for the whole run: the runs of a mild sheet are mild, and `solve` never answers that one is blown, in either mode.
use mathlib.Core.Path.{◌≡◌, refl, sym, ap, subst}
use mathlib.Core.Bool.{Bool, true, false, ◌&&◌, cond}
use mathlib.Core.List.{List}
use Prim.Native.Nat.{ℕ, zero, suc, ◌%◌, ◌≤◌, ◌<◌}
use native.Mathlib.Omega.{arith}
use lib.Dec.{T, eqb, leb, le→leb}
use lib.ListN.{length, get_or}
use lib.Ieee.Fits.{and_i}
use Rattle.start.specs.Buffers.{Buffers}
use Rattle.start.specs.Coef.{Levels}
use Rattle.contents.specs.declared.Sheet.{Sheet}
use Rattle.calls.specs.Run.{Numbers, Given, own, count, every, among}
use Rattle.calls.specs.Run as Model
use Rattle.calls.specs.Buffers.{channel}
use Rattle.calls.specs.Jobs.{fixed, channel_blown}
use Rattle.calls.specs.Calls.{all_six, begin, lengths, settle, start, start_refusal}
use Rattle.calls.specs.Between.{GivenOk}
use Rattle.calls.proofs.Tests.{and-false, among_false, every_of, never}
use Rattle.calls.proofs.Runs.{given_ok}
use Rattle.demand.specs.Solver.{jobs}
use Rattle.record.specs.declared.Run.{Run}
use Rattle.record.specs.Model.{own_of, no_channel, sheet_of, places_of, given_of}
use Rattle.record.proofs.Channels.{at_own}
use Rattle.run.specs.Public.{state_of}
use Rattle.rounds.specs.Whole.{job_count, blows_at, run_blows, run_of, Loan, ending_of, Ended, Ends}
use Rattle.solve.specs.Solve.{joint, alone, joint_given, alone_given, separately, whole_of, blows, solve_refusal, number_in}
use Rattle.solve.proofs.Alone.{area_of, Taken, starts, joint_legal, sized, few_channels, accepted}
use Rattle.mild.specs.Mild.{mild, most_steps, light}
use Rattle.mild.proofs.Channel.{few}
use Rattle.mild.proofs.Never.{not_blown, never_blows}
use Rattle.unblown.specs.Sheet.{Light, MildSheet, MildSheetNeverBlows}
use Rattle.unblown.specs.Calls.{SolveNeverBlown}

-- ---- the runs of a mild sheet are mild

-- the three parts of the test
mild_of : (S : Model.Sheet) → S.N ≤ most_steps → light S.smoothing ≡ true → ((c : ℕ) → c < S.count → light (own S c).data_weight ≡ true) → mild S ≡ true
unfolding mild
mild_of S n w d =
    let a = leb S.N most_steps in
    let b = light S.smoothing in
    let e = every S.count (λ c. light (own S c).data_weight) in
    is_true (a && b && e)
    (and_i (a && b) e (and_i a b (le→leb S.N most_steps n) (subst T (sym w) tt))
    (every_of S.count (λ c. light (own S c).data_weight) (λ c l. subst T (sym (d c l)) tt)))
  where
    is_true : (b : Bool) → T b → b ≡ true
    is_true true t = refl
    is_true false t = absurd t

module _ (S : Sheet) (m : MildSheet S) where
  weight-at : (c : ℕ) → c < 3 → light (own_of (get_or (joint S).channels c no_channel)).data_weight ≡ true
  unfolding joint
  weight-at zero l = m.data_weights 0
  weight-at (suc zero) l = m.data_weights 1
  weight-at (suc (suc zero)) l = m.data_weights 2
  weight-at (suc (suc (suc c))) l = absurd (omega arith)

  joint_mild : S.header.channels ≤ 3 → mild (sheet_of (joint S)) ≡ true
  unfolding joint
  joint_mild three =
      mild_of (sheet_of (joint S)) (m.iterations 0) (m.smoothing 0)
      (λ c l. subst (λ (o : Numbers). light o.data_weight ≡ true) (sym (at_own (joint S) c three l)) (weight-at c (omega arith)))

  alone_mild : (c : ℕ) → mild (sheet_of (alone S c)) ≡ true
  unfolding alone
  alone_mild c =
      mild_of (sheet_of (alone S c)) (m.iterations c) (m.smoothing c) only
    where
      only : (i : ℕ) → i < 1 → light (own (sheet_of (alone S c)) i).data_weight ≡ true
      only zero l = m.data_weights 0
      only (suc i) l = absurd (omega arith)

-- any list of calls on such a run, whatever start was lent
pub sheet_never : MildSheetNeverBlows
unfolding joint
sheet_never S m =
    record {
      jointly =
          λ levels tables s e xs.
          let G = joint_given S levels tables in
          never_blows G (joint_mild S m (few G (given_ok jobs G s e))) s e xs;
      separately = λ c levels tables s e xs. never_blows (given_of (alone S c) levels tables) (alone_mild S m c) s e xs;
    }

-- ---- a run that start accepts

run_ok : (r : Run) (levels : Levels) (tables : List ℕ) (B : Buffers) → start_refusal (given_of r levels tables) (places_of r) (lengths all_six B) ≡ 0 → GivenOk (given_of r levels tables)
unfolding start
run_ok r levels tables B z =
    let G = given_of r levels tables in
    given_ok jobs G (state_of r B) (ap (λ (n : ℕ). (settle n (state_of r B) (begin jobs G (state_of r B))).answer) z)

-- none of its jobs leaves it blown
pub run_calm : (G : Given) → GivenOk G → mild G.sheet ≡ true → run_blows G ≡ false
unfolding run_blows blows_at
run_calm G ok m =
    among_false (job_count G) (λ k. among (count G) (λ c. blows_at G c k))
    (λ k l. among_false (count G) (λ c. blows_at G c k) (λ c h. and-false (eqb (k % 5) 4) (channel_blown G c (fixed jobs G (suc k) c)) (not_blown G ok m (suc k) l c h)))

-- ---- the sheet

module _ (S : Sheet) (m : MildSheet S) (levels : Levels) (tables : List ℕ) (L : Loan) where
  pub taken_never : Taken S levels tables L → blows S levels tables ≡ false
  unfolding whole_of separately run_of
  taken_never z = go S.header.joint
    where
      go : (b : Bool) → (cond b (run_of (joint_given S levels tables)) (separately S levels tables)).blown ≡ false
      go true =
          run_calm (joint_given S levels tables) (run_ok (joint S) levels tables L.buffers (starts S levels tables L z))
          (joint_mild S m (few_channels S (joint_legal S levels tables L z)))
      go false =
          among_false S.header.channels (λ c. run_blows (alone_given S levels tables c))
          (λ c l.
          run_calm (alone_given S levels tables c)
          (run_ok (alone S c) _ _ (channel (area_of S) c L.buffers) (accepted S levels tables L z c l L.buffers (sized S levels tables L z))) (alone_mild S m c))

-- `solve`, whatever it is lent
pub solve_never : SolveNeverBlown
solve_never S m levels tables L a ks L' s e =
    go (solve_refusal S levels tables (lengths all_six L.buffers) (length L.totals)) refl s
  where
    ended : (b : Bool) → b ≡ false → Ended b (whole_of S levels tables) L (ending_of a) (number_in ks) L' → ⊥
    ended true f r = never true f refl
    ended false f r = let y : ◌≡◌ {A = ℕ} 0 1 = cc (e, r.0) in omega arith

    go : (n : ℕ) → solve_refusal S levels tables (lengths all_six L.buffers) (length L.totals) ≡ n → Ends n (whole_of S levels tables) L (ending_of a) (number_in ks) L' → ⊥
    go (suc n) z r = let y : ◌≡◌ {A = ℕ} 0 1 = cc (e, r.0) in omega arith
    go zero z r = ended (blows S levels tables) (taken_never S m levels tables L z) r
