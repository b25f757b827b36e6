-- Separate mode: each channel's run on its part of what the sheet is lent.
use mathlib.Core.Path.{◌≡◌, refl, sym, ap, ◌∙◌, subst}
use mathlib.Core.Logic.{◌≢◌, ◌⊎◌, inl, inr}
use mathlib.Core.Bool.{Bool, true, false, cond}
use mathlib.Core.List.{List, [], ◌∷◌, ◌++◌}
use Prim.Native.Nat.{ℕ, zero, suc, ◌+◌, ◌*◌, ◌≤◌, ◌<◌}
use native.Mathlib.Nat.{eq-or-lt_of_le, le_of_eq}
use native.Mathlib.Omega.{arith}
use native.Mathlib.Numerals.{add-one}
use lib.ListN.{length, get_or, set, drop, length-set}
use lib.Seq.{get_or-set_same, get_or-set_other}
use lib.Dec.{T, eqb, eqb→eq}
use borrow.Author.Tests.{eq-eqb, ne_eqb}
use lib.Ieee.{Float}
use lib.Ieee.Fits.{and_l, and_r}
use lib.IntN.{ℤ}
use Rattle.start.specs.Coef.{Levels, Long}
use Rattle.fold.specs.Join.{join_upto}
use Rattle.fold.specs.Part.{part, splice}
use Rattle.fold.proofs.Parts.{part_length, splice-length}
use Rattle.fold.proofs.Joins.{filled_none, filled_more, filled_all}
use Rattle.start.specs.Buffers.{Buffers}
use Rattle.contents.specs.declared.Sheet.{Sheet}
use Rattle.calls.specs.Run.{Numbers, Given, coefs, levels_before, levels_part, every, among}
use Rattle.calls.specs.Buffers.{Plane, Prior, Gradient, Across, Down, Saved, get, joined, channel, put_channel, Sized}
use Rattle.calls.specs.Calls.{all, all_six, lengths, table_ok, levels_fault, lend_tests, start_refusal}
use Rattle.calls.proofs.Parts.{channel_sized, put_sized, put_same, put_other, joined_channels}
use Rattle.calls.proofs.Tests.{every_at, among_true, all_part, faultless_of, of_faultless, part_faultless, skip, sized_names, sized_of, Lent, lent_of, of_lent}
use Rattle.record.specs.declared.Run.{Run}
use Rattle.std.specs.Prelude.{Result, Ok}
use Rattle.refusal.specs.declared.Refusal.{Refusal}
use Rattle.rounds.specs.declared.Ran.{Ran}
use Rattle.rounds.specs.declared.Ran.TheVariants.{Done, Blown}
use Rattle.record.specs.Model.{Legal, own_of, no_channel, sheet_of, places_of, clipped_of}
use Rattle.record.proofs.Channels.{at_own}
use Rattle.record.proofs.Sizes.{count_3, levels_rise, levels_small}
use Rattle.rounds.specs.Whole.{done, blown, ending_of, six, run_blows, run_totals, Whole, last, run_of, Loan, loan, ClippedAre, Ended, Ends, RunIs}
use Rattle.rounds.proofs.Steps.{Kept, kept_of}
use Rattle.rounds.proofs.Ends.{same_lengths, totals_length, renumber, is_done, not_done}
use Rattle.solve.specs.Solve.{joint, alone, iterations_at, steps_before, blend_count, joint_given, alone_given, levels_for, tables_for, alone_clipped, separately, whole_of, number_in, is_legal, all_legal, solve_refusal, SolveIs}
use Rattle.solve.specs.Separate.{totals_from, loan_of, PartsAre, AloneAsks, AloneIs, SeparateAsks, SeparateIs}

-- ---- a run that is accepted and not done is blown, with its numbers free

pub blown_ends : (n : ℕ) (w : Whole) (L : Loan) (x : Ran) (k k' : ℕ → ℕ) (L' : Loan) → (x ≡ Done → ⊥) → Ends n w L (ending_of (Ok x)) k L' → Ends n w L blown k' L'
blown_ends n w L Done k k' L' f e = absurd (f refl)
blown_ends (suc n) w L Blown k k' L' f e = e
blown_ends zero w L Blown k k' L' f e = go w.blown e
  where
    go : (b : Bool) → Ended b w L blown k L' → Ended b w L blown k' L'
    go true e = e
    go false e = let z : ◌≡◌ {A = ℕ} 0 1 = cc e.0 in absurd (omega arith)

-- ---- what a sheet that is not refused has passed

abbrev pub area_of : Sheet → ℕ
area_of S = S.header.width * S.header.height

accepts : (b : Bool) (n k : ℕ) → k ≢ 0 → cond b n k ≡ 0 → T b × (n ≡ 0)
accepts true n k f e = (tt, e)
accepts false n k f e = absurd (f e)

-- a sheet is not refused with what is lent
abbrev pub Taken : Sheet → Levels → List ℕ → Loan → Type 0
Taken S levels tables L = solve_refusal S levels tables (lengths all_six L.buffers) (length L.totals) ≡ 0

module _ (S : Sheet) (levels : Levels) (tables : List ℕ) (L : Loan) (z : Taken S levels tables L) where
  abbrev G : Given
  G = joint_given S levels tables

  abbrev ls : List ℕ
  ls = lengths all_six L.buffers

  abbrev room : Bool
  room = eqb (length L.totals) (blend_count S * 2)

  passed_both : T (all_legal S) × (cond room (start_refusal G (places_of (joint S)) ls) 8 ≡ 0)
  unfolding solve_refusal
  passed_both = accepts (all_legal S) (cond room (start_refusal G (places_of (joint S)) ls) 8) 13 (λ e. omega arith) z

  passed_room : T room × (start_refusal G (places_of (joint S)) ls ≡ 0)
  passed_room = accepts room (start_refusal G (places_of (joint S)) ls) 8 (λ e. omega arith) passed_both.1

  pub starts : start_refusal G (places_of (joint S)) ls ≡ 0
  starts = passed_room.1

  pub totals_fit : length L.totals ≡ blend_count S * 2
  totals_fit = eqb→eq (length L.totals) (blend_count S * 2) passed_room.0

  pub joint_legal : Legal (joint S)
  unfolding all_legal
  joint_legal = and_l (is_legal (joint S)) (every S.header.channels (λ c. is_legal (alone S c))) passed_both.0

  pub alone_legal : (c : ℕ) → c < S.header.channels → Legal (alone S c)
  unfolding all_legal
  alone_legal c h =
      every_at S.header.channels (λ c. is_legal (alone S c))
      (and_r (is_legal (joint S)) (every S.header.channels (λ c. is_legal (alone S c))) passed_both.0) c h

  passed : Lent G (places_of (joint S)) ls true
  unfolding start_refusal
  passed = lent_of G (places_of (joint S)) ls true starts

  pub sized : Sized (S.header.channels * area_of S) L.buffers
  unfolding joint
  sized = sized_of (S.header.channels * area_of S) L.buffers passed.long

  pub levels-long : Long levels (levels_before (sheet_of (joint S)) S.header.channels)
  unfolding joint
  levels-long = passed.levels-long refl

  pub tables_long : length tables ≡ S.header.channels * 64
  unfolding joint
  tables_long = passed.tables_long refl

  pub tables_ok : T (all table_ok tables)
  tables_ok = passed.tables_ok refl

  pub levels_ok : levels_fault levels ≡ 0
  levels_ok = passed.levels_ok refl

-- ---- the joint record's numbers

pub joint_count : (S : Sheet) → (joint S).count ≡ S.header.channels
unfolding joint
joint_count S = refl

pub joint_area : (S : Sheet) → (joint S).w * (joint S).h ≡ area_of S
unfolding joint
joint_area S = refl

channels_3 : (S : Sheet) → length (joint S).channels ≡ 3
unfolding joint
channels_3 S = refl

pub below_joint : (S : Sheet) (c : ℕ) → c < S.header.channels → c < (joint S).count
unfolding joint
below_joint S c h = h

-- channel c has as many coefficients in its own run as in that of all
own_coefs : (S : Sheet) (c : ℕ) → c < 3
    → (own_of (get_or (joint S).channels c no_channel)).width * (own_of (get_or (joint S).channels c no_channel)).height ≡ coefs (sheet_of (alone S c)) 0
unfolding joint alone
own_coefs S zero h = refl
own_coefs S (suc zero) h = refl
own_coefs S (suc (suc zero)) h = refl
own_coefs S (suc (suc (suc c))) h = absurd (omega arith)

same_coefs : (S : Sheet) → Legal (joint S) → (c : ℕ) → c < S.header.channels → coefs (sheet_of (joint S)) c ≡ coefs (sheet_of (alone S c)) 0
same_coefs S ok c h =
    let below : c < (joint S).count = below_joint S c h in
    ap (λ (o : Numbers). o.width * o.height) (at_own (joint S) c (omega (arith, count_3 (joint S) ok, channels_3 S)) below)
    ∙ own_coefs S c (omega (arith, count_3 (joint S) ok))

pub few_channels : (S : Sheet) → Legal (joint S) → S.header.channels ≤ 3
few_channels S ok = omega (arith, count_3 (joint S) ok, joint_count S)

-- ---- where channel c's part lies

pub steps_rise : (S : Sheet) (c n : ℕ) → c < n → steps_before S (suc c) ≤ steps_before S n
unfolding steps_before
steps_rise S c zero h = absurd (omega arith)
steps_rise S c (suc n) h = go (eq-or-lt_of_le h) (steps_rise S c n)
  where
    go : (suc c ≡ suc n) ⊎ (suc c < suc n) → (c < n → steps_before S (suc c) ≤ steps_before S n) → steps_before S (suc c) ≤ steps_before S (suc n)
    go (inl e) f = le_of_eq (ap (steps_before S) e)
    go (inr l) f = omega (arith, f (omega arith))

steps_next : (S : Sheet) (c : ℕ) → totals_from S (suc c) ≡ totals_from S c + iterations_at S c * 2
unfolding steps_before
steps_next S c = omega arith

-- channel c's part of the totals has room for its run's
pub own_room : (S : Sheet) (c : ℕ) (T : List Float) → length T ≡ totals_from S S.header.channels → c < S.header.channels
    → length (part T (totals_from S c) (totals_from S (suc c))) ≡ (alone S c).n * 2
unfolding alone
own_room S c T long below =
    part_length T (totals_from S c) (totals_from S (suc c)) (omega (arith, steps_next S c)) (omega (arith, steps_rise S c S.header.channels below))
    ∙ omega (arith, steps_next S c)

-- all totals of its run
run_room : (S : Sheet) (levels : Levels) (tables : List ℕ) (c : ℕ) → totals_from S (suc c) ≡ totals_from S c + length (run_totals (alone_given S levels tables c))
unfolding alone
run_room S levels tables c = omega (arith, steps_next S c, totals_length (alone_given S levels tables c))

none_before : (S : Sheet) → totals_from S 0 ≡ 0
unfolding steps_before
none_before S = refl

module _ (S : Sheet) (c : ℕ) (ok : Legal (joint S)) (below : c < S.header.channels) where
  pub channel_small : c < 3
  channel_small = omega (arith, count_3 (joint S) ok, below_joint S c below)

  pub parts_are : (from to l m x y : ℕ) → from ≡ c * ((joint S).w * (joint S).h) → to ≡ c * ((joint S).w * (joint S).h) + (joint S).w * (joint S).h
      → to ≤ (joint S).count * ((joint S).w * (joint S).h) → to ≤ 786432 → l ≡ levels_before (sheet_of (joint S)) c → m ≡ levels_before (sheet_of (joint S)) (c + 1)
      → x ≡ steps_before S c * 2 → y ≡ steps_before S (c + 1) * 2 → y ≤ 25769803770 → PartsAre S c from to l m (c * 64) (c * 64 + 64) x y
  unfolding joint
  parts_are from to l m x y from_is to_is to_most to_small l_is m_is x-is y_is y_small =
      let next : m ≡ levels_before (sheet_of (joint S)) (suc c) = m_is ∙ ap (levels_before (sheet_of (joint S))) (add-one c) in
      let after : y ≡ totals_from S (suc c) = y_is ∙ ap (totals_from S) (add-one c) in
      record {
        from_is = from_is;
        to_is = to_is;
        l_is = l_is;
        m_is = next;
        t_is = refl;
        u_is = refl;
        to_most = to_most;
        to_small = to_small;
        l_most = omega arith;
        m_most = rw next (levels_rise (sheet_of (joint S)) c S.header.channels below);
        m_small = rw next (levels_small (joint S) ok c below);
        u_most = omega (arith, below);
        u_small = omega (arith, channel_small);
        x-is = x-is;
        y_is = after;
        x_most = omega (arith, x-is, after, steps_next S c);
        y_most = omega (arith, after, steps_rise S c S.header.channels below);
        y_small = y_small;
      }

-- a run on these parts is the channel's
module _ (S : Sheet) (c : ℕ) (levels : Levels) (tables : List ℕ) (L : Loan) (from to l m t u x y : ℕ) (p : PartsAre S c from to l m t u x y) where
  abbrev B : Buffers
  B = L.buffers

  abbrev lent_to : Loan
  lent_to =
      loan
      (six (part B.plane from to) (part B.prior from to) (part B.gradient from to) (part B.across from to) (part B.down from to) (part B.saved from to))
      (part L.totals x y)

  abbrev back : Loan → Loan
  back o =
      loan
      (six (splice B.plane from to o.buffers.plane) (splice B.prior from to o.buffers.prior) (splice B.gradient from to o.buffers.gradient)
      (splice B.across from to o.buffers.across) (splice B.down from to o.buffers.down) (splice B.saved from to o.buffers.saved))
      (splice L.totals x y o.totals)

  alone_run : (r : Run) → r ≡ alone S c → (a : Result Ran Refusal) (r' : Run) (o : Loan) → RunIs r (levels_part levels l m) (part tables t u) lent_to a r' o
      → RunIs (alone S c) (levels_for S levels c) (tables_for tables c) (loan_of S c L) a r' o
  unfolding channel
  alone_run r e a r' o h = rw (e, p.from_is, p.to_is, p.l_is, p.m_is, p.t_is, p.u_is, p.x-is, p.y_is) at h

  pub alone_is : (r : Run) → r ≡ alone S c → (a : Result Ran Refusal) (r' : Run) (o : Loan) → RunIs r (levels_part levels l m) (part tables t u) lent_to a r' o
      → AloneIs S c levels tables L a r' (back o)
  unfolding put_channel
  alone_is r e a r' o h = record { own = o; run = alone_run r e a r' o h; put = rw (p.from_is, p.to_is, p.x-is, p.y_is) }

-- ---- a channel's run is accepted where the sheet is

sized_kept : (m : ℕ) (B₀ B : Buffers) → Sized m B₀ → Kept B₀ B → Sized m B
sized_kept m B₀ B h k b = same_lengths B₀ B k b ∙ h b

module _ (S : Sheet) (levels : Levels) (tables : List ℕ) (L₀ : Loan) (z : Taken S levels tables L₀) where
  ok : Legal (joint S)
  ok = joint_legal S levels tables L₀ z

  module _ (c : ℕ) (below : c < S.header.channels) (B : Buffers) (long : Sized (S.header.channels * area_of S) B) where
    abbrev H : Given
    H = alone_given S levels tables c

    part_sized : Sized (area_of S) (channel (area_of S) c B)
    part_sized = channel_sized (area_of S) c S.header.channels B long below

    abbrev at : ℕ
    at = levels_before (sheet_of (joint S)) c

    abbrev end : ℕ
    end = levels_before (sheet_of (joint S)) (suc c)

    own_part : (values : List ℤ) → length values ≡ levels_before (sheet_of (joint S)) S.header.channels
        → length (part values at end) ≡ levels_before (sheet_of (alone S c)) 1
    own_part values long =
        part_length values at end (omega arith) (omega (arith, levels_rise (sheet_of (joint S)) c S.header.channels below))
        ∙ omega (arith, same_coefs S ok c below)

    own_levels : Long (levels_for S levels c) (levels_before (sheet_of (alone S c)) 1)
    own_levels =
        let long = levels-long S levels tables L₀ z in
        (own_part levels.lows long.0, own_part levels.highs long.1)

    own_faultless : levels_fault (levels_for S levels c) ≡ 0
    own_faultless =
        let fine = faultless_of levels (levels_before (sheet_of (joint S)) S.header.channels) (levels-long S levels tables L₀ z) (levels_ok S levels tables L₀ z) in
        of_faultless (part levels.lows at end) (part levels.highs at end) (part_faultless levels fine at end)

    own_tables : length (tables_for tables c) ≡ 64
    own_tables = part_length tables (c * 64) (c * 64 + 64) (omega arith) (omega (arith, tables_long S levels tables L₀ z)) ∙ omega arith

    passed_alone : Lent (alone_given S levels tables c) (places_of (alone S c)) (lengths all_six (channel (area_of S) c B)) true
    unfolding alone
    passed_alone =
        let one : area_of S ≡ 1 * area_of S = omega arith in
        record {
          is-legal = alone_legal S levels tables L₀ z c below;
          long = sized_names (1 * area_of S) (channel (area_of S) c B) (λ b. part_sized b ∙ one) all_six;
          levels-long = λ e. own_levels;
          tables_long = λ e. own_tables;
          tables_ok = λ e. all_part table_ok tables (c * 64) (c * 64 + 64) (tables_ok S levels tables L₀ z);
          levels_ok = λ e. own_faultless;
        }

    pub accepted : start_refusal (alone_given S levels tables c) (places_of (alone S c)) (lengths all_six (channel (area_of S) c B)) ≡ 0
    unfolding start_refusal
    accepted =
        let ls : List ℕ = lengths all_six (channel (area_of S) c B) in
        skip (lend_tests (alone_given S levels tables c) (places_of (alone S c)) ls true) [] (of_lent (alone_given S levels tables c) (places_of (alone S c)) ls true passed_alone)

    -- a run of one channel
    one_run : (run_of (alone_given S levels tables c)).buffers ≡ last (alone_given S levels tables c) 0
    unfolding run_of joined alone
    one_run = refl

    same_blows : (run_of (alone_given S levels tables c)).blown ≡ run_blows (alone_given S levels tables c)
    unfolding run_of
    same_blows = refl

    one_clipped : (k : ℕ → ℕ) → ClippedAre (run_of (alone_given S levels tables c)) k → k 0 ≡ alone_clipped S levels tables c
    unfolding run_of alone
    one_clipped k h = h 0 (omega arith)

    same_totals : (run_of (alone_given S levels tables c)).totals ≡ run_totals (alone_given S levels tables c)
    unfolding run_of
    same_totals = refl

    module _ (T : List Float) (room : length T ≡ totals_from S S.header.channels) where
      pub asks_of : AloneAsks S c levels tables (loan B T)
      asks_of =
          record {
            is-legal = ok;
            below = below;
            levels-long = levels-long S levels tables L₀ z;
            tables_long = tables_long S levels tables L₀ z;
            plane_long = long Plane;
            prior_long = long Prior;
            gradient_long = long Gradient;
            across_long = long Across;
            down_long = long Down;
            saved_long = long Saved;
            totals_long = room;
          }

      -- how the channel's run ended
      module _ (a : Result Ran Refusal) (r : Run) (L' : Loan) (said : AloneIs S c levels tables (loan B T) a r L') where
        abbrev run : Whole
        run = run_of (alone_given S levels tables c)

        ended : Ends 0 (run_of (alone_given S levels tables c)) (loan_of S c (loan B T)) (ending_of a) (clipped_of r) said.own
        ended = rw accepted at said.run

        own_sized : Sized (area_of S) said.own.buffers
        own_sized b = go run.blown ended ∙ part_sized b
          where
            go : (b' : Bool) → Ended b' run (loan_of S c (loan B T)) (ending_of a) (clipped_of r) said.own
                → length (get b said.own.buffers) ≡ length (get b (channel (area_of S) c B))
            go true e = e.1.0 b
            go false e = e.2.0 b

        own_totals : length said.own.totals ≡ length (part T (totals_from S c) (totals_from S (suc c)))
        own_totals = go run.blown ended
          where
            go : (b' : Bool) → Ended b' run (loan_of S c (loan B T)) (ending_of a) (clipped_of r) said.own
                → length said.own.totals ≡ length (part T (totals_from S c) (totals_from S (suc c)))
            go true e = e.1.1
            go false e = e.2.1

        now_sized : Sized (S.header.channels * area_of S) L'.buffers
        now_sized =
            subst (Sized (S.header.channels * area_of S)) (sym (ap (λ (K : Loan). K.buffers) said.put))
            (put_sized (area_of S) c S.header.channels B long below said.own.buffers own_sized)

        now_long : length L'.totals ≡ length T
        now_long =
            let rise : totals_from S c ≤ totals_from S (suc c) = omega (arith, steps_next S c) in
            let most : totals_from S (suc c) ≤ length T = omega (arith, room, steps_rise S c S.header.channels below) in
            ap (λ (K : Loan). length K.totals) said.put
            ∙ splice-length T (totals_from S c) (totals_from S (suc c)) rise most said.own.totals
            (own_totals ∙ part_length T (totals_from S c) (totals_from S (suc c)) rise most)

        -- done: not blown, and its buffers, its totals and its number are there; the other channels' are as they were
        pub done_run : ending_of a ≡ done
            → (run_blows (alone_given S levels tables c) ≡ false) × (said.own.buffers ≡ last (alone_given S levels tables c) 0)
            × (said.own.totals ≡ run_totals (alone_given S levels tables c)) × (clipped_of r 0 ≡ alone_clipped S levels tables c)
        done_run d = go run.blown refl ended
          where
            go : (b : Bool) → run.blown ≡ b → Ended b run (loan_of S c (loan B T)) (ending_of a) (clipped_of r) said.own
                → (run_blows (alone_given S levels tables c) ≡ false) × (said.own.buffers ≡ last (alone_given S levels tables c) 0)
                × (said.own.totals ≡ run_totals (alone_given S levels tables c)) × (clipped_of r 0 ≡ alone_clipped S levels tables c)
            go true q e = let w : ◌≡◌ {A = ℕ} 0 1 = cc (d, e.0) in absurd (omega arith)
            go false q e =
                (sym same_blows ∙ q, ap (λ (K : Loan). K.buffers) e.1 ∙ one_run, ap (λ (K : Loan). K.totals) e.1 ∙ same_totals, one_clipped (clipped_of r) e.3)

        pub blown_run : (done ≡ ending_of a → ⊥) → (run_blows (alone_given S levels tables c) ≡ true) × (ending_of a ≡ blown)
        blown_run d = go run.blown refl ended
          where
            go : (b : Bool) → run.blown ≡ b → Ended b run (loan_of S c (loan B T)) (ending_of a) (clipped_of r) said.own
                → (run_blows (alone_given S levels tables c) ≡ true) × (ending_of a ≡ blown)
            go true q e = (sym same_blows ∙ q, e.0)
            go false q e = absurd (d (sym e.0))

        here : channel (area_of S) c L'.buffers ≡ said.own.buffers
        here =
            ap (λ (K : Loan). channel (area_of S) c K.buffers) said.put
            ∙ put_same (area_of S) c S.header.channels B long below said.own.buffers own_sized

        elsewhere : (d : ℕ) → d < S.header.channels → c ≢ d → channel (area_of S) d L'.buffers ≡ channel (area_of S) d B
        elsewhere d h f =
            ap (λ (K : Loan). channel (area_of S) d K.buffers) said.put
            ∙ put_other (area_of S) c S.header.channels B long below said.own.buffers own_sized d h f

-- ---- the loop over the channels

-- the totals of the runs of the first i channels stand at the front
abbrev SummedUpto : Sheet → Levels → List ℕ → ℕ → List Float → List Float → Type 0
SummedUpto S levels tables i T₀ T = T ≡ join_upto (λ c. run_totals (alone_given S levels tables c)) i ++ drop (totals_from S i) T₀

pub record Parting (S : Sheet) (levels : Levels) (tables : List ℕ) (n i : ℕ) (L₀ L : Loan) (ks : List ℕ) : Type 0 where
  pub most : i ≤ n
  pub each : (c : ℕ) → c < i → channel (area_of S) c L.buffers ≡ last (alone_given S levels tables c) 0
  pub none : among i (λ c. run_blows (alone_given S levels tables c)) ≡ false
  pub kept : Kept L₀.buffers L.buffers
  pub summed : SummedUpto S levels tables i L₀.totals L.totals
  pub totals_long : length L.totals ≡ length L₀.totals
  pub three : length ks ≡ 3
  pub numbers : (c : ℕ) → c < i → number_in ks c ≡ alone_clipped S levels tables c

module _ (S : Sheet) (levels : Levels) (tables : List ℕ) (L₀ : Loan) (asks : SeparateAsks S levels tables L₀) where
  abbrev z : Taken S levels tables L₀
  z = asks.accepted

  abbrev n : ℕ
  n = S.header.channels

  first_sized : Sized (S.header.channels * area_of S) L₀.buffers
  first_sized = sized S levels tables L₀ z

  first_room : length L₀.totals ≡ totals_from S S.header.channels
  first_room =
      totals_fit S levels tables L₀ z
      ∙ ap (λ (b : Bool). cond b (iterations_at S 0) (steps_before S S.header.channels) * 2) asks.apart

  pub begins : (ks : List ℕ) → length ks ≡ 3 → Parting S levels tables S.header.channels 0 L₀ L₀ ks
  begins ks three =
      record {
        most = omega arith;
        each = λ c h. absurd (omega arith);
        none = refl;
        kept = kept_of (S.header.channels * area_of S) L₀.buffers L₀.buffers first_sized first_sized;
        summed = filled_none (λ c. run_totals (alone_given S levels tables c)) (totals_from S) (none_before S) (run_room S levels tables) L₀.totals;
        totals_long = refl;
        three = three;
        numbers = λ c h. absurd (omega arith);
      }

  module _ (i : ℕ) (L : Loan) (ks : List ℕ) (h : Parting S levels tables S.header.channels i L₀ L ks) where
    long : Sized (S.header.channels * area_of S) L.buffers
    long = sized_kept (S.header.channels * area_of S) L₀.buffers L.buffers first_sized h.kept

    room_now : length L.totals ≡ totals_from S S.header.channels
    room_now = h.totals_long ∙ first_room

    module _ (left : i < S.header.channels) where
      pub alone_asks : AloneAsks S i levels tables L
      alone_asks = asks_of S levels tables L₀ z i left L.buffers long L.totals room_now

      module _ (a : Result Ran Refusal) (r : Run) (L' : Loan) (said : AloneIs S i levels tables L a r L') where
        kept_now : Kept L₀.buffers L'.buffers
        kept_now =
            kept_of (S.header.channels * area_of S) L₀.buffers L'.buffers first_sized
            (now_sized S levels tables L₀ z i left L.buffers long L.totals room_now a r L' said)

        long_now : length L'.totals ≡ length L₀.totals
        long_now = now_long S levels tables L₀ z i left L.buffers long L.totals room_now a r L' said ∙ h.totals_long

        pub goes-on : a ≡ (Ok Done) → (k : ℕ) → k ≡ clipped_of r 0 → Parting S levels tables S.header.channels (i + 1) L₀ L' (set ks i k)
        goes-on one k e =
            let d = done_run S levels tables L₀ z i left L.buffers long L.totals room_now a r L' said (is_done a one) in
            rw (add-one)
            record {
              most = omega arith;
              each = λ c l. go c (eq-or-lt_of_le l) d.1;
              none = rw h.none d.0;
              kept = kept_now;
              summed =
                  filled_more (λ c. run_totals (alone_given S levels tables c)) (totals_from S) (none_before S) (run_room S levels tables) i L₀.totals h.summed
                  (ap (λ (K : Loan). K.totals) said.put ∙ ap (splice L.totals (totals_from S i) (totals_from S (suc i))) d.2);
              totals_long = long_now;
              three = length-set ks i k ∙ h.three;
              numbers = λ c l. put c (eq-or-lt_of_le l) (e ∙ d.3);
            }
          where
            go : (c : ℕ) → (suc c ≡ suc i) ⊎ (suc c < suc i) → said.own.buffers ≡ last (alone_given S levels tables i) 0
                → channel (area_of S) c L'.buffers ≡ last (alone_given S levels tables c) 0
            go c (inl e) p =
                let same : i ≡ c = omega arith in
                subst (λ (k : ℕ). channel (area_of S) k L'.buffers ≡ last (alone_given S levels tables k) 0) same
                (here S levels tables L₀ z i left L.buffers long L.totals room_now a r L' said ∙ p)
            go c (inr l) p =
                elsewhere S levels tables L₀ z i left L.buffers long L.totals room_now a r L' said c (omega arith) (λ e. omega arith)
                ∙ h.each c (omega arith)

            put : (c : ℕ) → (suc c ≡ suc i) ⊎ (suc c < suc i) → k ≡ alone_clipped S levels tables i → number_in (set ks i k) c ≡ alone_clipped S levels tables c
            put c (inl e) p =
                let same : i ≡ c = omega arith in
                let few : i < length ks = omega (arith, h.three, few_channels S (ok S levels tables L₀ z)) in
                subst (λ (d : ℕ). number_in (set ks i k) d ≡ alone_clipped S levels tables d) same (get_or-set_same ks i k 0 few ∙ p)
            put c (inr l) p = get_or-set_other ks i c k 0 (λ e. omega arith) ∙ h.numbers c (omega arith)

        pub stops : (a ≡ (Ok Done) → ⊥) → (ks' : List ℕ) → SeparateIs S levels tables L₀ a ks' L'
        unfolding separately
        stops one ks' =
            let d = blown_run S levels tables L₀ z i left L.buffers long L.totals room_now a r L' said (not_done a one) in
            rw (among_true S.header.channels (λ c. run_blows (alone_given S levels tables c)) i left d.0)
            (d.1, (same_lengths L₀.buffers L'.buffers kept_now, long_now))

    pub ends : S.header.channels ≤ i → SeparateIs S levels tables L₀ (Ok Done) ks L
    unfolding separately
    ends l =
        let end : i ≡ S.header.channels = omega (arith, h.most) in
        let none : among S.header.channels (λ c. run_blows (alone_given S levels tables c)) ≡ false = rw end at h.none in
        let six_are : L.buffers ≡ (separately S levels tables).buffers =
        sym (joined_channels (area_of S) S.header.channels (λ c. last (alone_given S levels tables c) 0) L.buffers long (λ c q. h.each c (omega arith))) in
        let totals-are : L.totals ≡ (separately S levels tables).totals =
        filled_all (λ c. run_totals (alone_given S levels tables c)) (totals_from S) (none_before S) (run_room S levels tables) i S.header.channels L₀.totals
        h.summed end first_room in
        rw none (
          refl,
          λ j. loan (six_are j) (totals-are j),
          (same_lengths L₀.buffers L.buffers h.kept, h.totals_long),
          λ c q. h.numbers c (omega arith),
        )

-- ---- solve

module _ (S : Sheet) (levels : Levels) (tables : List ℕ) (L : Loan) where
  module _ (z : Taken S levels tables L) (a : Result Ran Refusal) (ks : List ℕ) (L' : Loan) where
    -- by the mode
    ends_in : (b : Bool) → S.header.joint ≡ b → Ends 0 (cond b (run_of (joint_given S levels tables)) (separately S levels tables)) L (ending_of a) (number_in ks) L'
        → SolveIs S levels tables L a ks L'
    unfolding whole_of
    ends_in b j h =
        subst (λ (n : ℕ). Ends n (whole_of S levels tables) L (ending_of a) (number_in ks) L') (sym z)
        (subst (λ (d : Bool). Ends 0 (cond d (run_of (joint_given S levels tables)) (separately S levels tables)) L (ending_of a) (number_in ks) L') (sym j) h)

    -- the three numbers of the record that the run leaves
    three_numbers : (r : Run) → ks ≡ clipped_of r 0 ∷ clipped_of r 1 ∷ clipped_of r 2 ∷ [] → (c : ℕ) → c < 3 → number_in ks c ≡ clipped_of r c
    three_numbers r e zero h = rw e
    three_numbers r e (suc zero) h = rw e
    three_numbers r e (suc (suc zero)) h = rw e
    three_numbers r e (suc (suc (suc c))) h = absurd (omega arith)

    run_channels : (run_of (joint_given S levels tables)).channels ≡ (joint S).count
    unfolding run_of
    run_channels = refl

    pub solve_joint : S.header.joint ≡ true → (r : Run) → ks ≡ clipped_of r 0 ∷ clipped_of r 1 ∷ clipped_of r 2 ∷ [] → RunIs (joint S) levels tables L a r L'
        → SolveIs S levels tables L a ks L'
    solve_joint j r e h =
        let w = run_of (joint_given S levels tables) in
        ends_in true j
        (renumber 0 w L (ending_of a) (clipped_of r) (number_in ks) L'
        (λ c l. three_numbers r e c (omega (arith, run_channels, count_3 (joint S) (joint_legal S levels tables L z))))
        (subst (λ (n : ℕ). Ends n w L (ending_of a) (clipped_of r) L') (starts S levels tables L z) h))

    pub solve_separate : S.header.joint ≡ false → SeparateIs S levels tables L a ks L' → SolveIs S levels tables L a ks L'
    solve_separate j h = ends_in false j h

  -- where the run is not done, the numbers are free
  pub any_numbers : (a : Result Ran Refusal) (ks ks' : List ℕ) (L' : Loan) → (a ≡ (Ok Done) → ⊥) → SolveIs S levels tables L a ks L' → SolveIs S levels tables L a ks' L'
  any_numbers a ks ks' L' f = go (solve_refusal S levels tables (lengths all_six L.buffers) (length L.totals))
    where
      ended : (b : Bool) → Ended b (whole_of S levels tables) L (ending_of a) (number_in ks) L' → Ended b (whole_of S levels tables) L (ending_of a) (number_in ks') L'
      ended true e = e
      ended false e = absurd (not_done a f (sym e.0))

      go : (n : ℕ) → Ends n (whole_of S levels tables) L (ending_of a) (number_in ks) L' → Ends n (whole_of S levels tables) L (ending_of a) (number_in ks') L'
      go (suc n) e = e
      go zero e = ended (whole_of S levels tables).blown e

  -- the room of the joint run's totals
  pub joint_room : Taken S levels tables L → S.header.joint ≡ true → length L.totals ≡ (joint S).n * 2
  unfolding joint
  joint_room z j =
      totals_fit S levels tables L z ∙ ap (λ (b : Bool). cond b (iterations_at S 0) (steps_before S S.header.channels) * 2) j

-- ---- the tests of both modes' records, and of the totals' room

module _ (S : Sheet) (levels : Levels) (tables : List ℕ) (ls : List ℕ) (t : ℕ) where
  pub not_legal : all_legal S ≡ false → 13 ≡ solve_refusal S levels tables ls t
  unfolding solve_refusal
  not_legal e = rw e

  pub not_long : all_legal S ≡ true → t ≢ blend_count S * 2 → 8 ≡ solve_refusal S levels tables ls t
  unfolding solve_refusal
  not_long e f = rw (e, ne_eqb t (blend_count S * 2) f)

  pub then_start : all_legal S ≡ true → t ≡ blend_count S * 2 → (r : ℕ) → r ≡ start_refusal (joint_given S levels tables) (places_of (joint S)) ls
      → r ≡ solve_refusal S levels tables ls t
  unfolding solve_refusal
  then_start e f r h = rw (e, eq-eqb t (blend_count S * 2) f) h

pub legal_few : (S : Sheet) → all_legal S ≡ true → S.header.channels ≤ 3
unfolding all_legal
legal_few S e = few_channels S (and_l (is_legal (joint S)) (every S.header.channels (λ c. is_legal (alone S c))) (subst T (sym e) tt))

module _ (S : Sheet) where
  pub not-all : is_legal (joint S) ≡ false → false ≡ all_legal S
  unfolding all_legal
  not-all e = rw e

  pub all_of : is_legal (joint S) ≡ true → (b : Bool) → b ≡ every S.header.channels (λ c. is_legal (alone S c)) → b ≡ all_legal S
  unfolding all_legal
  all_of e b h = rw e h
