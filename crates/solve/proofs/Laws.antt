-- Laws of the whole run: no steps, one channel, and no line `H`.
use mathlib.Core.Path.{◌≡◌, refl, sym, ap, ◌∙◌}
use mathlib.Core.Bool.{Bool, true, false, ◌&&◌, not, cond}
use mathlib.Core.List.{List, [], ◌∷◌, map}
use Prim.Native.Nat.{ℕ, suc, ◌+◌, ◌-◌, ◌*◌}
use native.Mathlib.Omega.{arith}
use lib.Dec.{eqb}
use lib.ListN.{length, take, drop}
use lib.Seq.{take_all}
use Rattle.start.specs.Coef.{Levels, pairs}
use Rattle.fold.specs.Fold.{upto}
use Rattle.fold.specs.Join.{join_upto}
use Rattle.contents.specs.declared.Sheet.{Sheet}
use Rattle.std.specs.Prelude.{Option, Some, None}
use Rattle.contents.specs.Hold.{measured, count_at, hold_at}
use Rattle.contents.specs.Sheets.{channel_at, data_at}
use Rattle.contents.specs.Weights.{value_of}
use Rattle.calls.specs.Run.{Given, levels_before, levels_part, among}
use Rattle.calls.specs.Buffers.{joined}
use Rattle.calls.specs.Jobs.{fixed, kept}
use Rattle.demand.specs.Solver.{jobs}
use Rattle.record.specs.Model.{own_of, sheet_of, given_of}
use Rattle.rounds.specs.Whole.{job_count, run_blows, pair_at, run_totals, last, run_of, Loan}
use Rattle.solve.specs.Solve.{run_channel, reorder_of, joint, alone, iterations_at, smoothing_at, joint_given, alone_given, levels_for, tables_for, separately, whole_of}
use Rattle.solve.specs.Laws.{NoSteps, OneChannel, lettered, spelled}
use Rattle.solve.proofs.Held.{three_measured}
use Rattle.solve.proofs.Alone.{Taken, levels-long, tables_long}

-- "N = 0 gives the unprojected start", and nothing is blown.
pub no_steps : (G : Given) → G.sheet.N ≡ 0 → (c : ℕ) → last G c ≡ jobs.start G c
unfolding last fixed
no_steps G e c = ap (λ (n : ℕ). fixed jobs G (5 * n) c) e

pub no_steps_fine : (G : Given) → G.sheet.N ≡ 0 → run_blows G ≡ false
unfolding run_blows
no_steps_fine G e = rw e

-- "Without steps it is 0": the number of clipped coefficients (M-104)
pub no_steps_clipped : (G : Given) → G.sheet.N ≡ 0 → (c : ℕ) → kept jobs G (job_count G) c ≡ 0
unfolding kept
no_steps_clipped G e c = ap (λ (n : ℕ). kept jobs G (5 * n) c) e

-- and there are no totals (M-103)
pub no_steps_totals : (G : Given) → G.sheet.N ≡ 0 → run_totals G ≡ []
unfolding run_totals upto
no_steps_totals G e = ap (λ (n : ℕ). join_upto (pair_at G) n) e

pub no_steps_law : NoSteps
no_steps_law G e = record { buffers = no_steps G e; fine = no_steps_fine G e; clipped = no_steps_clipped G e; totals = no_steps_totals G e }

-- both modes have the sheet's channels
pub whole_channels : (S : Sheet) (levels : Levels) (tables : List ℕ) → (whole_of S levels tables).channels ≡ S.header.channels
unfolding whole_of run_of separately joint
whole_channels S levels tables = go S.header.joint
  where
    go : (b : Bool) → (cond b (run_of (joint_given S levels tables)) (separately S levels tables)).channels ≡ S.header.channels
    go true = refl
    go false = refl

-- ---- the letters with one channel

either_is : (b d : Bool) (k : ℕ) → cond b k k ≡ cond d k k
either_is true true k = refl
either_is true false k = refl
either_is false true k = refl
either_is false false k = refl

-- the first channel is held after as many steps in both
held_alike : (S : Sheet) → hold_at (lettered true S) 0 ≡ hold_at (lettered false S) 0
unfolding hold_at measured
held_alike S = go S.settings.hold
  where
    go : (x : Option (List ℕ)) → count_at x (lettered true S).header 0 ≡ count_at x (lettered false S).header 0
    go None = either_is (eqb S.header.channels 3 && true) (eqb S.header.channels 3 && false) (iterations_at S 0)
    go (Some l) = refl

-- "With one channel the letters act alike": the runs of both modes are given the same, so what they leave is the same.
module _ (S : Sheet) (levels : Levels) (tables : List ℕ) (L : Loan) (accepted : Taken (lettered true S) levels tables L) (one : S.header.channels ≡ 1) where
  abbrev joined_sheet : Sheet
  joined_sheet = lettered true S

  abbrev apart : Sheet
  apart = lettered false S

  same-sheet : sheet_of (joint joined_sheet) ≡ sheet_of (alone apart 0)
  unfolding joint alone
  same-sheet =
      λ i.
      record {
        W = S.header.width;
        H = S.header.height;
        N = iterations_at S 0;
        smoothing = value_of (smoothing_at S 0);
        reorder = reorder_of S.settings.start;
        count = one i;
        owns = map own_of (take (one i) (run_channel (channel_at S 0) (data_at S.header 0) (held_alike S i) ∷ drop 1 (joint joined_sheet).channels));
      }

  -- the first channel's levels are all, whatever the letter
  first_levels : (b : Bool) → levels_before (sheet_of (joint (lettered b S))) 1 ≡ 0 + (channel_at S 0).width * (channel_at S 0).height
  unfolding joint
  first_levels b =
      ap
      (λ (n : ℕ).
      levels_before
      (record {
        W = S.header.width;
        H = S.header.height;
        N = iterations_at S 0;
        smoothing = value_of (smoothing_at S 0);
        reorder = reorder_of S.settings.start;
        count = n;
        owns = map own_of (take n (joint (lettered b S)).channels);
      })
      1)
      one

  all_levels : (b : Bool) → levels_for (lettered b S) levels 0 ≡ levels
  all_levels b =
      let n : Bool → ℕ = λ b. levels_before (sheet_of (joint (lettered b S))) 1 in
      let long = levels-long joined_sheet levels tables L accepted in
      let all : levels_before (sheet_of (joint joined_sheet)) S.header.channels ≡ n b = ap (levels_before (sheet_of (joint joined_sheet))) one ∙ first_levels true ∙ sym (first_levels b) in
      let lows : length levels.lows ≡ n b = long.0 ∙ all in
      let highs : length levels.highs ≡ n b = long.1 ∙ all in
      λ i. pairs (take_all (n b - 0) levels.lows (omega arith) i) (take_all (n b - 0) levels.highs (omega arith) i)

  all_tables : tables_for tables 0 ≡ tables
  all_tables = take_all 64 tables (omega (arith, tables_long joined_sheet levels tables L accepted))

  pub same_given : joint_given joined_sheet levels tables ≡ alone_given apart levels tables 0
  same_given = λ i. record { sheet = same-sheet i; levels = sym (all_levels false) i; tables = sym all_tables i }

  pub same_buffers : (whole_of joined_sheet levels tables).buffers ≡ (whole_of apart levels tables).buffers
  unfolding whole_of run_of separately joined alone
  same_buffers = ap (λ (G : Given). (run_of G).buffers) same_given ∙ ap (λ (n : ℕ). joined n (λ c. last (alone_given apart levels tables c) 0)) (sym one)

  pub same_blown : (whole_of joined_sheet levels tables).blown ≡ (whole_of apart levels tables).blown
  unfolding whole_of run_of separately alone
  same_blown = ap (λ (G : Given). (run_of G).blown) same_given ∙ ap (λ (n : ℕ). among n (λ c. run_blows (alone_given apart levels tables c))) (sym one)

  pub same_totals : (whole_of joined_sheet levels tables).totals ≡ (whole_of apart levels tables).totals
  unfolding whole_of run_of separately upto
  same_totals = ap (λ (G : Given). (run_of G).totals) same_given ∙ ap (λ (n : ℕ). join_upto (λ c. run_totals (alone_given apart levels tables c)) n) (sym one)

  pub same_clipped : (whole_of joined_sheet levels tables).clipped 0 ≡ (whole_of apart levels tables).clipped 0
  unfolding whole_of run_of separately
  same_clipped = ap (λ (G : Given). (run_of G).clipped 0) same_given

pub one_channel_law : OneChannel
one_channel_law S levels tables L one accepted =
    record {
      buffers = same_buffers S levels tables L accepted one;
      totals = same_totals S levels tables L accepted one;
      blown = same_blown S levels tables L accepted one;
      clipped = same_clipped S levels tables L accepted one;
    }

-- ---- a sheet without a line `H`: each held count is the iteration count that it is measured against

module _ (S : Sheet) (unsaid : S.settings.hold ≡ None) where
  held_same : (c : ℕ) → hold_at S c ≡ hold_at (spelled S) c
  unfolding hold_at
  held_same c = ap (λ (x : Option (List ℕ)). count_at x S.header c) unsaid ∙ sym (three_measured S.header c)

  pub same_joint : joint S ≡ joint (spelled S)
  unfolding joint
  same_joint =
      let h = S.header in
      let held : ℕ → ℕ → ℕ = λ c k. cond h.joint k (iterations_at S 0) in
      λ i.
      record {
        w = h.width;
        h = h.height;
        n = iterations_at S 0;
        smoothing = value_of (smoothing_at S 0);
        reorder = reorder_of S.settings.start;
        count = h.channels;
        channels =
            run_channel (channel_at S 0) (data_at h 0) (held 0 (held_same 0 i)) ∷ run_channel (channel_at S 1) (data_at h 1) (held 1 (held_same 1 i))
            ∷ run_channel (channel_at S 2) (data_at h 2) (held 2 (held_same 2 i)) ∷ [];
      }

  pub same_alone : (c : ℕ) → alone S c ≡ alone (spelled S) c
  unfolding alone
  same_alone c =
      λ i.
      let x = run_channel (channel_at S c) (data_at S.header 0) (cond (not S.header.joint) (held_same c i) (iterations_at S c)) in
      record {
        w = S.header.width;
        h = S.header.height;
        n = iterations_at S c;
        smoothing = value_of (smoothing_at S c);
        reorder = reorder_of S.settings.start;
        count = 1;
        channels = x ∷ x ∷ x ∷ [];
      }

  -- "absent, each equals the iteration count it is measured against": the runs, what they leave, and what is refused are those of the sheet that says so
  pub unsaid_is : (levels : Levels) (tables : List ℕ) → whole_of S levels tables ≡ whole_of (spelled S) levels tables
  unfolding whole_of separately
  unsaid_is levels tables =
      λ i.
      let G : ℕ → Given = λ c.
      given_of (same_alone c i) (levels_part levels (levels_before (sheet_of (same_joint i)) c) (levels_before (sheet_of (same_joint i)) (suc c))) (tables_for tables c) in
      cond S.header.joint (run_of (given_of (same_joint i) levels tables))
      (record {
        buffers = joined S.header.channels (λ c. last (G c) 0);
        totals = join_upto (λ c. run_totals (G c)) S.header.channels;
        blown = among S.header.channels (λ c. run_blows (G c));
        channels = S.header.channels;
        clipped = λ c. kept jobs (G c) (job_count (G c)) 0;
      })
