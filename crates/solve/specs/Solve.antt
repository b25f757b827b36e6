-- The whole run (document 01, "Whole run and picture"): which runs a sheet has in each mode, the planes that they leave, the totals of their blends, and when they blow.
use Rattle.std.specs.Prelude.{ℕ, zero, suc, ◌+◌, ◌*◌, Bool, false, ◌&&◌, not, cond, List, [], ◌∷◌, length, get_or, eqb, Float, Option, Result, Ok, Err}
use Rattle.start.specs.Coef.{Levels}
use Rattle.fold.specs.Join.{join_upto}
use Rattle.fold.specs.Part.{part}
use Rattle.contents.specs.declared.Weight.{Weight}
use Rattle.contents.specs.Weights.{value_of}
use Rattle.contents.specs.declared.Letter.{Letter}
use Rattle.contents.specs.declared.Sheet.{Sheet}
use Rattle.contents.specs.declared.Channel as Line
use Rattle.contents.specs.Letters.{chosen}
use Rattle.contents.specs.Sheets as Sheets
use Rattle.contents.specs.Sheets.{channel_at, data_at}
use Rattle.contents.specs.Hold as Hold
use Rattle.contents.specs.Hold.{hold_at}
use Rattle.start.specs.declared.coef.Reorder.{Reorder}
use Rattle.start.specs.declared.coef.Reorder.TheVariants.{Each, Once}
use Rattle.calls.specs.Run.{Given, levels_before, levels_part, every, among, legal}
use Rattle.calls.specs.Buffers.{joined}
use Rattle.calls.specs.Calls.{lengths, all_six, start_refusal}
use Rattle.record.specs.declared.Run.{Run}
use Rattle.record.specs.declared.Channel.{Channel}
use Rattle.refusal.specs.declared.Refusal.{Refusal}
use Rattle.record.specs.Model.{sheet_of, places_of, given_of}
use Rattle.rounds.specs.declared.Ran.{Ran}
use Rattle.rounds.specs.declared.Ran.TheVariants as ran
use Rattle.calls.specs.Jobs.{kept}
use Rattle.demand.specs.Solver.{jobs}
use Rattle.solve.specs.declared.Solved.{Solved}
use Rattle.solve.specs.declared.Solved.TheVariants.{Done, Blown}
use Rattle.rounds.specs.Whole.{job_count, run_blows, run_totals, Whole, last, run_of, Loan, ending_of, Ends}

-- ---- the runs of a sheet

-- a channel line as a channel of a run with this data weight and this held count, at position 0 and not marked
abbrev pub run_channel : Line.Channel → Weight → ℕ → Channel
run_channel x w held =
    record {
      width = x.width;
      height = x.height;
      across = x.across;
      down = x.down;
      weight = value_of w;
      held = held;
      position = 0;
      mark = false;
      clipped = 0;
    }

-- "A run's record carries the counts of its own channels only" (M-108): after how many steps channel c is held in a run of n steps. In a run that the
-- sheet's mode makes, as the sheet says. A run of the other mode is never made; its other numbers must be legal, and nothing is held in it.
abbrev pub held_in : Bool → Sheet → ℕ → ℕ → ℕ
held_in made S c n = cond made (hold_at S c) n

-- M-102's letter: "`m`, also the meaning when it is absent, is the start of document 01. `o` dequantises and transforms all blocks, then reorders once"
abbrev pub reorder_of : Option Letter → Reorder
reorder_of letter = chosen letter Each Once

-- the channels of the joint run, each with its own data weight and held count
abbrev pub joint_channels : Sheet → List Channel
joint_channels S =
    let h = S.header in
    let held : ℕ → ℕ = λ c. held_in h.joint S c (Hold.iterations_at h 0) in
    run_channel (channel_at S 0) (data_at h 0) (held 0) ∷ run_channel (channel_at S 1) (data_at h 1) (held 1) ∷ run_channel (channel_at S 2) (data_at h 2) (held 2) ∷ []

-- "Joint mode uses the first smoothing weight, the first iteration count and each channel's data weight."
unfoldable pub joint : Sheet → Run
joint S =
    let h = S.header in
    record {
      w = h.width;
      h = h.height;
      n = Hold.iterations_at h 0;
      smoothing = value_of (Sheets.smoothing_at h 0);
      reorder = reorder_of S.settings.start;
      count = h.channels;
      channels = joint_channels S;
    }

-- Channel c's own iteration count and smoothing weight.
abbrev pub iterations_at : Sheet → ℕ → ℕ
iterations_at S c = Hold.iterations_at S.header c

abbrev pub smoothing_at : Sheet → ℕ → Weight
smoothing_at S c = Sheets.smoothing_at S.header c

-- How many steps the runs of the channels before c have in separate mode.
unfoldable pub steps_before : Sheet → ℕ → ℕ
steps_before S zero = 0
steps_before S (suc c) = steps_before S c + iterations_at S c

-- How many blends all runs of a sheet make: one in each step of a run (document 02, M-103).
abbrev pub blend_count : Sheet → ℕ
blend_count S = cond S.header.joint (iterations_at S 0) (steps_before S S.header.channels)

-- "Separate mode, as `solve_cpu`: channel c alone, with its own smoothing weight and iteration count, but always the first of the three data
-- weights." A run of one channel, the first of three places; no call reads the other two. The letter is the sheet's in both modes.
unfoldable pub alone : Sheet → ℕ → Run
alone S c =
    let x = run_channel (channel_at S c) (data_at S.header 0) (held_in (not S.header.joint) S c (iterations_at S c)) in
    record {
      w = S.header.width;
      h = S.header.height;
      n = iterations_at S c;
      smoothing = value_of (smoothing_at S c);
      reorder = reorder_of S.settings.start;
      count = 1;
      channels = x ∷ x ∷ x ∷ [];
    }

-- ---- what each run is given: in joint mode all levels and tables, in separate mode the channel's

abbrev pub joint_given : Sheet → Levels → List ℕ → Given
joint_given S levels tables = given_of (joint S) levels tables

abbrev pub levels_for : Sheet → Levels → ℕ → Levels
levels_for S levels c = levels_part levels (levels_before (sheet_of (joint S)) c) (levels_before (sheet_of (joint S)) (suc c))

abbrev pub tables_for : List ℕ → ℕ → List ℕ
tables_for tables c = part tables (c * 64) (c * 64 + 64)

abbrev pub alone_given : Sheet → Levels → List ℕ → ℕ → Given
alone_given S levels tables c = given_of (alone S c) (levels_for S levels c) (tables_for tables c)

-- ---- what the runs leave, by what they are given

-- the number that channel c's run alone leaves (M-104)
abbrev pub alone_clipped : Sheet → Levels → List ℕ → ℕ → ℕ
alone_clipped S levels tables c = kept jobs (alone_given S levels tables c) (job_count (alone_given S levels tables c)) 0

-- in separate mode the runs of all channels
unfoldable pub separately : Sheet → Levels → List ℕ → Whole
separately S levels tables =
    record {
      buffers = joined S.header.channels (λ c. last (alone_given S levels tables c) 0);
      totals = join_upto (λ c. run_totals (alone_given S levels tables c)) S.header.channels;
      blown = among S.header.channels (λ c. run_blows (alone_given S levels tables c));
      channels = S.header.channels;
      clipped = alone_clipped S levels tables;
    }

-- both modes
unfoldable pub whole_of : Sheet → Levels → List ℕ → Whole
whole_of S levels tables = cond S.header.joint (run_of (joint_given S levels tables)) (separately S levels tables)

-- the planes of all channels, one after the other
abbrev pub planes : Sheet → Levels → List ℕ → List Float
planes S levels tables = (whole_of S levels tables).buffers.plane

-- "A blown channel ends the program with 10."
abbrev pub blows : Sheet → Levels → List ℕ → Bool
blows S levels tables = (whole_of S levels tables).blown

-- both totals of each blend, run after run and step after step (M-103)
abbrev pub totals_of : Sheet → Levels → List ℕ → List Float
totals_of S levels tables = (whole_of S levels tables).totals

-- how many coefficients the last project of channel c clipped, "Without steps it is 0" (M-104)
abbrev pub clipped_at : Sheet → Levels → List ℕ → ℕ → ℕ
clipped_at S levels tables = (whole_of S levels tables).clipped

-- ---- what solve promises

abbrev pub is_legal : Run → Bool
is_legal r = legal (sheet_of r) (places_of r)

-- The records of both modes are legal, whatever the mode: "spare fields must be legal".
unfoldable pub all_legal : Sheet → Bool
all_legal S = is_legal (joint S) && every S.header.channels (λ c. is_legal (alone S c))

-- 13 for any other sheet; 8 where the totals, of which t places are lent, have not two for each blend; then what start refuses, of the whole
-- buffers: 8, 4, then pair by pair 5 and 14
unfoldable pub solve_refusal : Sheet → Levels → List ℕ → List ℕ → ℕ → ℕ
solve_refusal S levels tables ls t =
    cond (all_legal S) (cond (eqb t (blend_count S * 2)) (start_refusal (joint_given S levels tables) (places_of (joint S)) ls) 8) 13

-- the number of channel c among those that `solve` gives
abbrev pub number_in : List ℕ → ℕ → ℕ
number_in ks c = get_or ks c 0

-- what the call `solve` answers, without the numbers
abbrev pub answered : Result Solved Refusal → Result Ran Refusal
answered (Ok (Done ks)) = Ok ran.Done
answered (Ok Blown) = Ok ran.Blown
answered (Err r) = Err r

-- and the numbers that it gives, one for each of three channels; none where it is blown or refuses
abbrev pub numbers_in : Result Solved Refusal → List ℕ
numbers_in (Ok (Done ks)) = ks
numbers_in (Ok Blown) = []
numbers_in (Err r) = []

-- How `solve` ends: refused, with the six and the totals as they were; blown; or done, with the six that the sheet's mode gives after 5N jobs, both
-- totals of each blend, and each channel's number ks.
abbrev pub SolveIs : Sheet → Levels → List ℕ → Loan → Result Ran Refusal → List ℕ → Loan → Type 0
SolveIs S levels tables L a ks L' =
    Ends (solve_refusal S levels tables (lengths all_six L.buffers) (length L.totals)) (whole_of S levels tables) L (ending_of a) (number_in ks) L'
