-- The exported whole run and picture: a sheet's record given back as the numbers that reading lent out, and what `solve` and `finish` give, with the
-- answer as a number.
use Rattle.std.specs.Prelude.{ℕ, ◌+◌, ◌≡◌, ◌≢◌, Bool, cond, ◌&&◌, List, [], ◌∷◌, Option, Some, length, get_or, eqb, leb, Float}
use Rattle.start.specs.Coef.{Levels}
use Rattle.contents.specs.declared.Weight.TheVariants as weight
use Rattle.contents.specs.declared.Sheet.{Sheet}
use Rattle.contents.specs.declared.Letter.{Letter}
use Rattle.contents.specs.Letters.{letter_from}
use Rattle.contents.specs.declared.Settings.{Settings}
use Rattle.contents.specs.declared.Header.{Header}
use Rattle.contents.specs.declared.Channel.{Channel}
use Rattle.calls.specs.Calls.{lengths, all_six}
use Rattle.rounds.specs.Whole as ending
use Rattle.rounds.specs.Whole.{Ending, Loan, Ends}
use Rattle.solve.specs.Solve.{all_legal, solve_refusal, whole_of, number_in}
use Rattle.by_numbers.specs.Sheets.{record_count, numbers_of}
use Rattle.picture.specs.Finish.{Verdict, done, refused, Finished, finishing, rounding_from}

-- ---- the record

-- The sheet of a record's numbers, in the order of `numbers_of`: 1 is joint mode, a weight is its f32's bits, 1 is the rounding `n` and the start `o`, and
-- the held counts are said.
abbrev pub header_from : List ℕ → Header
header_from ns =
    record {
      width = get_or ns 0 0;
      height = get_or ns 1 0;
      picture_width = get_or ns 2 0;
      picture_height = get_or ns 3 0;
      channels = get_or ns 4 0;
      joint = eqb (get_or ns 5 0) 1;
      iterations = get_or ns 6 0 ∷ get_or ns 7 0 ∷ get_or ns 8 0 ∷ [];
      smoothing = weight.Bits (get_or ns 9 0) ∷ weight.Bits (get_or ns 10 0) ∷ weight.Bits (get_or ns 11 0) ∷ [];
      data_weights = weight.Bits (get_or ns 12 0) ∷ weight.Bits (get_or ns 13 0) ∷ weight.Bits (get_or ns 14 0) ∷ [];
    }

-- own sides and factors from place i on
abbrev pub channel_from : List ℕ → ℕ → Channel
channel_from ns i =
    record { width = get_or ns i 0; height = get_or ns (i + 1) 0; across = get_or ns (i + 2) 0; down = get_or ns (i + 3) 0 }

abbrev pub choice_from : ℕ → Option Letter
choice_from n = Some (letter_from n)

abbrev pub settings_from : List ℕ → Settings
settings_from ns =
    record { rounding = choice_from (get_or ns 27 0); start = choice_from (get_or ns 28 0); hold = Some (get_or ns 29 0 ∷ get_or ns 30 0 ∷ get_or ns 31 0 ∷ []) }

unfoldable pub sheet_of_numbers : List ℕ → Sheet
sheet_of_numbers ns =
    record { header = header_from ns; settings = settings_from ns; channels = channel_from ns 15 ∷ channel_from ns 19 ∷ channel_from ns 23 ∷ [] }

-- ---- solve

-- the mode's and line `A`'s letter are there: each number is 0 or 1
abbrev pub letters_ok : List ℕ → Bool
letters_ok ns = leb (get_or ns 5 0) 1 && leb (get_or ns 28 0) 1

-- what `solve` refuses, and among its lengths (8) that of the buffer for the channels' numbers, one for each
unfoldable pub sheet_refusal : Sheet → Levels → List ℕ → List ℕ → ℕ → ℕ → ℕ
sheet_refusal S levels tables ls t m = cond (all_legal S) (cond (eqb m S.header.channels) (solve_refusal S levels tables ls t) 8) 13

-- "a lent buffer's length differs" (8), first: with fewer or more numbers there is no record; then 13 for a mode or a letter of line `A` that is neither 0 nor 1, and then what the sheet's run refuses
unfoldable pub numbers_refusal : List ℕ → Levels → List ℕ → List ℕ → ℕ → ℕ → ℕ
numbers_refusal ns levels tables ls t m =
    cond (eqb (length ns) record_count) (cond (letters_ok ns) (sheet_refusal (sheet_of_numbers ns) levels tables ls t m) 13) 8

-- how a whole run ends, as a number: the refusal's of the table, 0 for done, 255 where a channel is blown
abbrev pub ending_number : Ending → ℕ
ending_number (ending.refused n) = n
ending_number ending.done = 0
ending_number ending.blown = 255

-- `SolveIs` of the record's sheet, by the answer's number k. The buffer ks has each channel's number afterwards, and is as it was where the answer is not done.
abbrev pub SolveNumbers : List ℕ → Levels → List ℕ → Loan → List ℕ → ℕ → Loan → List ℕ → Type 0
SolveNumbers ns levels tables L ks k L' ks' =
    (a : Ending) × (k ≡ ending_number a)
    × Ends (numbers_refusal ns levels tables (lengths all_six L.buffers) (length L.totals) (length ks)) (whole_of (sheet_of_numbers ns) levels tables) L a (number_in ks') L'
    × (k ≢ 0 → ks' ≡ ks)

-- the same of a sheet: it refuses what the sheet's run refuses, and leaves what that leaves
abbrev pub SolvesSheet : Sheet → Levels → List ℕ → Loan → List ℕ → ℕ → Loan → List ℕ → Type 0
SolvesSheet S levels tables L ks k L' ks' =
    (a : Ending) × (k ≡ ending_number a)
    × Ends (sheet_refusal S levels tables (lengths all_six L.buffers) (length L.totals) (length ks)) (whole_of S levels tables) L a (number_in ks') L'
    × (k ≢ 0 → ks' ≡ ks)

-- lent the numbers of a sheet, in either form of its weights, the call does what it does of the sheet
abbrev pub NumbersSolveSheet : Type 0
NumbersSolveSheet =
    (S : Sheet) (levels : Levels) (tables : List ℕ) (L : Loan) (ks : List ℕ) (k : ℕ) (L' : Loan) (ks' : List ℕ)
    → SolveNumbers (numbers_of S) levels tables L ks k L' ks' → SolvesSheet S levels tables L ks k L' ks'

-- ---- finish

abbrev pub verdict_number : Verdict → ℕ
verdict_number done = 0
verdict_number (refused n) = n

-- the call by a rounding's number, 0 for `t` and 1 for `n`: 13 where it is neither 0 nor 1, before anything else
unfoldable pub finishing_by : ℕ → ℕ → ℕ → ℕ → ℕ → ℕ → List Float → List ℕ → Finished
unfolding finishing
finishing_by n w h width height channels planes rgb =
    cond (leb n 1) (finishing (rounding_from n) w h width height channels planes rgb) (record { answer = refused 13; bytes = rgb })

-- what `finish` answers and the bytes that it leaves
pub record FinishNumbers (n w h width height channels : ℕ) (planes : List Float) (rgb : List ℕ) (k : ℕ) (rgb' : List ℕ) : Type 0 where
  pub number : k ≡ verdict_number (finishing_by n w h width height channels planes rgb).answer
  pub bytes : rgb' ≡ (finishing_by n w h width height channels planes rgb).bytes
