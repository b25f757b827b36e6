-- A sheet's record lent out as numbers and given back: what the whole run refuses and what it leaves are those of the sheet, in either form
-- of its weights.
use mathlib.Core.Path.{◌≡◌, refl, ap, ◌∙◌, fun_ext}
use mathlib.Core.Logic.{◌≢◌}
use Prim.Native.Nat.{ℕ, zero, suc, ◌+◌, ◌*◌}
use mathlib.Core.Bool.{Bool, true, false, cond, ◌&&◌}
use mathlib.Core.List.{List}
use lib.Dec.{T, eqb, leb}
use lib.ListN.{length}
use lib.IntN.{pos}
use lib.Ieee.{binary32, fits}
use lib.Ieee.Bits.{of_bits-to_bits, of_bits-fits}
use lib.Ieee.Fits.{of_int-fits}
use Rattle.start.specs.Coef.{Levels}
use Rattle.contents.specs.declared.Weight.{Weight}
use Rattle.contents.specs.declared.Weight.TheVariants as weight
use Rattle.contents.specs.Weights.{value_of}
use Rattle.contents.specs.declared.Sheet.{Sheet}
use Rattle.std.specs.Prelude.{Option, Some, None}
use Rattle.contents.specs.declared.Letter.{Letter}
use Rattle.contents.specs.declared.Letter.TheVariants as letter
use Rattle.fold.specs.Join.{join_upto}
use Rattle.calls.specs.Run.{Given, levels_before, levels_part, every, among}
use Rattle.calls.specs.Buffers.{joined}
use Rattle.calls.specs.Jobs.{kept}
use Rattle.demand.specs.Solver.{jobs}
use Rattle.calls.specs.Calls.{start_refusal, lengths, all_six}
use Rattle.record.specs.declared.Run.{Run}
use Rattle.record.specs.Model.{sheet_of, places_of, given_of}
use Rattle.rounds.specs.Whole.{job_count, run_blows, run_totals, Whole, last, run_of, Ending, Loan, Ends}
use Rattle.solve.specs.Solve.{reorder_of, joint, alone, iterations_at, steps_before, blend_count, tables_for, separately, whole_of, is_legal, all_legal, solve_refusal, number_in}
use Rattle.contents.specs.Hold.{hold_at}
use Rattle.contents.specs.Sheets.{smoothing_at, data_at}
use Rattle.solve.proofs.Held.{three_held}
use Rattle.by_numbers.specs.Sheets.{choice_number, numbers_of, weight_bits}
use Rattle.by_numbers.specs.Whole.{choice_from, sheet_of_numbers, sheet_refusal, numbers_refusal, ending_number, SolveNumbers}

value_fits : (w : Weight) → T (fits binary32 (value_of w))
unfolding value_of
value_fits (weight.Bits n) = of_bits-fits binary32 n
value_fits (weight.Whole n) = of_int-fits binary32 (pos n)

same_value : (w : Weight) → value_of (weight.Bits (weight_bits w)) ≡ value_of w
unfolding value_of
same_value w = of_bits-to_bits binary32 (value_of w) (value_fits w)

same_choice : (b d : Bool) (x y z : Weight)
    → value_of (cond b (weight.Bits (weight_bits x)) (cond d (weight.Bits (weight_bits y)) (weight.Bits (weight_bits z)))) ≡ value_of (cond b x (cond d y z))
same_choice true d x y z = same_value x
same_choice false true x y z = same_value y
same_choice false false x y z = same_value z

same_mode : (b : Bool) → eqb (cond b 1 0) 1 ≡ b
same_mode true = refl
same_mode false = refl

-- the letter of line A
same_letter : (c : Option Letter) → reorder_of (choice_from (choice_number c)) ≡ reorder_of c
same_letter None = refl
same_letter (Some letter.First) = refl
same_letter (Some letter.Second) = refl

a_letter : (c : Option Letter) → leb (choice_number c) 1 ≡ true
a_letter None = refl
a_letter (Some letter.First) = refl
a_letter (Some letter.Second) = refl

both_letters : (b : Bool) (c : Option Letter) → (leb (cond b 1 0) 1 && leb (choice_number c) 1) ≡ true
both_letters true c = a_letter c
both_letters false c = a_letter c

-- ---- what a sheet's whole run is made of: its mode, its channel count and its runs
module _ (levels : Levels) (tables : List ℕ) where
  abbrev own_given : Run → (ℕ → Run) → ℕ → Given
  own_given J A c = given_of (A c) (levels_part levels (levels_before (sheet_of J) c) (levels_before (sheet_of J) (suc c))) (tables_for tables c)

  abbrev refusal_by : List ℕ → ℕ → ℕ → ℕ → Run → (ℕ → Run) → ℕ
  refusal_by ls t blends n J A =
      cond (is_legal J && every n (λ c. is_legal (A c))) (cond (eqb t (blends * 2)) (start_refusal (given_of J levels tables) (places_of J) ls) 8) 13

  abbrev lent_by : List ℕ → ℕ → ℕ → ℕ → ℕ → Run → (ℕ → Run) → ℕ
  lent_by ls t m blends n J A = cond (is_legal J && every n (λ c. is_legal (A c))) (cond (eqb m n) (refusal_by ls t blends n J A) 8) 13

  abbrev whole_by : Bool → ℕ → Run → (ℕ → Run) → Whole
  whole_by b n J A =
      cond b (run_of (given_of J levels tables))
      (record {
        buffers = joined n (λ c. last (own_given J A c) 0);
        totals = join_upto (λ c. run_totals (own_given J A c)) n;
        blown = among n (λ c. run_blows (own_given J A c));
        channels = n;
        clipped = λ c. kept jobs (own_given J A c) (job_count (own_given J A c)) 0;
      })

module _ (S : Sheet) where
  abbrev S' : Sheet
  S' = sheet_of_numbers (numbers_of S)

  same_count : S'.header.channels ≡ S.header.channels
  unfolding sheet_of_numbers numbers_of
  same_count = refl

  mode_kept : S'.header.joint ≡ S.header.joint
  unfolding sheet_of_numbers numbers_of
  mode_kept = same_mode S.header.joint

  same_steps : (c : ℕ) → steps_before S' c ≡ steps_before S c
  unfolding sheet_of_numbers numbers_of steps_before
  same_steps zero = refl
  same_steps (suc c) = ap (λ (n : ℕ). n + iterations_at S c) (same_steps c)

  same_blends : blend_count S' ≡ blend_count S
  unfolding sheet_of_numbers numbers_of
  same_blends = λ i. cond (mode_kept i) (iterations_at S 0) (same_steps S.header.channels i)

  -- each channel is held after as many steps
  same_held : (c : ℕ) → hold_at S' c ≡ hold_at S c
  unfolding sheet_of_numbers numbers_of hold_at
  same_held c = three_held S c

  same_joint : joint S' ≡ joint S
  unfolding sheet_of_numbers numbers_of joint
  same_joint = rw (same_held 0, same_held 1, same_held 2, same_mode S.header.joint, same_letter S.settings.start, same_value (smoothing_at S.header 0), same_value (data_at S.header 0), same_value (data_at S.header 1), same_value (data_at S.header 2))

  same_alone : (c : ℕ) → alone S' c ≡ alone S c
  unfolding sheet_of_numbers numbers_of alone
  same_alone c =
      rw (same_held c, same_mode S.header.joint, same_letter S.settings.start, same_value (data_at S.header 0), same_choice (eqb c 0) (eqb c 1) (smoothing_at S.header 0) (smoothing_at S.header 1) (smoothing_at S.header 2))

  module _ (levels : Levels) (tables : List ℕ) where
    pub same_refusal : (ls : List ℕ) (t : ℕ) → solve_refusal S' levels tables ls t ≡ solve_refusal S levels tables ls t
    unfolding solve_refusal all_legal
    same_refusal ls t = λ i. refusal_by levels tables ls t (same_blends i) (same_count i) (same_joint i) (fun_ext same_alone i)

    pub same_whole : whole_of S' levels tables ≡ whole_of S levels tables
    unfolding whole_of separately
    same_whole = λ i. whole_by levels tables (mode_kept i) (same_count i) (same_joint i) (fun_ext same_alone i)

    same_sheet_refusal : (ls : List ℕ) (t m : ℕ) → sheet_refusal S' levels tables ls t m ≡ sheet_refusal S levels tables ls t m
    unfolding sheet_refusal solve_refusal all_legal
    same_sheet_refusal ls t m = λ i. lent_by levels tables ls t m (same_blends i) (same_count i) (same_joint i) (fun_ext same_alone i)

    same_numbers : (ls : List ℕ) (t m : ℕ) → numbers_refusal (numbers_of S) levels tables ls t m ≡ sheet_refusal S levels tables ls t m
    unfolding numbers_refusal numbers_of
    same_numbers ls t m = ap (λ (b : Bool). cond b (sheet_refusal S' levels tables ls t m) 13) (both_letters S.header.joint S.settings.start) ∙ same_sheet_refusal ls t m

    -- the exported call, lent the numbers of a sheet, does what `solve` does of the sheet
    pub as_of_sheet : (L : Loan) (ks : List ℕ) (k : ℕ) (L' : Loan) (ks' : List ℕ)
        → SolveNumbers (numbers_of S) levels tables L ks k L' ks'
        ≡ ((a : Ending) × (k ≡ ending_number a)
        × Ends (sheet_refusal S levels tables (lengths all_six L.buffers) (length L.totals) (length ks)) (whole_of S levels tables) L a (number_in ks') L' × (k ≢ 0 → ks' ≡ ks))
    as_of_sheet L ks k L' ks' =
        λ i. (a : Ending) × (k ≡ ending_number a)
        × Ends (same_numbers (lengths all_six L.buffers) (length L.totals) (length ks) i) (same_whole i) L a (number_in ks') L' × (k ≢ 0 → ks' ≡ ks)
