-- A record whose nine numbers are mild is solved without 255.
use mathlib.Core.Path.{◌≡◌, refl, sym, ap, ◌∙◌}
use mathlib.Core.Logic.{◌≢◌}
use mathlib.Core.Bool.{Bool, true, false, cond, not, ◌&&◌}
use mathlib.Core.List.{List, [], ◌∷◌}
use Prim.Native.Nat.{ℕ, zero, suc, ◌*◌, ◌≤◌}
use native.Mathlib.Omega.{arith}
use lib.Dec.{eqb}
use lib.IntN.{ℤ}
use lib.ListN.{length}
use lib.Signed.{le_z}
use Rattle.std.specs.Prelude.{slice_index}
use Rattle.start.specs.Coef.{Levels}
use Rattle.contents.specs.declared.Sheet.{Sheet}
use Rattle.contents.specs.Weights.{value_of}
use Rattle.calls.specs.Run.{Given, Place}
use Rattle.calls.specs.Calls.{Tests, first, test, all, table_ok, level_ok, pair_faults, levels_fault, buffers_long, values_long, lengths, all_six, start_refusal}
use Rattle.calls.specs.Run as Model
use Rattle.calls.proofs.Tests.{first_one}
use Rattle.record.specs.Model.{places_of}
use Rattle.rounds.specs.Whole.{Loan, Ended, Ends}
use Rattle.solve.specs.Solve.{joint, joint_given, all_legal, blend_count, blows, whole_of, number_in, solve_refusal}
use Rattle.mild.specs.Mild.{most_steps}
use Rattle.unblown.specs.Sheet.{Light, MildSheet}
use Rattle.unblown.proofs.Unblown.{taken_never}
use Rattle.by_numbers.specs.Sheets.{record_count}
use Rattle.by_numbers.specs.Whole.{sheet_of_numbers, letters_ok, sheet_refusal, numbers_refusal, ending_number, SolveNumbers}
use Rattle.smoother.specs.Mild.{MildNumbers}

-- ---- no refusal is 255

pairs_not : (ls hs : List ℤ) → first (pair_faults ls hs) ≢ 255
pairs_not [] hs e = omega (arith, e)
pairs_not (l ∷ ls) [] e = omega (arith, e)
pairs_not (l ∷ ls) (h ∷ hs) e = go (not (level_ok l && level_ok h)) (not (le_z l h)) (pair_faults ls hs) (pairs_not ls hs) e
  where
    go : (b d : Bool) (ts : Tests) → first ts ≢ 255 → first (first (test 5 b ∷ test 14 d ∷ []) ∷ ts) ≢ 255
    go true d ts n e = omega (arith, e)
    go false true ts n e = omega (arith, e)
    go false false ts n e = n e

start_not : (G : Given) (ps : List Place) (ls : List ℕ) → start_refusal G ps ls ≢ 255
unfolding start_refusal
start_not G ps ls =
    go (not (Model.legal G.sheet ps)) (not (buffers_long G ls && values_long G)) (not (all table_ok G.tables)) (levels_fault G.levels) (pairs_not G.levels.lows G.levels.highs)
  where
    go : (a b d : Bool) (n : ℕ) → n ≢ 255 → first (test 13 a ∷ test 8 b ∷ test 4 d ∷ n ∷ []) ≢ 255
    go true b d n k e = omega (arith, e)
    go false true d n k e = omega (arith, e)
    go false false true n k e = omega (arith, e)
    go false false false n k e = k (sym (first_one n) ∙ e)

either_not : (b : Bool) (m n : ℕ) → m ≢ 255 → n ≢ 255 → cond b m n ≢ 255
either_not true m n f g = f
either_not false m n f g = g

numbers_not : (ns : List ℕ) (levels : Levels) (tables ls : List ℕ) (t m : ℕ) → numbers_refusal ns levels tables ls t m ≢ 255
unfolding numbers_refusal sheet_refusal solve_refusal
numbers_not ns levels tables ls t m =
    let S : Sheet = sheet_of_numbers ns in
    let start : start_refusal (joint_given S levels tables) (places_of (joint S)) ls ≢ 255 = start_not (joint_given S levels tables) (places_of (joint S)) ls in
    let six : 8 ≢ 255 = λ e. omega (arith, e) in
    let record_not : 13 ≢ 255 = λ e. omega (arith, e) in
    either_not (eqb (length ns) record_count) _ 8
    (either_not (letters_ok ns) _ 13
    (either_not (all_legal S) _ 13
    (either_not (eqb m S.header.channels) _ 8
    (either_not (all_legal S) _ 13 (either_not (eqb t (blend_count S * 2)) _ 8 start six) record_not) six) record_not) record_not) six

-- what is not refused by the numbers is not refused by the sheet
passed : (a b d e : Bool) (n : ℕ) → cond a (cond b (cond d (cond e n 8) 13) 13) 8 ≡ 0 → n ≡ 0
passed true true true true n z = z
passed true true true false n z = absurd (omega (arith, z))
passed true true false e n z = absurd (omega (arith, z))
passed true false d e n z = absurd (omega (arith, z))
passed false b d e n z = absurd (omega (arith, z))

taken : (ns : List ℕ) (levels : Levels) (tables ls : List ℕ) (t m : ℕ) → numbers_refusal ns levels tables ls t m ≡ 0 → solve_refusal (sheet_of_numbers ns) levels tables ls t ≡ 0
unfolding numbers_refusal sheet_refusal
taken ns levels tables ls t m =
    let S : Sheet = sheet_of_numbers ns in
    passed (eqb (length ns) record_count) (letters_ok ns) (all_legal S) (eqb m S.header.channels) (solve_refusal S levels tables ls t)

-- ---- the sheet of mild numbers is mild

-- what holds of each of three values holds of the one that is chosen
one_of : {A : Type 0} (P : A → Type 0) {x y z : A} (first second : Bool) → P x → P y → P z → P (cond first x (cond second y z))
one_of P true d p q r = p
one_of P false true p q r = q
one_of P false false p q r = r

module _ (ns : List ℕ) (m : MildNumbers ns) where
  abbrev S : Sheet
  S = sheet_of_numbers ns

  mild_sheet : MildSheet (sheet_of_numbers ns)
  unfolding sheet_of_numbers value_of
  mild_sheet =
      record {
        iterations = λ c. one_of (λ (n : ℕ). n ≤ most_steps) (eqb c 0) (eqb c 1) (steps 6 (omega arith) (omega arith)) (steps 7 (omega arith) (omega arith)) (steps 8 (omega arith) (omega arith));
        smoothing = λ c. one_of Light (eqb c 0) (eqb c 1) (m.weights 9 (omega arith) (omega arith)) (m.weights 10 (omega arith) (omega arith)) (m.weights 11 (omega arith) (omega arith));
        data_weights = λ c. one_of Light (eqb c 0) (eqb c 1) (m.weights 12 (omega arith) (omega arith)) (m.weights 13 (omega arith) (omega arith)) (m.weights 14 (omega arith) (omega arith));
      }
    where
      steps : (i : ℕ) → 6 ≤ i → i ≤ 8 → slice_index ns i ≤ most_steps
      steps = m.iterations

  pub mild_solved : (levels : Levels) (tables : List ℕ) (L : Loan) (ks : List ℕ) (k : ℕ) (L' : Loan) (ks' : List ℕ) → SolveNumbers ns levels tables L ks k L' ks' → k ≢ 255
  mild_solved levels tables L ks k L' ks' s is =
      go (numbers_refusal ns levels tables (lengths all_six L.buffers) (length L.totals) (length ks)) refl s.2
    where
      ended : (b : Bool) → b ≡ false → Ended b (whole_of S levels tables) L s.0 (number_in ks') L' → ⊥
      ended true f r = let z : ◌≡◌ {A = ℕ} 0 1 = cc in omega arith
      ended false f r = let z : ◌≡◌ {A = ℕ} 255 0 = sym is ∙ s.1 ∙ ap ending_number r.0 in omega arith

      go : (n : ℕ) → numbers_refusal ns levels tables (lengths all_six L.buffers) (length L.totals) (length ks) ≡ n
          → Ends n (whole_of S levels tables) L s.0 (number_in ks') L' → ⊥
      go (suc n) z r = numbers_not ns levels tables (lengths all_six L.buffers) (length L.totals) (length ks) (z ∙ sym (ap ending_number r.0) ∙ sym s.1 ∙ is)
      go zero z r =
          ended (blows S levels tables)
          (taken_never S mild_sheet levels tables L (taken ns levels tables (lengths all_six L.buffers) (length L.totals) (length ks) z)) r
