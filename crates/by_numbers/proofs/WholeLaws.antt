-- The whole run by a record's numbers: each way that the exported call ends.
use mathlib.Core.Path.{◌≡◌, refl, sym, ap, ◌∙◌, subst}
use mathlib.Core.Logic.{◌≢◌}
use Prim.Native.Nat.{ℕ, zero, suc, ◌≤◌, ◌<◌}
use mathlib.Core.Bool.{Bool, true, false, cond}
use mathlib.Core.List.{List}
use native.Mathlib.Omega.{arith}
use lib.ListN.{length, take}
use lib.Seq.{get_or-take}
use lib.Dec.{eqb}
use lib.Ieee.{Float}
use borrow.Author.Tests.{eq-eqb, ne_eqb, le-leb, lt-leb}
use Rattle.start.specs.Coef.{Levels}
use Rattle.calls.specs.Calls.{lengths, all_six}
use Rattle.std.specs.Prelude.{Result, Ok, Err}
use Rattle.refusal.specs.declared.Refusal.{Refusal}
use Rattle.refusal.specs.Refusal.{answer_number}
use Rattle.rounds.specs.declared.Ran.{Ran}
use Rattle.contents.specs.declared.Sheet.{Sheet}
use Rattle.start.specs.Buffers.{Buffers}
use Rattle.rounds.specs.Whole as ending
use Rattle.rounds.specs.Whole.{Ending, ending_of, Whole, Loan, loan, six, Ended, Ends}
use Rattle.rounds.proofs.Ends.{renumber}
use Rattle.solve.specs.Solve.{all_legal, solve_refusal, whole_of, number_in, SolveIs}
use Rattle.solve.proofs.Laws.{whole_channels}
use Rattle.picture.specs.declared.Rounding.{Rounding}
use Rattle.picture.specs.Finish.{Finished, verdict, finishing, rounding_from}
use Rattle.by_numbers.specs.Sheets.{record_count}
use Rattle.by_numbers.specs.Whole.{sheet_of_numbers, letters_ok, sheet_refusal, numbers_refusal, ending_number, SolveNumbers, verdict_number, finishing_by, FinishNumbers}

-- an answer that is not done has left the numbers free
not_done_ends : (n : ℕ) (w : Whole) (L : Loan) (a : Ending) (k k' : ℕ → ℕ) (L' : Loan) → ending_number a ≢ 0 → Ends n w L a k L' → Ends n w L a k' L'
not_done_ends (suc n) w L a k k' L' f e = e
not_done_ends zero w L a k k' L' f e = go w.blown e
  where
    go : (b : Bool) → Ended b w L a k L' → Ended b w L a k' L'
    go true e = e
    go false e = absurd (f (ap ending_number e.0))

module _ (ns : List ℕ) (levels : Levels) (tables : List ℕ) (L : Loan) (ks : List ℕ) where
  abbrev S : Sheet
  S = sheet_of_numbers ns

  abbrev R : ℕ
  R = solve_refusal S levels tables (lengths all_six L.buffers) (length L.totals)

  -- the sheet's refusal, with that of the numbers' buffer
  abbrev Q : ℕ
  Q = sheet_refusal S levels tables (lengths all_six L.buffers) (length L.totals) (length ks)

  -- how the call ends, by its refusal
  abbrev End : ℕ → ℕ → Loan → List ℕ → Type 0
  End n k L' ks' = (a : Ending) × (k ≡ ending_number a) × Ends n (whole_of S levels tables) L a (number_in ks') L' × (k ≢ 0 → ks' ≡ ks)

  refuses : (n : ℕ) → End (suc n) (suc n) L ks
  refuses n = (ending.refused (suc n), refl, (refl, refl), λ z. refl)

  pub no_record : (length ns ≡ record_count → ⊥) → SolveNumbers ns levels tables L ks 8 L ks
  unfolding numbers_refusal
  no_record h = subst (λ (b : Bool). End (cond b (cond (letters_ok ns) Q 13) 8) 8 L ks) (sym (ne_eqb (length ns) record_count h)) (refuses 7)

  module _ (whole : length ns ≡ record_count) where
    with-record : (k : ℕ) (L' : Loan) (ks' : List ℕ) → End (cond (letters_ok ns) Q 13) k L' ks' → SolveNumbers ns levels tables L ks k L' ks'
    unfolding numbers_refusal
    with-record k L' ks' e = subst (λ (b : Bool). End (cond b (cond (letters_ok ns) Q 13) 8) k L' ks') (sym (eq-eqb (length ns) record_count whole)) e

    pub no_letters : letters_ok ns ≡ false → SolveNumbers ns levels tables L ks 13 L ks
    no_letters m = with-record 13 L ks (subst (λ (b : Bool). End (cond b Q 13) 13 L ks) (sym m) (refuses 12))

    module _ (letters : letters_ok ns ≡ true) where
      with_letters : (k : ℕ) (L' : Loan) (ks' : List ℕ) → End (cond (all_legal S) (cond (eqb (length ks) S.header.channels) R 8) 13) k L' ks'
          → SolveNumbers ns levels tables L ks k L' ks'
      unfolding sheet_refusal
      with_letters k L' ks' e = with-record k L' ks' (subst (λ (b : Bool). End (cond b Q 13) k L' ks') (sym letters) e)

      pub not_legal : all_legal S ≡ false → SolveNumbers ns levels tables L ks 13 L ks
      not_legal m = with_letters 13 L ks (subst (λ (b : Bool). End (cond b (cond (eqb (length ks) S.header.channels) R 8) 13) 13 L ks) (sym m) (refuses 12))

      module _ (legal : all_legal S ≡ true) where
        with_legal : (k : ℕ) (L' : Loan) (ks' : List ℕ) → End (cond (eqb (length ks) S.header.channels) R 8) k L' ks' → SolveNumbers ns levels tables L ks k L' ks'
        with_legal k L' ks' e = with_letters k L' ks' (subst (λ (b : Bool). End (cond b (cond (eqb (length ks) S.header.channels) R 8) 13) k L' ks') (sym legal) e)

        pub no_room : (length ks ≡ S.header.channels → ⊥) → SolveNumbers ns levels tables L ks 8 L ks
        no_room f = with_legal 8 L ks (subst (λ (b : Bool). End (cond b R 8) 8 L ks) (sym (ne_eqb (length ks) S.header.channels f)) (refuses 7))

        module _ (room : length ks ≡ S.header.channels) (a : Result Ran Refusal) (xs : List ℕ) (L' : Loan) (said : SolveIs S levels tables L a xs L') where
          with_room : (k : ℕ) (ks' : List ℕ) → End R k L' ks' → SolveNumbers ns levels tables L ks k L' ks'
          with_room k ks' e = with_legal k L' ks' (subst (λ (b : Bool). End (cond b R 8) k L' ks') (sym (eq-eqb (length ks) S.header.channels room)) e)

          pub other : (k : ℕ) → k ≡ ending_number (ending_of a) → k ≢ 0 → SolveNumbers ns levels tables L ks k L' ks
          other k e f =
              with_room k ks
              (ending_of a, e, not_done_ends R (whole_of S levels tables) L (ending_of a) (number_in xs) (number_in ks) L' (λ z. f (e ∙ z)) said, λ z. refl)

          pub solved : 0 ≡ ending_number (ending_of a) → (ks' : List ℕ) → ks' ≡ take (length ks) xs → SolveNumbers ns levels tables L ks 0 L' ks'
          solved e ks' is =
              with_room 0 ks' (
                ending_of a,
                e,
                renumber R (whole_of S levels tables) L (ending_of a) (number_in xs) (number_in ks') L'
                    (λ c l. ap (λ (l : List ℕ). number_in l c) is ∙ get_or-take (length ks) xs c 0 (omega (arith, room, whole_channels S levels tables))) said,
                λ f. absurd (f refl),
              )

-- with each of the six buffers as its owner has it
pub solve_lent : (ns : List ℕ) (levels : Levels) (tables : List ℕ) (L : Loan) (ks : List ℕ) (k : ℕ) (B' : Buffers) (T' : List Float) (ks' : List ℕ)
    → SolveNumbers ns levels tables L ks k (loan B' T') ks' → {plane prior gradient across down saved : List Float}
    → plane ≡ B'.plane → prior ≡ B'.prior → gradient ≡ B'.gradient → across ≡ B'.across → down ≡ B'.down → saved ≡ B'.saved
    → SolveNumbers ns levels tables L ks k (loan (six plane prior gradient across down saved) T') ks'
solve_lent ns levels tables L ks k B' T' ks' h p q r s t u =
    subst (λ (z : Buffers). SolveNumbers ns levels tables L ks k (loan z T') ks')
    (λ i. record { plane = sym p i; prior = sym q i; gradient = sym r i; across = sym s i; down = sym t i; saved = sym u i }) h

-- ---- the picture

module _ (n w h width height channels : ℕ) (planes : List Float) (rgb : List ℕ) where
  pub no_rounding : 1 < n → FinishNumbers n w h width height channels planes rgb 13 rgb
  unfolding finishing_by
  no_rounding l = record { number = rw (lt-leb n 1 l); bytes = rw (lt-leb n 1 l) }

  by_letter : n ≤ 1 → finishing (rounding_from n) w h width height channels planes rgb ≡ finishing_by n w h width height channels planes rgb
  unfolding finishing_by
  by_letter l = rw (le-leb n 1 l)

  -- an answer's number is its verdict's
  same_number : (r : Result Unit Refusal) → answer_number r ≡ verdict_number (verdict r)
  same_number (Ok x) = refl
  same_number (Err e) = refl

  pub finished : n ≤ 1 → (x : Rounding) → x ≡ rounding_from n → (rgb' : List ℕ) (r : Result Unit Refusal) (k : ℕ)
      → ◌≡◌ {A = Finished} (record { answer = verdict r; bytes = rgb' }) (finishing x w h width height channels planes rgb) → k ≡ answer_number r
      → FinishNumbers n w h width height channels planes rgb k rgb'
  finished l x q rgb' r k e p =
      let f = e ∙ ap (λ (x : Rounding). finishing x w h width height channels planes rgb) q ∙ by_letter l in
      record { number = p ∙ same_number r ∙ ap (λ (o : Finished). verdict_number o.answer) f; bytes = ap (λ (o : Finished). o.bytes) f }
