-- Eight values copied as a part are the eight stores of `copy8`.
use mathlib.Core.Path.{◌≡◌, ◌∙◌, sym}
use mathlib.Core.Bool.{Bool, true, false, not}
use mathlib.Core.List.{List}
use Prim.Native.Nat.{ℕ, ◌+◌, ◌-◌, ◌<◌, ◌≤◌}
use native.Mathlib.Omega.{arith}
use lib.Dec.{T, ltb, ltb→lt, nltb→le}
use lib.ListN.{length, get_or}
use lib.Seq.{ext_get_or}
use lib.Ieee.{Float, nan}
use Rattle.fold.specs.Part.{part, splice}
use Rattle.fold.proofs.Parts.{part_at, part_length, splice-length, splice_after, splice_before, splice_in}
use Rattle.fold.proofs.Scatter.{sent_at, sent_length, sent_other}
use Rattle.float.specs.Names.{val}
use Rattle.utils.specs.Blocks.{copy8}

module _ (input output : List Float) (from to : ℕ) (h : from + 8 ≤ length input) (k : to + 8 ≤ length output) where
  -- the value that place p gets
  abbrev pub row : List Float
  row = part input from (from + 8)

  row_length : length row ≡ to + 8 - to
  row_length = part_length input from (from + 8) (omega arith) h ∙ omega arith

  before : (p : ℕ) → p < to → get_or (splice output to (to + 8) row) p nan ≡ get_or (copy8 input from to output) p nan
  before p l =
      splice_before output to (to + 8) (omega arith) k row row_length p nan l
      ∙ sym (sent_other nan (λ j. val input (from + j)) (λ j. to + j) 8 output p (λ i m e. omega arith))

  in_row : (j : ℕ) → j < 8 → get_or (splice output to (to + 8) row) (to + j) nan ≡ get_or (copy8 input from to output) (to + j) nan
  in_row j l =
      splice_in output to (to + 8) (omega arith) k row row_length j nan (omega arith) ∙ part_at input from (from + 8) (omega arith) h j nan (omega arith)
      ∙ sym (sent_at nan (λ i. val input (from + i)) (λ i. to + i) 8 output (λ i m. omega arith) (λ i m p q e. omega arith) j l)

  after : (j : ℕ) → get_or (splice output to (to + 8) row) (to + 8 + j) nan ≡ get_or (copy8 input from to output) (to + 8 + j) nan
  after j =
      splice_after output to (to + 8) (omega arith) k row row_length j nan
      ∙ sym (sent_other nan (λ i. val input (from + i)) (λ i. to + i) 8 output (to + 8 + j) (λ i m e. omega arith))

  place : (p : ℕ) → get_or (splice output to (to + 8) row) p nan ≡ get_or (copy8 input from to output) p nan
  place p = go (ltb p to) (ltb p (to + 8)) (ltb→lt p to) (nltb→le p to) (ltb→lt p (to + 8)) (nltb→le p (to + 8))
    where
      go : (a b : Bool) → (T a → p < to) → (T (not a) → to ≤ p) → (T b → p < to + 8) → (T (not b) → to + 8 ≤ p)
          → get_or (splice output to (to + 8) row) p nan ≡ get_or (copy8 input from to output) p nan
      go true b l m q r = before p (l tt)
      go false true l m q r =
          let a = m tt in let b = q tt in let e : to + (p - to) ≡ p = omega arith in rw e at (in_row (p - to) (omega arith))
      go false false l m q r =
          let b = r tt in let e : to + 8 + (p - (to + 8)) ≡ p = omega arith in rw e at (after (p - (to + 8)))

  pub copied : splice output to (to + 8) row ≡ copy8 input from to output
  copied =
      ext_get_or nan (splice output to (to + 8) row) (copy8 input from to output)
      (splice-length output to (to + 8) (omega arith) k row row_length ∙ sym (sent_length nan (λ j. val input (from + j)) (λ j. to + j) 8 output))
      (λ p l. place p)
