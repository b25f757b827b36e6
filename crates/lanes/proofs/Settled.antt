-- A decided f64 sum with its 29 last digits rounded away is the f32 that rounding once makes. Assumes nothing.
use mathlib.Core.Path.{◌≡◌, refl, sym, ap, ◌∙◌, subst}
use mathlib.Core.Logic.{inl, inr}
use mathlib.Core.Bool.{Bool, true, false, not, cond, ◌&&◌}
use Prim.Native.Nat.{ℕ, ◌%◌, ◌<◌, ◌≤◌}
use native.Mathlib.Omega.{arith}
use borrow.Author.Tests.{le-ltb, leb-true, leb-false}
use lib.Dec.{T, leb}
use lib.Ieee.{Float, binary32, binary64, odd, of_fields, fits, to_bits, of_bits, is_nan, nan_bits}
use lib.Ieee.Bits.{of_bits-to_bits, of_bits-fits, to_bits-of_bits, nan_bits_is, nan_bits_above}
use lib.Ieee.Fits.{and_i}
use Rattle.float.specs.Ops.{fused}
use Rattle.wide.specs.Wide.{Clear, narrowed}
use Rattle.wide.proofs.Tidied.{bits_lt, tidy_number}
use Rattle.wide.proofs.Tidied as tidied_of
use Rattle.wide.proofs.Clearly.{narrow_is}
use Rattle.wide.proofs.Widen as widen
use Rattle.lanes.specs.Lanes.{ClearPattern, Decided, tidied, wide_sum}
use Rattle.lanes.proofs.Zeros.{zero_of, zero_fused}

below : (n : ℕ) → Decided n → n % 9223372036854775808 < 5179139571476070400
below n (inl e) = omega arith
below n (inr c) = c.hi

-- a tidied pattern is no NaN's
pub tidied_number : (n : ℕ) → Decided n → T (not (nan_bits binary64 (tidied n)))
tidied_number n h = tidy_number n (below n h)

zero_pattern : (t : Bool) → of_bits binary64 (cond t 9223372036854775808 0) ≡ zero_of t
unfolding of_bits of_fields odd
zero_pattern true = refl
zero_pattern false = refl

signed : (n : ℕ) (t : Bool) → n < 18446744073709551616 → n % 9223372036854775808 ≡ 0 → leb 9223372036854775808 n ≡ t → n ≡ cond t 9223372036854775808 0
signed n true l e h = let g = leb-true 9223372036854775808 n h in omega arith
signed n false l e h = let g = leb-false 9223372036854775808 n h in omega arith

same : (t : Bool) → tidied (cond t 9223372036854775808 0) ≡ cond t 9223372036854775808 0
same true = refl
same false = refl

zero_fits : (t : Bool) → T (fits binary32 (zero_of t))
unfolding fits
zero_fits t = tt

-- ---- of a sum s
module _ (s : Float) (F : T (fits binary64 s)) (N : T (not (is_nan s))) where
  abbrev n : ℕ
  n = to_bits binary64 s

  abbrev sign : Bool
  sign = leb 9223372036854775808 n

  n_is : n % 9223372036854775808 ≡ 0 → n ≡ cond sign 9223372036854775808 0
  n_is e = signed n sign (bits_lt s F) e refl

  zero_is : n % 9223372036854775808 ≡ 0 → s ≡ zero_of sign
  zero_is e = sym (of_bits-to_bits binary64 s F) ∙ ap (of_bits binary64) (n_is e) ∙ zero_pattern sign

  zero_tidied : n % 9223372036854775808 ≡ 0 → of_bits binary64 (tidied n) ≡ zero_of sign
  zero_tidied e = ap (λ (z : ℕ). of_bits binary64 (tidied z)) (n_is e) ∙ ap (of_bits binary64) (same sign) ∙ zero_pattern sign

  clear : ClearPattern n → Clear s
  clear c = record { number = N; lo = c.lo; hi = c.hi; untied = c.untied }

  clear_tidied : ClearPattern n → of_bits binary64 (tidied n) ≡ narrowed s
  clear_tidied c = tidied_of.tidied s (clear c) (bits_lt s F)

  held : Decided n → T (fits binary32 (of_bits binary64 (tidied n)))
  held (inl e) = subst (λ (z : Float). T (fits binary32 z)) (sym (zero_tidied e)) (zero_fits sign)
  held (inr c) = subst (λ (z : Float). T (fits binary32 z)) (sym (clear_tidied c)) (of_bits-fits binary32 _)

  -- what the cast to f32 asks
  pub narrows : Decided n → T (fits binary32 (of_bits binary64 (tidied n)) && not (is_nan (of_bits binary64 (tidied n))))
  narrows h =
      let z = of_bits binary64 (tidied n) in
      and_i (fits binary32 z) (not (is_nan z)) (held h) (subst (λ (b : Bool). T (not b)) (nan_bits_is binary64 (tidied n)) (tidied_number n h))

  -- and what it makes
  pub settled : (a b c : Float) → T (fits binary32 a) → T (fits binary32 b) → T (fits binary32 c) → s ≡ wide_sum a b c → Decided n → of_bits binary64 (tidied n) ≡ fused a b c
  settled a b c A B C e (inl z) = zero_tidied z ∙ zero_fused a b c sign A B C (sym e ∙ zero_is z)
  settled a b c A B C e (inr k) =
      clear_tidied k
      ∙ widen.narrowed a b c (narrowed s) A B C (subst Clear e (clear k)) (λ t n d P h. narrow_is s (clear k) t n d P (e ∙ h))

-- ---- of a pattern
not_nan : (n : ℕ) → Decided n → T (not (nan_bits binary64 n))
not_nan n h = subst (λ (b : Bool). T (not b)) (sym (nan_bits_above binary64 n ∙ le-ltb 9218868437227405312 (n % 9223372036854775808) (le n (below n h)))) tt
  where
    le : (n : ℕ) → n % 9223372036854775808 < 5179139571476070400 → n % 9223372036854775808 ≤ 9218868437227405312
    le n h = omega arith

pub pattern_narrows : (n : ℕ) → n < 18446744073709551616 → Decided n → T (fits binary32 (of_bits binary64 (tidied n)) && not (is_nan (of_bits binary64 (tidied n))))
pattern_narrows n l h =
    let N = subst (λ (b : Bool). T (not b)) (nan_bits_is binary64 n) (not_nan n h) in
    let e = to_bits-of_bits binary64 n l N in
    subst (λ (k : ℕ). T (fits binary32 (of_bits binary64 (tidied k)) && not (is_nan (of_bits binary64 (tidied k))))) e
    (narrows (of_bits binary64 n) (of_bits-fits binary64 n) N (subst Decided (sym e) h))
