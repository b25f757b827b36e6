-- The term of every 64th step, worked out. Assumes nothing.
use Rattle.std.proofs.Common.{◌≡◌, ℕ, zero, suc, ◌+◌, ◌-◌, ◌*◌, ◌<◌, ◌≤◌, List, [], ◌∷◌, length, sym, refl, ap, ◌∙◌, arith}
use Rattle.std.specs.List.{fold, range_with_len}
use lib.Count.{count_trailing_zeros}
use lib.Ieee.{Float, binary32, add, sub, mul, div, sum, round, units, odd, size, span, climb, of_bits, of_fields, neg, of_int}
use Rattle.fold.specs.Fold.{upto}
use Rattle.fold.proofs.Loops.{upto_add}
use Rattle.float.specs.Ops.{mul_add, square, half, midpoint, isqrt, halves, root}
use Rattle.float.specs.Names.{f1, val}
use Rattle.steps.specs.Solve.{next_term, term_at, term_of}

-- from the term of a step to that of the 64th after it
link : (j : ℕ) (x y : Float) → x ≡ term_of j → upto term_at 64 x ≡ y → y ≡ term_of (j + 64)
unfolding term_of
link j x y p q = sym q ∙ ap (upto term_at 64) p ∙ sym (upto_add term_at j 64 f1)

first : f1 ≡ term_of 0
unfolding term_of upto
first = refl

turns_1 : upto term_at 64 (of_bits binary32 0x3f800000) ≡ of_bits binary32 0x42078243
unfolding upto next_term mul_add square half midpoint isqrt halves root add sub mul div sum round units odd size span climb of_bits of_fields neg of_int count_trailing_zeros
turns_1 = refl

turns_2 : upto term_at 64 (of_bits binary32 0x42078243) ≡ of_bits binary32 0x42841694
unfolding upto next_term mul_add square half midpoint isqrt halves root add sub mul div sum round units odd size span climb of_bits of_fields neg of_int count_trailing_zeros
turns_2 = refl

turns_3 : upto term_at 64 (of_bits binary32 0x42841694) ≡ of_bits binary32 0x42c4494a
unfolding upto next_term mul_add square half midpoint isqrt halves root add sub mul div sum round units odd size span climb of_bits of_fields neg of_int count_trailing_zeros
turns_3 = refl

turns_4 : upto term_at 64 (of_bits binary32 0x42c4494a) ≡ of_bits binary32 0x430236bc
unfolding upto next_term mul_add square half midpoint isqrt halves root add sub mul div sum round units odd size span climb of_bits of_fields neg of_int count_trailing_zeros
turns_4 = refl

turns_5 : upto term_at 64 (of_bits binary32 0x430236bc) ≡ of_bits binary32 0x432244d0
unfolding upto next_term mul_add square half midpoint isqrt halves root add sub mul div sum round units odd size span climb of_bits of_fields neg of_int count_trailing_zeros
turns_5 = refl

turns_6 : upto term_at 64 (of_bits binary32 0x432244d0) ≡ of_bits binary32 0x43425057
unfolding upto next_term mul_add square half midpoint isqrt halves root add sub mul div sum round units odd size span climb of_bits of_fields neg of_int count_trailing_zeros
turns_6 = refl

turns_7 : upto term_at 64 (of_bits binary32 0x43425057) ≡ of_bits binary32 0x43625a1b
unfolding upto next_term mul_add square half midpoint isqrt halves root add sub mul div sum round units odd size span climb of_bits of_fields neg of_int count_trailing_zeros
turns_7 = refl

turns_8 : upto term_at 64 (of_bits binary32 0x43625a1b) ≡ of_bits binary32 0x43813149
unfolding upto next_term mul_add square half midpoint isqrt halves root add sub mul div sum round units odd size span climb of_bits of_fields neg of_int count_trailing_zeros
turns_8 = refl

turns_9 : upto term_at 64 (of_bits binary32 0x43813149) ≡ of_bits binary32 0x43913503
unfolding upto next_term mul_add square half midpoint isqrt halves root add sub mul div sum round units odd size span climb of_bits of_fields neg of_int count_trailing_zeros
turns_9 = refl

turns_10 : upto term_at 64 (of_bits binary32 0x43913503) ≡ of_bits binary32 0x43a1385c
unfolding upto next_term mul_add square half midpoint isqrt halves root add sub mul div sum round units odd size span climb of_bits of_fields neg of_int count_trailing_zeros
turns_10 = refl

turns_11 : upto term_at 64 (of_bits binary32 0x43a1385c) ≡ of_bits binary32 0x43b13b66
unfolding upto next_term mul_add square half midpoint isqrt halves root add sub mul div sum round units odd size span climb of_bits of_fields neg of_int count_trailing_zeros
turns_11 = refl

turns_12 : upto term_at 64 (of_bits binary32 0x43b13b66) ≡ of_bits binary32 0x43c13e2a
unfolding upto next_term mul_add square half midpoint isqrt halves root add sub mul div sum round units odd size span climb of_bits of_fields neg of_int count_trailing_zeros
turns_12 = refl

turns_13 : upto term_at 64 (of_bits binary32 0x43c13e2a) ≡ of_bits binary32 0x43d140b5
unfolding upto next_term mul_add square half midpoint isqrt halves root add sub mul div sum round units odd size span climb of_bits of_fields neg of_int count_trailing_zeros
turns_13 = refl

turns_14 : upto term_at 64 (of_bits binary32 0x43d140b5) ≡ of_bits binary32 0x43e14310
unfolding upto next_term mul_add square half midpoint isqrt halves root add sub mul div sum round units odd size span climb of_bits of_fields neg of_int count_trailing_zeros
turns_14 = refl

turns_15 : upto term_at 64 (of_bits binary32 0x43e14310) ≡ of_bits binary32 0x43f14547
unfolding upto next_term mul_add square half midpoint isqrt halves root add sub mul div sum round units odd size span climb of_bits of_fields neg of_int count_trailing_zeros
turns_15 = refl

-- xs are the terms of the steps j, j + 64, ..
abbrev Terms : ℕ → List Float → Type 0
Terms j [] = Unit {0}
Terms j (x ∷ xs) = (x ≡ term_of j) × Terms (j + 64) xs

at : (xs : List Float) (j k : ℕ) → Terms j xs → k < length xs → val xs k ≡ term_of (j + 64 * k)
at [] j k t l = absurd (never k l)
  where
    never : (k : ℕ) → k < 0 → ⊥
    never k l = omega arith
at (x ∷ xs) j zero t l = t.0 ∙ ap term_of (none j)
  where
    none : (j : ℕ) → j ≡ j + 64 * 0
    none j = omega arith
at (x ∷ xs) j (suc k) t l = at xs (j + 64) k t.1 (less k (length xs) l) ∙ ap term_of (next j k)
  where
    less : (k n : ℕ) → suc k < suc n → k < n
    less k n l = omega arith

    next : (j k : ℕ) → j + 64 + 64 * k ≡ j + 64 * suc k
    next j k = omega arith

abbrev pub marks : List Float
marks =
    of_bits binary32 0x3f800000 ∷ of_bits binary32 0x42078243 ∷ of_bits binary32 0x42841694 ∷ of_bits binary32 0x42c4494a ∷ of_bits binary32 0x430236bc ∷ of_bits binary32 0x432244d0 ∷ of_bits binary32 0x43425057 ∷ of_bits binary32 0x43625a1b ∷ of_bits binary32 0x43813149 ∷ of_bits binary32 0x43913503 ∷ of_bits binary32 0x43a1385c ∷ of_bits binary32 0x43b13b66 ∷ of_bits binary32 0x43c13e2a ∷ of_bits binary32 0x43d140b5 ∷ of_bits binary32 0x43e14310 ∷ of_bits binary32 0x43f14547 ∷ []

mark_1 : of_bits binary32 0x42078243 ≡ term_of 64
mark_1 = link 0 (of_bits binary32 0x3f800000) (of_bits binary32 0x42078243) first turns_1

mark_2 : of_bits binary32 0x42841694 ≡ term_of 128
mark_2 = link 64 (of_bits binary32 0x42078243) (of_bits binary32 0x42841694) mark_1 turns_2

mark_3 : of_bits binary32 0x42c4494a ≡ term_of 192
mark_3 = link 128 (of_bits binary32 0x42841694) (of_bits binary32 0x42c4494a) mark_2 turns_3

mark_4 : of_bits binary32 0x430236bc ≡ term_of 256
mark_4 = link 192 (of_bits binary32 0x42c4494a) (of_bits binary32 0x430236bc) mark_3 turns_4

mark_5 : of_bits binary32 0x432244d0 ≡ term_of 320
mark_5 = link 256 (of_bits binary32 0x430236bc) (of_bits binary32 0x432244d0) mark_4 turns_5

mark_6 : of_bits binary32 0x43425057 ≡ term_of 384
mark_6 = link 320 (of_bits binary32 0x432244d0) (of_bits binary32 0x43425057) mark_5 turns_6

mark_7 : of_bits binary32 0x43625a1b ≡ term_of 448
mark_7 = link 384 (of_bits binary32 0x43425057) (of_bits binary32 0x43625a1b) mark_6 turns_7

mark_8 : of_bits binary32 0x43813149 ≡ term_of 512
mark_8 = link 448 (of_bits binary32 0x43625a1b) (of_bits binary32 0x43813149) mark_7 turns_8

mark_9 : of_bits binary32 0x43913503 ≡ term_of 576
mark_9 = link 512 (of_bits binary32 0x43813149) (of_bits binary32 0x43913503) mark_8 turns_9

mark_10 : of_bits binary32 0x43a1385c ≡ term_of 640
mark_10 = link 576 (of_bits binary32 0x43913503) (of_bits binary32 0x43a1385c) mark_9 turns_10

mark_11 : of_bits binary32 0x43b13b66 ≡ term_of 704
mark_11 = link 640 (of_bits binary32 0x43a1385c) (of_bits binary32 0x43b13b66) mark_10 turns_11

mark_12 : of_bits binary32 0x43c13e2a ≡ term_of 768
mark_12 = link 704 (of_bits binary32 0x43b13b66) (of_bits binary32 0x43c13e2a) mark_11 turns_12

mark_13 : of_bits binary32 0x43d140b5 ≡ term_of 832
mark_13 = link 768 (of_bits binary32 0x43c13e2a) (of_bits binary32 0x43d140b5) mark_12 turns_13

mark_14 : of_bits binary32 0x43e14310 ≡ term_of 896
mark_14 = link 832 (of_bits binary32 0x43d140b5) (of_bits binary32 0x43e14310) mark_13 turns_14

mark_15 : of_bits binary32 0x43f14547 ≡ term_of 960
mark_15 = link 896 (of_bits binary32 0x43e14310) (of_bits binary32 0x43f14547) mark_14 turns_15

all : Terms 0 marks
all = (first, (mark_1, (mark_2, (mark_3, (mark_4, (mark_5, (mark_6, (mark_7, (mark_8, (mark_9, (mark_10, (mark_11, (mark_12, (mark_13, (mark_14, (mark_15, tt))))))))))))))))

pub mark_at : (k : ℕ) → k < 16 → val marks k ≡ term_of (64 * k)
mark_at k l = at marks 0 k all l ∙ ap term_of (start k)
  where
    start : (k : ℕ) → 0 + 64 * k ≡ 64 * k
    start k = omega arith

-- ---- from the last mark on, as many turns as steps are left
counted : (n a : ℕ) (x : Float) → fold (λ (t : Float) (i : ℕ). next_term t) x (range_with_len a n) ≡ upto term_at n x
unfolding upto
counted zero a x = refl
counted (suc n) a x = counted n (a + 1) (next_term x) ∙ sym (ap (λ (k : ℕ). upto term_at k x) (one n) ∙ upto_add term_at 1 n x)
  where
    one : (n : ℕ) → suc n ≡ 1 + n
    one n = omega arith

pub term_from : (k step : ℕ) → k < 16 → 64 * k ≤ step → fold (λ (t : Float) (i : ℕ). next_term t) (val marks k) (range_with_len (64 * k) (step - 64 * k)) ≡ term_of step
unfolding term_of
term_from k step l h =
    counted (step - 64 * k) (64 * k) (val marks k) ∙ ap (upto term_at (step - 64 * k)) (mark_at k l)
    ∙ sym (upto_add term_at (64 * k) (step - 64 * k) f1) ∙ ap (λ (n : ℕ). upto term_at n f1) (back (64 * k) step h)
  where
    back : (a n : ℕ) → a ≤ n → a + (n - a) ≡ n
    back a n h = omega arith
