-- The step constants of at most 20 steps are bounded, and so are the weights of the gradients.
use mathlib.Core.Path.{◌≡◌, refl, sym, ap, ◌∙◌, subst}
use mathlib.Core.Logic.{◌⊎◌, inl, inr, ⊎_elim}
use mathlib.Core.Bool.{Bool, true, false, ◌&&◌, cond, true≢false}
use Prim.Native.Nat.{ℕ, zero, suc, ◌+◌, ◌*◌, ◌/◌, ◌^◌, ◌≤◌, ◌<◌, zero-le}
use native.Mathlib.Nat.{mul-one, one-mul, le_trans, le_of_eq, le_refl, lt_of_lt_of_le, mul_assoc, mul_comm, mul-le-mul_right, mul-mul-mul_comm, le_of_mul-le-mul_right, mul-pos, div-mul-le_self, zero-mul, not-le_of_lt, lt_of_not-le, le_of_suc-le-suc, eq-or-lt_of_le, le_antisymm, suc-mul, mul-suc, not-suc-le-zero}
use native.Mathlib.Omega.{arith}
use lib.Count.{count_trailing_zeros}
use lib.Dec.{T, leb, eqb, leb→le, lit<, lit≤}
use lib.Pow.{pow_pos}
use borrow.Author.Tests.{eq-eqb}
use lib.Ieee.{Float, nan, inf, fin, binary32, up, down, size, span, climb, round, units, odd, of_fields, of_bits, of_int, neg, sum, add, sub, mul, div}
use lib.Ieee.Fits.{and_l, and_r, down_pos}
use Rattle.float.specs.Ops.{mul_add, square, half, midpoint, isqrt, halves, root}
use Rattle.float.specs.Whole.{IsRoot}
use Rattle.float.proofs.Roots.{isqrt_root, two_four, square_mono}
use lib.Ieee.Digits.{size-lt}
use Rattle.fold.specs.Fold.{upto}
use Rattle.float.specs.Names.{◌⊘◌, f1, f2, float}
use Rattle.steps.specs.Solve.{next_term, term_of, constants}
use Rattle.gradients.specs.Tv.{tv_alpha}
use Rattle.gradients.specs.Tgv.{tgv_alpha}
use Rattle.bounds.proofs.Magnitude.{Most, Held, round_most}
use Rattle.bounds.proofs.Ratio.{Floor, Short, root_floor, round_floor, add_floor, ratio_most}

-- ---- the factor, by computation

-- `Most` as a test
abbrev most : ℕ → Float → Bool
most b nan = false
most b (inf s) = false
most b (fin s m e) = leb (m * up e * 2 ^ 149) (b * down e)

most_is : (b : ℕ) (x : Float) → T (most b x) → Most b x
unfolding Most
most_is b nan t = absurd t
most_is b (inf s) t = absurd t
most_is b (fin s m e) t = leb→le (m * up e * 2 ^ 149) (b * down e) t

factor_of : ℕ → Float
unfolding constants
factor_of k = (constants 8 8 0 f1 k).factor

-- a test of each number below n
abbrev every : ℕ → (ℕ → Bool) → Bool
every zero f = true
every (suc n) f = every n f && f n

every_at : (n : ℕ) (f : ℕ → Bool) → T (every n f) → (k : ℕ) → k < n → T (f k)
every_at zero f t k l = absurd (not-suc-le-zero l)
every_at (suc n) f t k l =
    ⊎_elim (λ e. subst (λ (i : ℕ). T (f i)) (sym e) (and_r (every n f) (f n) t)) (λ m. every_at n f (and_l (every n f) (f n) t) k m)
    (eq-or-lt_of_le (le_of_suc-le-suc l))

factors : every 20 (λ k. most (2 ^ 149) (factor_of k)) ≡ true
unfolding factor_of constants upto next_term term_of mul_add square half midpoint isqrt halves root add sub mul div sum round units odd size span climb of_bits of_fields neg of_int count_trailing_zeros
factors = refl

-- in each of the first 20 steps the factor is at most 1, whatever the sheet
pub factor_most : (W H N : ℕ) (weight : Float) (step : ℕ) → step < 20 → Most (2 ^ 149) (constants W H N weight step).factor
unfolding factor_of constants
factor_most W H N weight step h = most_is (2 ^ 149) (factor_of step) (every_at 20 (λ k. most (2 ^ 149) (factor_of k)) (subst T (sym factors) tt) step h)

-- ---- roots from above

halves_most : (n p : ℕ) → n ≤ p * p → halves n ≤ 2 * p
unfolding halves
halves_most n p h = go (eq-or-lt_of_le r_le)
  where
    r : ℕ
    r = isqrt (size n) n

    is : IsRoot n (isqrt (size n) n)
    is = isqrt_root (size n) n (lt_of_lt_of_le (size-lt n) (two_four (size n)))

    r_le : isqrt (size n) n ≤ p
    r_le = le_of_suc-le-suc (lt_of_not-le (λ (g : suc p ≤ isqrt (size n) n). not-le_of_lt (more p) (le_trans (square_mono g) (le_trans is.lo h))))
      where
        more : (p : ℕ) → p * p < suc p * suc p
        more p = omega (arith, expand p)
          where
            expand : (p : ℕ) → suc p * suc p ≡ p * p + 2 * p + 1
            expand p = simp (suc-mul, mul-suc) (omega arith)

    odd_one : (b : Bool) → cond b 0 1 ≤ 1
    odd_one true = zero-le
    odd_one false = le_refl 1

    go : (isqrt (size n) n ≡ p) ⊎ (isqrt (size n) n < p) → 2 * isqrt (size n) n + cond (eqb (isqrt (size n) n * isqrt (size n) n) n) 0 1 ≤ 2 * p
    go (inl e) =
        let same : isqrt (size n) n * isqrt (size n) n ≡ n = le_antisymm is.lo (le_trans h (le_of_eq (ap (λ (x : ℕ). x * x) (sym e)))) in
        le_trans (le_of_eq (ap (λ (b : Bool). 2 * isqrt (size n) n + cond b 0 1) (eq-eqb (isqrt (size n) n * isqrt (size n) n) n same))) (le_of_eq (last (isqrt (size n) n) p e))
      where
        last : (r p : ℕ) → r ≡ p → 2 * r + 0 ≡ 2 * p
        last r p e = omega arith
    go (inr l) = step (isqrt (size n) n) p (cond (eqb (isqrt (size n) n * isqrt (size n) n) n) 0 1) l (odd_one (eqb (isqrt (size n) n * isqrt (size n) n) n))
      where
        step : (r p c : ℕ) → r < p → c ≤ 1 → 2 * r + c ≤ 2 * p
        step r p c h k = omega arith

pub root_most : (p c : ℕ) (x : Float) → Held (p * 2 ^ 42) → c * 2 ^ 149 ≤ p * 2 ^ 42 * (p * 2 ^ 42) → Floor 0 x → Most c x → Most (p * 2 ^ 42) (root x)
unfolding Floor Most root
root_most p c nan H l h k = absurd h
root_most p c (inf s) H l h k = absurd k
root_most p c (fin s zero e) H l h k = le_trans (le_of_eq (ap (λ (x : ℕ). x * 2 ^ 149) (zero-mul (up e)) ∙ zero-mul (2 ^ 149))) zero-le
root_most p c (fin true (suc m) e) H l h k = absurd (true≢false h.0)
root_most p c (fin false (suc m) e) H l h k =
    let Q = suc m * up e * 2 ^ 149 / down e in
    let c-le : Q ≤ c = le_of_mul-le-mul_right (le_trans (div-mul-le_self (suc m * up e * 2 ^ 149) (down e)) k) (down_pos e) in
    let inside : 2 * Q * 4 ^ 32 ≤ p * p =
    le_trans (le_of_eq (ap (λ (x : ℕ). x * 4 ^ 32) (mul_comm 2 Q) ∙ mul_assoc Q 2 (4 ^ 32))) (le_trans (mul-le-mul_right (2 ^ 65) c-le) (cut p (2 ^ 42) c (2 ^ 65) (pow_pos 42) l)) in
    let den : 0 < 2 * 2 ^ 107 = lit< tt in
    round_most false (halves (2 * Q * 4 ^ 32)) (2 * 2 ^ 107) (p * 2 ^ 42) H den
    (le_trans (mul-le-mul_right (2 ^ 149) (halves_most (2 * Q * 4 ^ 32) p inside))
    (le_of_eq (sym (mul_assoc p (2 ^ 42) (2 * 2 ^ 107) ∙ sym (mul_assoc p 2 (2 ^ 149)) ∙ ap (λ (x : ℕ). x * 2 ^ 149) (mul_comm p 2)))))
  where
    cut : (p s c q : ℕ) → 0 < s → c * (s * s * q) ≤ p * s * (p * s) → c * q ≤ p * p
    cut p s c q S h =
        le_of_mul-le-mul_right
        (le_trans (le_of_eq (mul_assoc c q (s * s) ∙ ap (λ (x : ℕ). c * x) (mul_comm q (s * s)))) (le_trans h (le_of_eq (mul-mul-mul_comm p s p s))))
        (mul-pos S S)

-- ---- the step size: (√(W × H) / 2) / √(1 + N) is at most 2 ^ 8

float_floor : (n : ℕ) → Floor 0 (float n)
unfolding of_int
float_floor n = round_floor n 1 0 (record { j = 0; i = 0; is = refl; few = lit< tt }) (lit< tt) (le_trans (le_of_eq (zero-mul 1)) zero-le)

float_most : (n k : ℕ) → n ≤ 2 ^ k → Held (2 ^ k * 2 ^ 149) → Most (2 ^ k * 2 ^ 149) (float n)
unfolding of_int
float_most n k h H = round_most false n 1 (2 ^ k * 2 ^ 149) H (lit< tt) (le_trans (mul-le-mul_right (2 ^ 149) h) (le_of_eq (sym (mul-one (2 ^ k * 2 ^ 149)))))

one_floor : Floor (2 ^ 149) f1
unfolding Floor of_bits of_fields odd count_trailing_zeros
one_floor = (refl, lit≤ tt)

two_floor : Floor (2 ^ 150) f2
unfolding Floor of_bits of_fields odd count_trailing_zeros
two_floor = (refl, lit≤ tt)

unit_short : Short (2 ^ 107 * 2 ^ 42)
unit_short = record { j = 1; i = 149; is = refl; few = lit< tt }

root_one : (N : ℕ) → Floor (2 ^ 107 * 2 ^ 42) (root (add binary32 f1 (float N)))
root_one N =
    root_floor (2 ^ 107) (2 ^ 149) (add binary32 f1 (float N)) unit_short (pow_pos 149) (lit≤ tt)
    (add_floor (2 ^ 149) 0 (2 ^ 149) f1 (float N) (record { j = 1; i = 149; is = refl; few = lit< tt }) (lit≤ tt) one_floor (float_floor N))

pub step_size_most : (W H N : ℕ) (weight : Float) (step : ℕ) → W * H ≤ 2 ^ 18 → Most (2 ^ 157) (constants W H N weight step).step_size
unfolding constants
step_size_most W H N weight step h =
    ratio_most (2 ^ 157) (2 ^ 107 * 2 ^ 42) (2 ^ 8) (div binary32 (root (float (W * H))) f2) (root (add binary32 f1 (float N)))
    (record { j = 1; i = 157; is = refl; few = lit< tt; under = lit< tt }) (lit< tt) (lit≤ tt)
    (ratio_most (2 ^ 116 * 2 ^ 42) (2 ^ 150) (2 ^ 8) (root (float (W * H))) f2 (record { j = 1; i = 157; is = refl; few = lit< tt; under = lit< tt }) (lit< tt) (lit≤ tt)
    (root_most (2 ^ 116) (2 ^ 18 * 2 ^ 149) (float (W * H)) (record { j = 1; i = 158; is = refl; few = lit< tt; under = lit< tt }) (lit≤ tt) (float_floor (W * H))
    (float_most (W * H) 18 h (record { j = 1; i = 167; is = refl; few = lit< tt; under = lit< tt })))
    two_floor)
    (root_one N)

-- the second-order weight of a weight of at most 1 is at most 1
pub second_weight_most : (W H N : ℕ) (weight : Float) (step : ℕ) → Most (2 ^ 149) weight → Most (2 ^ 149) (constants W H N weight step).second
unfolding constants
second_weight_most W H N weight step h =
    ratio_most (2 ^ 149) (2 ^ 107 * 2 ^ 42) 1 weight (root f2) (record { j = 1; i = 149; is = refl; few = lit< tt; under = lit< tt }) (lit< tt) (lit≤ tt) h
    (root_floor (2 ^ 107) (2 ^ 150) f2 unit_short (pow_pos 150) (lit≤ tt) two_floor)

-- ---- the weights of the two gradients, over √n for n channels

-- a whole number from 1 on
pub float_some : (n : ℕ) → 1 ≤ n → Floor (2 ^ 149) (float n)
unfolding of_int
float_some n h =
    round_floor n 1 (2 ^ 149) (record { j = 1; i = 149; is = refl; few = lit< tt }) (lit< tt) (le_trans (le_of_eq (mul-one (2 ^ 149) ∙ sym (one-mul (2 ^ 149)))) (mul-le-mul_right (2 ^ 149) h))

-- over √n is no larger
over_root : (n : ℕ) (x : Float) → 1 ≤ n → Most (2 ^ 149) x → Most (2 ^ 149) (x ⊘ root (float n))
over_root n x h m =
    ratio_most (2 ^ 149) (2 ^ 107 * 2 ^ 42) 1 x (root (float n)) (record { j = 1; i = 149; is = refl; few = lit< tt; under = lit< tt }) (lit< tt) (lit≤ tt) m
    (root_floor (2 ^ 107) (2 ^ 149) (float n) unit_short (pow_pos 149) (lit≤ tt) (float_some n h))

one_most : Most (2 ^ 149) f1
unfolding Most of_bits of_fields odd count_trailing_zeros
one_most = lit≤ tt

pub tv_alpha_most : (n : ℕ) → 1 ≤ n → Most (2 ^ 149) (tv_alpha n)
unfolding tv_alpha
tv_alpha_most n h = over_root n f1 h one_most

pub tgv_alpha_most : (n : ℕ) (alpha : Float) → 1 ≤ n → Most (2 ^ 149) alpha → Most (2 ^ 149) (tgv_alpha n alpha)
unfolding tgv_alpha
tgv_alpha_most n alpha h m = over_root n alpha h m
