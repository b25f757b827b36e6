-- A value and the root of a sum of squares that has its own square in it: the value is at most twice as large, underflow and overflow included.
use mathlib.Core.Path.{◌≡◌, refl, sym, ap, ◌∙◌, subst}
use mathlib.Core.Logic.{⊎_elim}
use mathlib.Core.Bool.{true, false, not, ◌&&◌, true≢false}
use Prim.Native.Nat.{ℕ, zero, suc, ◌+◌, ◌-◌, ◌*◌, ◌/◌, ◌^◌, ◌≤◌, ◌<◌, zero-le}
use native.Mathlib.Nat.{le_trans, le_of_eq, le_refl, le_of_lt, mul-pos, mul-one, one-mul, zero-mul, mul-le-mul, le_of_mul-le-mul_right, div-mul-le_self, not-suc-le-zero, not-le_of_lt, lt_of_not-le, le_of_suc-le-suc, eq-or-lt_of_le}
use native.Mathlib.Decide.{dec_le}
use native.Mathlib.Omega.{arith}
use lib.Dec.{T, eqb, leb→le, lit<, lit≤}
use lib.Pow.{pow-add, pow_pos, pow_mono, pow-lt}
use lib.Ieee.{Float, nan, inf, fin, binary32, up, down, size, odd, eq, ne, fits, of_bits, of_fields}
use lib.Ieee.Digits.{size-lt, size_reaches}
use lib.Ieee.Fits.{and_l, and_r, down_pos, up_pos}
use Rattle.fold.specs.Fold.{upto}
use Rattle.float.specs.Names.{◌⊕◌, ◌⊗◌, ◌⊘◌, f0}
use Rattle.float.specs.Ops.{root}
use Rattle.float.proofs.Size.{size-gt}
use Rattle.float.proofs.Scaled.{scaled_exact}
use Rattle.bounds.proofs.Magnitude.{Most, Least, most_more}
use Rattle.bounds.proofs.Ratio.{Floor, Short, add_floor, square_floor, root_floor, ratio_most}
use Rattle.bounds.proofs.Good.{Good}

-- ---- sums of squares

-- S is at least what the square of g is seen to be
abbrev pub Over : Float → Float → Type 0
Over S g = (c : ℕ) → Short c → Floor c (g ⊗ g) → Floor c S

short_zero : Short 0
short_zero = record { j = 0; i = 0; is = refl; few = lit< tt }

least_zero : (b : ℕ) (x : Float) → Most b x → Least 0 x
unfolding Most Least
least_zero b nan h = h
least_zero b (inf s) h = h
least_zero b (fin s m e) h = le_trans (le_of_eq (zero-mul (down e))) zero-le

pub square_zero : (b : ℕ) (x : Float) → Most b x → Floor 0 (x ⊗ x)
square_zero b x h = square_floor 0 0 x short_zero (lit≤ tt) (least_zero b x h)

f0_floor : Floor 0 f0
unfolding Floor of_bits of_fields odd
f0_floor = (refl, lit≤ tt)

pub sum-zero : (s q : Float) → Floor 0 s → Floor 0 q → Floor 0 (s ⊕ q)
sum-zero s q h k = add_floor 0 0 0 s q short_zero (lit≤ tt) h k

pub over_left : (s q g : Float) → Over s g → Floor 0 q → Over (s ⊕ q) g
over_left s q g o z c S f = add_floor c 0 c s q S (omega arith) (o c S f) z

pub over_right : (s q g : Float) → Floor 0 s → Over q g → Over (s ⊕ q) g
over_right s q g z o c S f = add_floor 0 c c s q S (omega arith) z (o c S f)

-- a loop of sums from 0: never NaN, never negative, and at least each square that one of its turns adds
module _ (term : ℕ → Float → Float) (n : ℕ) (floor : (c : ℕ) (t : Float) → c < n → Floor 0 t → Floor 0 (term c t))
    (keeps : (c : ℕ) (t g : Float) → c < n → Over t g → Over (term c t) g) where
  pub sums_floor : (m : ℕ) → m ≤ n → Floor 0 (upto term m f0)
  unfolding upto
  sums_floor zero h = f0_floor
  sums_floor (suc m) h = floor m (upto term m f0) h (sums_floor m (omega arith))

  pub sums_over : (k : ℕ) (v : Float) → ((t : Float) → Floor 0 t → Over (term k t) v) → (m : ℕ) → m ≤ n → k < m → Over (upto term m f0) v
  unfolding upto
  sums_over k v own zero h l = λ c S f. absurd (not-suc-le-zero l)
  sums_over k v own (suc m) h l =
      ⊎_elim
      (λ e. subst (λ (i : ℕ). Over (term i (upto term m f0)) v) e (own (upto term m f0) (sums_floor m (omega arith))))
      (λ q. keeps m (upto term m f0) v h (sums_over k v own m (omega arith) q))
      (eq-or-lt_of_le (le_of_suc-le-suc l))

-- a sum whose root isn't 0 is at least the smallest value
pub floor_one : (S : Float) → T (fits binary32 S) → Floor 0 S → ne (root S) f0 ≡ true → Floor 1 S
unfolding Floor ne eq root fits of_bits of_fields odd
floor_one nan f h q = absurd h
floor_one (inf s) f h q = h
floor_one (fin true m e) f h q = absurd (true≢false h.0)
floor_one (fin false zero e) f h q = absurd (zero_is e q)
  where
    zero_is : (e : _) → not (eqb (0 * up e * 1) (0 * 1 * down e) && true) ≡ true → ⊥
    zero_is e q = true≢false (sym q ∙ ap (λ (x : ℕ). not (eqb x (0 * 1 * down e) && true)) (mul-one (0 * up e) ∙ zero-mul (up e)) ∙ ap (λ (x : ℕ). not (eqb 0 x && true)) (zero-mul (down e)))
floor_one (fin false (suc m) e) f h q = (
  refl,
  le_trans (le_of_eq (one-mul (down e)))
      (le_trans (leb→le (down e) (2 ^ 149) (search (and_l, and_r) depth 6))
      (le_trans (le_of_eq (sym (one-mul (2 ^ 149)))) (mul-le-mul (mul-pos (lit m) (up_pos e)) (le_refl (2 ^ 149))))),
)
  where
    lit : (m : ℕ) → 0 < suc m
    lit m = omega arith

-- ---- the size of a value in units of 2 ^ -149

abbrev units_of : Float → ℕ
units_of nan = 0
units_of (inf s) = 0
units_of (fin s m e) = m * up e * 2 ^ 149 / down e

own_most : (b : ℕ) (g : Float) → T (fits binary32 g) → Most b g → Most (units_of g) g
unfolding Most
own_most b nan f h = h
own_most b (inf s) f h = h
own_most b (fin s m e) f h = le_of_eq (sym (scaled_exact s m e f))

own_least : (b : ℕ) (g : Float) → Most b g → Least (units_of g) g
unfolding Most Least
own_least b nan h = h
own_least b (inf s) h = h
own_least b (fin s m e) h = div-mul-le_self (m * up e * 2 ^ 149) (down e)

own_small : (b : ℕ) (g : Float) → Most b g → units_of g ≤ b
unfolding Most
own_small b nan h = zero-le
own_small b (inf s) h = zero-le
own_small b (fin s m e) h = le_of_mul-le-mul_right (le_trans (div-mul-le_self (m * up e * 2 ^ 149) (down e)) h) (down_pos e)

-- ---- near a norm

-- the norm is at least 2 ^ p, an exponent of at most m, and Q holds of p: some values are at most 2 ^ (p + 1)
pub record Near (m : ℕ) (norm : Float) (Q : ℕ → Type 0) : Type 0 where
  pub p : ℕ
  pub p_most : p ≤ m
  pub below : Floor (2 ^ p) norm
  pub all : Q p

abbrev pub Twice : Float → ℕ → Type 0
Twice g p = Most (2 ^ suc p) g

pub twice_more : (g : Float) (p q : ℕ) → p ≤ q → Twice g p → Twice g q
twice_more g p q h t = most_more (2 ^ suc p) (2 ^ suc q) g (pow_mono (omega arith)) t

-- the larger of two exponents serves both
pub near_both : (m : ℕ) (norm : Float) (Q R : ℕ → Type 0) → ((p q : ℕ) → p ≤ q → Q p → Q q) → ((p q : ℕ) → p ≤ q → R p → R q)
    → Near m norm Q → Near m norm R → Near m norm (λ p. Q p × R p)
near_both m norm Q R up-q up-r n k =
    elim (dec_le n.p k.p) [
      | yes l ↦ record { p = k.p; p_most = k.p_most; below = k.below; all = (up-q n.p k.p l n.all, k.all) }
      | no q ↦ record { p = n.p; p_most = n.p_most; below = n.below; all = (n.all, up-r k.p n.p (le_of_lt (lt_of_not-le q)) k.all) }
    ]

power_short : (p : ℕ) → Short (2 ^ p * 2 ^ 42)
power_short p = record { j = 1; i = p + 42; is = sym (pow-add 2 p 42) ∙ sym (one-mul (2 ^ (p + 42))); few = lit< tt }

exponent_most : (p m n : ℕ) → 2 ^ p ≤ n → n ≤ 2 ^ m → p ≤ m
exponent_most p m n h k = le_of_suc-le-suc (lt_of_not-le (λ (g : suc m ≤ p). not-le_of_lt (pow-lt g) (le_trans h k)))

-- a value of 2 ^ 75 units or more has a square that does not vanish; a smaller one is below any root that is not 0
pub near : (m : ℕ) (g S : Float) → 74 ≤ m → Good (2 ^ m) g → Over S g → Floor 1 S → Near m (root S) (Twice g)
near m g S big good over one = elim (dec_le (2 ^ 75) (units_of g)) [ yes l ↦ large l | no q ↦ small (le_of_lt (lt_of_not-le q)) ]
  where
    small : units_of g ≤ 2 ^ 75 → Near m (root S) (Twice g)
    small l =
        record {
          p = 74;
          p_most = big;
          below = root_floor (2 ^ 32) 1 S (power_short 32) (lit< tt) (lit≤ tt) one;
          all = most_more (units_of g) (2 ^ 75) g l (own_most (2 ^ m) g good.0 good.1);
        }

    large : 2 ^ 75 ≤ units_of g → Near m (root S) (Twice g)
    large l =
        let n = units_of g in
        let far : 75 < size n = size-gt n 75 l in
        let p = size n - 43 in
        let whole-p : p + 42 ≡ size n - 1 = omega arith in
        let reach : 2 ^ (p + 42) ≤ n = subst (λ (k : ℕ). 2 ^ k ≤ n) (sym whole-p) (size_reaches n (size n - 1) (omega arith)) in
        let q = p + 42 + (p + 42) - 149 in
        let twice : q + 149 ≡ p + 42 + (p + 42) = omega arith in
        let c-is : 2 ^ q * 2 ^ 149 ≡ 2 ^ (p + 42) * 2 ^ (p + 42) = sym (pow-add 2 q 149) ∙ ap (λ (k : ℕ). 2 ^ k) twice ∙ pow-add 2 (p + 42) (p + 42) in
        let r-is : 2 ^ (p + 42) ≡ 2 ^ p * 2 ^ 42 = pow-add 2 p 42 in
        let short : Short (2 ^ q) = record { j = 1; i = q; is = sym (one-mul (2 ^ q)); few = lit< tt } in
        let seen : Floor (2 ^ q) S = over (2 ^ q) short (square_floor n (2 ^ q) g short (le_trans (le_of_eq c-is) (mul-le-mul reach reach)) (own_least (2 ^ m) g good.1)) in
        let top : n ≤ 2 ^ suc (p + 42) = le_trans (le_of_lt (size-lt n)) (le_of_eq (ap (λ (k : ℕ). 2 ^ k) (next (size n) (p + 42) whole-p far))) in
        record {
          p = p + 42;
          p_most = exponent_most (p + 42) m n reach (own_small (2 ^ m) g good.1);
          below =
              subst (λ (k : ℕ). Floor k (root S)) (sym r-is)
              (root_floor (2 ^ p) (2 ^ q) S (power_short p) (pow_pos q) (le_of_eq (ap (λ (k : ℕ). k * k) (sym r-is) ∙ sym c-is)) seen);
          all = most_more n (2 ^ suc (p + 42)) g top (own_most (2 ^ m) g good.0 good.1);
        }
      where
        next : (z k : ℕ) → k ≡ z - 1 → 75 < z → z ≡ suc k
        next z k e l = omega arith

-- a value of at most 2 ^ (p + t) over a norm of at least 2 ^ p
pub near_ratio : (p t : ℕ) (v norm : Float) → t < 128 → Floor (2 ^ p) norm → Most (2 ^ (t + p)) v → Most (2 ^ t * 2 ^ 149) (v ⊘ norm)
near_ratio p t v norm h below most =
    let h' : t + 149 < 277 = omega arith in
    ratio_most (2 ^ (t + p)) (2 ^ p) (2 ^ t) v norm
    (record { j = 1; i = t + 149; is = sym (pow-add 2 t 149) ∙ sym (one-mul (2 ^ (t + 149))); few = lit< tt; under = subst (λ (k : ℕ). k < 2 ^ 277) (pow-add 2 t 149) (pow-lt h') })
    (pow_pos p) (le_of_eq (pow-add 2 t p)) most below
