-- The ends of an interval are computed without rounding: each step's exact result is k / 2 with k below 2 ^ 24. Assumes nothing.
use mathlib.Core.Path.{◌≡◌, refl, sym, ap, ◌∙◌, subst}
use Prim.Native.Nat.{ℕ, zero, suc, ◌+◌, ◌-◌, ◌*◌, ◌^◌, ◌≤◌, ◌<◌}
use native.Mathlib.Nat.{mul_assoc, mul_right_comm, mul-pos, eq_of_mul-eq-mul_right, lt_trans, mul-le-mul_right, mul-le-mul_left}
use native.Mathlib.Omega.{arith}
use mathlib.Core.Bool.{Bool, true, false, not, ◌&&◌, cond}
use lib.IntN.{ℤ, pos, negsuc, nat_abs}
use lib.Dec.{ltb, lit<, lit≤}
use borrow.Author.Tests.{lt-ltb, le-ltb}
use lib.Count.{count_trailing_zeros}
use lib.Pow.{shl_lt}
use lib.Ieee.{Float, nan, inf, fin, up, down, unlike, binary32, round, neg, sum, add, sub, mul, of_int, of_bits, of_fields}
use lib.Ieee.Fits.{down_pos}
use lib.Ieee.Exact.{HasValue, round_exact}
use Rattle.interval.specs.Interval.{f½, lowest, highest}

-- 0.5 as the machine has it
pub half_bits : of_bits binary32 1056964608 ≡ f½
unfolding of_bits of_fields count_trailing_zeros
half_bits = refl

-- x is ±k / 2
abbrev pub Halves : Float → Bool → ℕ → Type 0
Halves x s k = HasValue x s k 2

rescale : (x : Float) (s : Bool) (num den k : ℕ) → 0 < den → num * 2 ≡ k * den → HasValue x s num den → Halves x s k
rescale nan s num den k p h v = v
rescale (inf t) s num den k p h v = v
rescale (fin t m e) s num den k p h v = (
  v.0,
  eq_of_mul-eq-mul_right den p (m * up e * 2) (k * down e)
      (mul_right_comm (m * up e) 2 den ∙ ap (λ (x : ℕ). x * 2) v.1 ∙ mul_right_comm num (down e) 2 ∙ ap (λ (x : ℕ). x * down e) h ∙ mul_right_comm k den (down e)),
)

-- a fraction that is k / 2, with k of at most 24 digits, is not rounded
pub exact_f½ : (s : Bool) (num den k : ℕ) → 0 < den → k < 2 ^ 24 → num * 2 ≡ k * den → Halves (round binary32 s num den) s k
exact_f½ s num den k p small h =
    rescale (round binary32 s num den) s num den k p h
    (round_exact binary32 s num den k 148 p small (shl_lt 129 148 (lt_trans small (lit< tt)))
    (ap (λ (x : ℕ). num * x) two ∙ sym (mul_assoc num 2 (2 ^ 148)) ∙ ap (λ (x : ℕ). x * 2 ^ 148) h ∙ mul_right_comm k den (2 ^ 148)))
  where
    two : 2 ^ 149 ≡ 2 * 2 ^ 148
    two = refl

-- ---- a whole number
abbrev pub is_neg : ℤ → Bool
is_neg (pos n) = false
is_neg (negsuc n) = true

pub int_halves : (d : ℤ) → nat_abs d ≤ 32768 → Halves (of_int binary32 d) (is_neg d) (nat_abs d * 2)
unfolding of_int
int_halves (pos n) h = exact_f½ false n 1 (n * 2) (lit< tt) (omega arith) (omega arith)
int_halves (negsuc n) h = exact_f½ true (suc n) 1 (suc n * 2) (lit< tt) (omega arith) (omega arith)

-- ---- plus or minus a f½

-- to take a value apart: it is finite, and has the sign named
pub finite_with : (x : Float) (s : Bool) (k : ℕ) (P : Float → Type 0) → Halves x s k → ((m : ℕ) (e : ℤ) → m * up e * 2 ≡ k * down e → P (fin s m e)) → P x
finite_with nan s k P v h = absurd v
finite_with (inf t) s k P v h = absurd v
finite_with (fin t m e) s k P v h = subst (λ (r : Bool). P (fin r m e)) (sym v.0) (h m e v.1)

pub sum_same : (s : Bool) (a b c k : ℕ) → 0 < c → k < 2 ^ 24 → (a + b) * 2 ≡ k * c → Halves (sum binary32 s a s b c) s k
unfolding sum
sum_same true a b c k p small h = exact_f½ true (a + b) c k p small h
sum_same false a b c k p small h = exact_f½ false (a + b) c k p small h

-- of two signs, that of the larger
pub sum_larger : (s : Bool) (a b c k : ℕ) → 0 < c → k < 2 ^ 24 → b < a → (a - b) * 2 ≡ k * c → Halves (sum binary32 s a (not s) b c) s k
unfolding sum
sum_larger true a b c k p small l h =
    subst (λ (t : Bool). Halves (cond t (round binary32 false (b - a) c) (round binary32 (true && ltb b a) (a - b) c)) true k) (sym (le-ltb a b (omega arith)))
    (subst (λ (t : Bool). Halves (round binary32 (true && t) (a - b) c) true k) (sym (lt-ltb b a l)) (exact_f½ true (a - b) c k p small h))
sum_larger false a b c k p small l h =
    subst (λ (t : Bool). Halves (cond t (round binary32 true (b - a) c) (round binary32 false (a - b) c)) false k) (sym (le-ltb a b (omega arith)))
    (exact_f½ false (a - b) c k p small h)

pub sum_smaller : (s : Bool) (a b c k : ℕ) → 0 < c → k < 2 ^ 24 → a < b → (b - a) * 2 ≡ k * c → Halves (sum binary32 s a (not s) b c) (not s) k
unfolding sum
sum_smaller true a b c k p small l h =
    subst (λ (t : Bool). Halves (cond t (round binary32 false (b - a) c) (round binary32 (true && ltb b a) (a - b) c)) false k) (sym (lt-ltb a b l))
    (exact_f½ false (b - a) c k p small h)
sum_smaller false a b c k p small l h =
    subst (λ (t : Bool). Halves (cond t (round binary32 true (b - a) c) (round binary32 false (a - b) c)) true k) (sym (lt-ltb a b l))
    (exact_f½ true (b - a) c k p small h)

abbrev signed_half : Bool → Float
signed_half s = fin s 1 (negsuc 0)

add_same : (x : Float) (s : Bool) (k : ℕ) → Halves x s k → suc k < 2 ^ 24 → Halves (add binary32 x (signed_half s)) s (suc k)
unfolding add
add_same x s k v small =
    finite_with x s k (λ (y : Float). Halves (add binary32 y (signed_half s)) s (suc k)) v
    (λ m e h. sum_same s (m * up e * 2) (1 * 1 * down e) (down e * 2) (suc k) (omega (arith, down_pos e)) small (omega arith))

add_other : (x : Float) (s : Bool) (k : ℕ) → Halves x s (suc (suc k)) → suc (suc k) < 2 ^ 24 → Halves (add binary32 x (signed_half (not s))) s (suc k)
unfolding add
add_other x s k v small =
    finite_with x s (suc (suc k)) (λ (y : Float). Halves (add binary32 y (signed_half (not s))) s (suc k)) v
    (λ m e h.
    let big : 1 * 1 * down e < m * up e * 2 = omega (arith, down_pos e) in
    sum_larger s (m * up e * 2) (1 * 1 * down e) (down e * 2) (suc k) (omega (arith, down_pos e)) (omega arith) big (omega arith))

add-zero : (x : Float) (s : Bool) → Halves x s 0 → Halves (add binary32 x (signed_half (not s))) (not s) 1
unfolding add
add-zero x s v =
    finite_with x s 0 (λ (y : Float). Halves (add binary32 y (signed_half (not s))) (not s) 1) v
    (λ m e h.
    sum_smaller s (m * up e * 2) (1 * 1 * down e) (down e * 2) 1 (omega (arith, down_pos e)) (lit< tt) (omega (arith, down_pos e)) (omega arith))

-- ---- times the quantiser

pub unlike_false : (s : Bool) → unlike s false ≡ s
unlike_false true = refl
unlike_false false = refl

pub mul_halves : (x y : Float) (s : Bool) (k q : ℕ) → Halves x s k → Halves y false (q * 2) → k * q < 2 ^ 24 → Halves (mul binary32 x y) s (k * q)
unfolding mul
mul_halves x y s k q v w small =
    finite_with x s k (λ (a : Float). Halves (mul binary32 a y) s (k * q)) v
    (λ m e h.
    finite_with y false (q * 2) (λ (b : Float). Halves (mul binary32 (fin s m e) b) s (k * q)) w
    (λ n d g.
    let whole : n * up d ≡ q * down d = omega arith in
    let product : m * up e * (n * up d) * 2 ≡ k * q * (down e * down d) =
    mul_right_comm (m * up e) (n * up d) 2
    ∙ ap (λ (z : ℕ). z * (n * up d)) h
    ∙ ap (λ (z : ℕ). k * down e * z) whole
    ∙ omega arith in
    subst (λ (t : Bool). Halves (round binary32 (unlike s false) (m * up e * (n * up d)) (down e * down d)) t (k * q)) (unlike_false s)
    (exact_f½ (unlike s false) (m * up e * (n * up d)) (down e * down d) (k * q) (mul-pos (down_pos e) (down_pos d)) small product)))

pub small : (a q : ℕ) → a ≤ 4095 → q ≤ 255 → a * q < 2 ^ 24
small a q h g = omega (arith, mul-le-mul_right q h, mul-le-mul_left 4095 g)

-- ---- the ends: sign and size of 2 low − 1 and of 2 high + 1

abbrev pub low_sign : ℤ → Bool
low_sign (pos zero) = true
low_sign (pos (suc n)) = false
low_sign (negsuc n) = true

abbrev pub low_size : ℤ → ℕ
low_size (pos zero) = 1
low_size (pos (suc n)) = suc (n * 2)
low_size (negsuc n) = suc (suc n * 2)

abbrev pub high_size : ℤ → ℕ
high_size (pos n) = suc (n * 2)
high_size (negsuc n) = suc (n * 2)

minus_f½ : (d : ℤ) → nat_abs d ≤ 2047 → Halves (sub binary32 (of_int binary32 d) f½) (low_sign d) (low_size d)
unfolding sub neg
minus_f½ (pos zero) h = add-zero (of_int binary32 (pos 0)) false (int_halves (pos 0) (omega arith))
minus_f½ (pos (suc n)) h =
    let e : suc n * 2 ≡ suc (suc (n * 2)) = omega arith in
    add_other (of_int binary32 (pos (suc n))) false (n * 2) (subst (Halves (of_int binary32 (pos (suc n))) false) e (int_halves (pos (suc n)) (omega arith))) (omega arith)
minus_f½ (negsuc n) h = add_same (of_int binary32 (negsuc n)) true (suc n * 2) (int_halves (negsuc n) (omega arith)) (omega arith)

plus_f½ : (d : ℤ) → nat_abs d ≤ 2047 → Halves (add binary32 (of_int binary32 d) f½) (is_neg d) (high_size d)
plus_f½ (pos n) h = add_same (of_int binary32 (pos n)) false (n * 2) (int_halves (pos n) (omega arith)) (omega arith)
plus_f½ (negsuc n) h =
    let e : suc n * 2 ≡ suc (suc (n * 2)) = omega arith in
    add_other (of_int binary32 (negsuc n)) true (n * 2) (subst (Halves (of_int binary32 (negsuc n)) true) e (int_halves (negsuc n) (omega arith))) (omega arith)

low_small : (d : ℤ) → nat_abs d ≤ 2047 → low_size d ≤ 4095
low_small (pos zero) h = lit≤ tt
low_small (pos (suc n)) h = omega arith
low_small (negsuc n) h = omega arith

high_small : (d : ℤ) → nat_abs d ≤ 2047 → high_size d ≤ 4095
high_small (pos n) h = omega arith
high_small (negsuc n) h = omega arith

module _ (d : ℤ) (q : ℕ) (level-ok : nat_abs d ≤ 2047) (table-ok : q ≤ 255) where
  q_halves : Halves (of_int binary32 (pos q)) false (q * 2)
  q_halves = int_halves (pos q) (omega arith)

  pub low_halves : Halves (lowest d q) (low_sign d) (low_size d * q)
  unfolding lowest
  low_halves =
      mul_halves (sub binary32 (of_int binary32 d) f½) (of_int binary32 (pos q)) (low_sign d) (low_size d) q (minus_f½ d level-ok) q_halves
      (small (low_size d) q (low_small d level-ok) table-ok)

  pub high_halves : Halves (highest d q) (is_neg d) (high_size d * q)
  unfolding highest
  high_halves =
      mul_halves (add binary32 (of_int binary32 d) f½) (of_int binary32 (pos q)) (is_neg d) (high_size d) q (plus_f½ d level-ok) q_halves
      (small (high_size d) q (high_small d level-ok) table-ok)
