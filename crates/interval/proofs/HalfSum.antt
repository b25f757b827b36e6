-- M-105: the half sum of a pair of levels and its product with the quantiser are exact and in the pair's interval, whose ends are apart; of an equal pair
-- the half sum is the level itself. Assumes nothing.
use mathlib.Core.Path.{◌≡◌, refl, sym, ap, ◌∙◌}
use mathlib.Core.Logic.{⊎_elim}
use Prim.Native.Nat.{ℕ, zero, suc, ◌+◌, ◌-◌, ◌*◌, ◌^◌, ◌≤◌, ◌<◌}
use native.Mathlib.Nat.{eq-or-lt_of_le, mul-le-mul_right, mul-pos}
use native.Mathlib.Omega.{arith}
use mathlib.Core.Bool.{Bool, true, false, cond}
use lib.IntN.{ℤ, pos, negsuc, neg_ℤ, nat_abs, ◌+ℤ◌, ◌*ℤ◌}
use lib.Signed.{◌≤ℤ◌}
use lib.Dec.{leb→le, lit<, ltb}
use borrow.Author.Tests.{le-ltb, lt-ltb, ltb-false, ltb-true}
use lib.Ieee.{Float, fin, up, down, binary32, round, sum, mul, of_int, below, lt}
use lib.Ieee.Fits.{down_pos}
use lib.Ieee.Scale.{round_same}
use Rattle.float.proofs.SumCases.{add_value}
use Rattle.interval.specs.Interval.{InInterval, IsHalf, HalfSums, OfSheet, EndsApart, dequantised, f½, lowest, highest, mid, whole}
use Rattle.interval.proofs.Ends.{Halves, exact_f½, finite_with, high_halves, high_size, int_halves, is_neg, low_halves, low_sign, low_size, mul_halves, small, sum_larger, sum_same, sum_smaller, unlike_false}
use Rattle.interval.proofs.Clamp.{Below, halves_in}

-- a sum of two signs that is not below 0
sum_up : (a b c k : ℕ) → 0 < c → k < 2 ^ 24 → a ≤ b → (b - a) * 2 ≡ k * c → Halves (sum binary32 true a false b c) false k
unfolding sum
sum_up a b c k p l m h =
    ⊎_elim
    (λ e.
    let no : ltb a b ≡ false = le-ltb a b (omega arith) in
    let non : ltb b a ≡ false = le-ltb b a (omega arith) in
    rw (no, non) (exact_f½ false (a - b) c k p l (omega arith)))
    (λ e. sum_smaller true a b c k p l e h)
    (eq-or-lt_of_le m)

sum_down : (a b c k : ℕ) → 0 < c → k < 2 ^ 24 → b ≤ a → (a - b) * 2 ≡ k * c → Halves (sum binary32 false a true b c) false k
unfolding sum
sum_down a b c k p l m h = rw (le-ltb a b m) (exact_f½ false (a - b) c k p l h)

-- the sum of two whole numbers
abbrev total : ℤ → ℤ → Float
total low high = sum binary32 (is_neg low) (nat_abs low * 2) (is_neg high) (nat_abs high * 2) 2

choose : (b : Bool) (x y : ℤ) (P : ℤ → Type 0) → (b ≡ true → P x) → (b ≡ false → P y) → P (cond b x y)
choose true x y P t f = t refl
choose false x y P t f = f refl

total_halves : (low high : ℤ) → nat_abs low ≤ 32768 → nat_abs high ≤ 32768 → Halves (total low high) (is_neg (low +ℤ high)) (nat_abs (low +ℤ high) * 2)
total_halves (pos a) (pos b) h g = sum_same false (a * 2) (b * 2) 2 ((a + b) * 2) (lit< tt) (omega arith) (omega arith)
total_halves (negsuc a) (negsuc b) h g = sum_same true (suc a * 2) (suc b * 2) 2 (suc (suc (a + b)) * 2) (lit< tt) (omega arith) (omega arith)
total_halves (pos a) (negsuc b) h g =
    choose (ltb a (suc b)) (negsuc (suc b - suc a)) (pos (a - suc b)) (λ z. Halves (total (pos a) (negsuc b)) (is_neg z) (nat_abs z * 2))
    (λ e. let l : a < suc b = ltb-true a (suc b) e in sum_smaller false (a * 2) (suc b * 2) 2 (suc (suc b - suc a) * 2) (lit< tt) (omega arith) (omega arith) (omega arith))
    (λ e. let l : suc b ≤ a = ltb-false a (suc b) e in sum_down (a * 2) (suc b * 2) 2 ((a - suc b) * 2) (lit< tt) (omega arith) (omega arith) (omega arith))
total_halves (negsuc a) (pos b) h g =
    choose (ltb b (suc a)) (negsuc (suc a - suc b)) (pos (b - suc a)) (λ z. Halves (total (negsuc a) (pos b)) (is_neg z) (nat_abs z * 2))
    (λ e. let l : b < suc a = ltb-true b (suc a) e in sum_larger true (suc a * 2) (b * 2) 2 (suc (suc a - suc b) * 2) (lit< tt) (omega arith) (omega arith) (omega arith))
    (λ e. let l : suc a ≤ b = ltb-false b (suc a) e in sum_up (suc a * 2) (b * 2) 2 ((b - suc a) * 2) (lit< tt) (omega arith) (omega arith) (omega arith))

-- half of ±k
half_of : (x : Float) (s : Bool) (k : ℕ) → k < 2 ^ 24 → Halves x s (k * 2) → mul binary32 x f½ ≡ round binary32 s k 2
unfolding mul
half_of x s k l v =
    finite_with x s (k * 2) (λ y. mul binary32 y f½ ≡ round binary32 s k 2) v
    (λ m e h.
    ap (λ (t : Bool). round binary32 t (m * up e * (1 * 1)) (down e * 2)) (unlike_false s)
    ∙ round_same binary32 s (m * up e * (1 * 1)) (down e * 2) k 2 (omega (arith, down_pos e)) (lit< tt) (omega arith))

pub size_most : (low high : ℤ) → nat_abs (low +ℤ high) ≤ nat_abs low + nat_abs high
size_most (pos a) (pos b) = omega arith
size_most (negsuc a) (negsuc b) = omega arith
size_most (pos a) (negsuc b) = choose (ltb a (suc b)) (negsuc (suc b - suc a)) (pos (a - suc b)) (λ z. nat_abs z ≤ a + suc b) (λ e. omega arith) (λ e. omega arith)
size_most (negsuc a) (pos b) = choose (ltb b (suc a)) (negsuc (suc a - suc b)) (pos (b - suc a)) (λ z. nat_abs z ≤ suc a + b) (λ e. omega arith) (λ e. omega arith)

-- any two levels of 16 bits
module _ (low high : ℤ) (low_ok : nat_abs low ≤ 32768) (high_ok : nat_abs high ≤ 32768) where
  mid_round : mid low high ≡ round binary32 (is_neg (low +ℤ high)) (nat_abs (low +ℤ high)) 2
  unfolding mid
  mid_round =
      let e = add_value binary32 (whole low) (whole high) (is_neg low) (is_neg high) (nat_abs low * 2) (nat_abs high * 2) 2 (lit< tt) (int_halves low low_ok) (int_halves high high_ok) in
      ap (λ (x : Float). mul binary32 x f½) e
      ∙ half_of (total low high) (is_neg (low +ℤ high)) (nat_abs (low +ℤ high)) (omega (arith, size_most low high)) (total_halves low high low_ok high_ok)

  -- the half sum is (low + high) / 2
  pub mid_halves : Halves (mid low high) (is_neg (low +ℤ high)) (nat_abs (low +ℤ high))
  mid_halves =
      rw mid_round (exact_f½ (is_neg (low +ℤ high)) (nat_abs (low +ℤ high)) 2 (nat_abs (low +ℤ high)) (lit< tt) (omega (arith, size_most low high)) refl)

-- levels of a sheet
module _ (low high : ℤ) (low_ok : nat_abs low ≤ 2047) (high-ok : nat_abs high ≤ 2047) where
  -- and its product with the quantiser (low + high) × q / 2
  pub product_halves : (q : ℕ) → q ≤ 255 → Halves (dequantised (mid low high) q) (is_neg (low +ℤ high)) (nat_abs (low +ℤ high) * q)
  unfolding dequantised
  product_halves q h =
      mul_halves (mid low high) (of_int binary32 (pos q)) (is_neg (low +ℤ high)) (nat_abs (low +ℤ high)) q (mid_halves low high (omega arith) (omega arith)) (int_halves (pos q) (omega arith))
      (small (nat_abs (low +ℤ high)) q (omega (arith, size_most low high)) h)

-- an equal pair has the level's own value
twice_is : (d : ℤ) → (is_neg (d +ℤ d) ≡ is_neg d) × (nat_abs (d +ℤ d) ≡ nat_abs d * 2)
twice_is (pos n) = (refl, omega arith)
twice_is (negsuc n) = (refl, omega arith)

whole_round : (d : ℤ) → whole d ≡ round binary32 (is_neg d) (nat_abs d) 1
unfolding of_int
whole_round (pos n) = refl
whole_round (negsuc n) = refl

pub mid_equal : (d : ℤ) → nat_abs d ≤ 32768 → mid d d ≡ whole d
mid_equal d h =
    mid_round d d h h ∙ rw ((twice_is d).0, (twice_is d).1) (round_same binary32 (is_neg d) (nat_abs d * 2) 2 (nat_abs d) 1 (lit< tt) (lit< tt) (omega arith)) ∙ sym (whole_round d)

-- ---- the half sum × quantiser is in the pair's interval

mid_above : (low high : ℤ) (q w : ℕ) → low ≤ℤ high
    → Below (low_sign low) (low_size low * q * w) (is_neg (low +ℤ high)) (nat_abs (low +ℤ high) * q * w)
mid_above (pos zero) (pos b) q w h = tt
mid_above (pos zero) (negsuc b) q w h = absurd h.le
mid_above (pos (suc n)) (pos b) q w h =
    let l : suc n ≤ b = leb→le (suc n) b h.le in
    mul-le-mul_right w (mul-le-mul_right q (omega arith))
mid_above (pos (suc n)) (negsuc b) q w h = absurd h.le
mid_above (negsuc n) (pos b) q w h =
    choose (ltb b (suc n)) (negsuc (suc n - suc b)) (pos (b - suc n)) (λ z. Below true (suc (suc n * 2) * q * w) (is_neg z) (nat_abs z * q * w))
    (λ e. mul-le-mul_right w (mul-le-mul_right q (omega arith))) (λ e. tt)
mid_above (negsuc n) (negsuc b) q w h =
    let l : b ≤ n = leb→le b n h.le in
    mul-le-mul_right w (mul-le-mul_right q (omega arith))

mid_below : (low high : ℤ) (q w : ℕ) → low ≤ℤ high
    → Below (is_neg (low +ℤ high)) (nat_abs (low +ℤ high) * q * w) (is_neg high) (high_size high * q * w)
mid_below (pos a) (pos b) q w h =
    let l : a ≤ b = leb→le a b h.le in
    mul-le-mul_right w (mul-le-mul_right q (omega arith))
mid_below (pos a) (negsuc b) q w h = absurd h.le
mid_below (negsuc n) (pos b) q w h =
    choose (ltb b (suc n)) (negsuc (suc n - suc b)) (pos (b - suc n)) (λ z. Below (is_neg z) (nat_abs z * q * w) false (suc (b * 2) * q * w))
    (λ e. tt) (λ e. mul-le-mul_right w (mul-le-mul_right q (omega arith)))
mid_below (negsuc n) (negsuc b) q w h =
    let l : b ≤ n = leb→le b n h.le in
    mul-le-mul_right w (mul-le-mul_right q (omega arith))

pub mid_in : (low high : ℤ) (q : ℕ) → low ≤ℤ high → nat_abs low ≤ 2047 → nat_abs high ≤ 2047 → q ≤ 255 → InInterval low high q (dequantised (mid low high) q)
mid_in low high q order h g k =
    halves_in low high q (dequantised (mid low high) q) (is_neg (low +ℤ high)) (nat_abs (low +ℤ high) * q) (product_halves low high h g q k)
    (mid_above low high q (2 ^ 149) order) (mid_below low high q (2 ^ 149) order)

-- ---- the statements of specs/Interval.antt

is_half : (x : Float) (z : ℤ) → Halves x (is_neg z) (nat_abs z) → IsHalf x z
is_half x (pos n) h = h
is_half x (negsuc n) h = h

less_half : (x : Float) (m : ℕ) → 0 < m → Halves x true m → IsHalf x (neg_ℤ (pos m))
less_half x zero p h = absurd (omega arith)
less_half x (suc m) p h = h

is_product : (x : Float) (z : ℤ) (q : ℕ) → 0 < q → Halves x (is_neg z) (nat_abs z * q) → IsHalf x (z *ℤ pos q)
is_product x (pos n) q p h = h
is_product x (negsuc n) q p h = let some : 0 < suc n = omega arith in less_half x (suc n * q) (mul-pos some p) h

pub mid_is_half : (low high : ℤ) → nat_abs low ≤ 32768 → nat_abs high ≤ 32768 → IsHalf (mid low high) (low +ℤ high)
mid_is_half low high h g = is_half (mid low high) (low +ℤ high) (mid_halves low high h g)

pub product_is_half : (low high : ℤ) (q : ℕ) → OfSheet low high q → IsHalf (dequantised (mid low high) q) ((low +ℤ high) *ℤ pos q)
product_is_half low high q o =
    is_product (dequantised (mid low high) q) (low +ℤ high) q o.some (product_halves low high o.low_most o.high_most q o.most)

pub product_in : (low high : ℤ) (q : ℕ) → OfSheet low high q → InInterval low high q (dequantised (mid low high) q)
product_in low high q o = mid_in low high q o.ordered o.low_most o.high_most o.most

pub half_sum : HalfSums
half_sum low high q order h g l k =
    record {
      half = is_half (mid low high) (low +ℤ high) (mid_halves low high (omega arith) (omega arith));
      product = is_product (dequantised (mid low high) q) (low +ℤ high) q l (product_halves low high h g q k);
      inside = mid_in low high q order h g k;
    }

-- ±a below ±b
abbrev Apart : Bool → ℕ → Bool → ℕ → Type 0
Apart false a false b = a < b
Apart false a true b = ⊥
Apart true a false b = 0 < a
Apart true a true b = b < a

-- and so with their halves, as fractions x / d and y / e
apart : (s t : Bool) (a b x d y e : ℕ) → Apart s a t b → 0 < d → 0 < e → x * 2 ≡ a * d → y * 2 ≡ b * e → below s (x * e) t (y * d) ≡ true
apart false false a b x d y e l p r v w =
    lt-ltb (x * e) (y * d) (omega (arith, mul-pos p r, mul-le-mul_right (d * e) l, ap (λ (z : ℕ). z * e) v, ap (λ (z : ℕ). z * d) w))
apart false true a b x d y e l p r v w = absurd l
apart true false a b x d y e l p r v w =
    lt-ltb 0 (x * e + y * d) (omega (arith, mul-pos l (mul-pos p r), ap (λ (z : ℕ). z * e) v))
apart true true a b x d y e l p r v w =
    lt-ltb (y * d) (x * e) (omega (arith, mul-pos p r, mul-le-mul_right (d * e) l, ap (λ (z : ℕ). z * e) v, ap (λ (z : ℕ). z * d) w))

sizes_apart : (low high : ℤ) (q : ℕ) → low ≤ℤ high → 0 < q → Apart (low_sign low) (low_size low * q) (is_neg high) (high_size high * q)
sizes_apart (pos zero) (pos b) q h p = omega arith
sizes_apart (pos zero) (negsuc b) q h p = absurd h.le
sizes_apart (pos (suc n)) (pos b) q h p =
    let l : suc n ≤ b = leb→le (suc n) b h.le in
    let less : suc (suc (n * 2)) ≤ suc (b * 2) = omega arith in
    omega (arith, mul-le-mul_right q less)
sizes_apart (pos (suc n)) (negsuc b) q h p = absurd h.le
sizes_apart (negsuc n) (pos b) q h p = let some : 0 < suc (suc n * 2) = omega arith in mul-pos some p
sizes_apart (negsuc n) (negsuc b) q h p =
    let l : b ≤ n = leb→le b n h.le in
    let less : suc (suc (b * 2)) ≤ suc (suc n * 2) = omega arith in
    omega (arith, mul-le-mul_right q less)

pub ends_apart : EndsApart
unfolding lt
ends_apart low high q order h g l k =
    finite_with (lowest low q) (low_sign low) (low_size low * q) (λ (x : Float). lt x (highest high q) ≡ true) (low_halves low q h k)
    (λ m e v.
    finite_with (highest high q) (is_neg high) (high_size high * q) (λ (y : Float). lt (fin (low_sign low) m e) y ≡ true) (high_halves high q g k)
    (λ n d w.
    apart (low_sign low) (is_neg high) (low_size low * q) (high_size high * q) (m * up e) (down e) (n * up d) (down d) (sizes_apart low high q order l) (down_pos e) (down_pos d) v w))
