-- What is in a coefficient's interval is at most 2 ^ 19: the ends of the widest are ±522,112.5. So is what start dequantises and what project clamps.
use mathlib.Core.Path.{◌≡◌, refl, sym, subst}
use mathlib.Core.Bool.{Bool, true, false, cond}
use Prim.Native.Nat.{ℕ, zero, suc, ◌+◌, ◌-◌, ◌*◌, ◌/◌, ◌^◌, ◌≤◌}
use native.Mathlib.Nat.{le_trans, le_of_eq, mul-le-mul, mul-le-mul_right, mul_assoc, mul-one}
use native.Mathlib.Omega.{arith}
use lib.Dec.{T, ltb, leb→le, lit≤, lit<}
use lib.IntN.{ℤ, pos, negsuc, neg_ℤ, nat_abs, sub_ℕ, ◌+ℤ◌, ◌*ℤ◌}
use lib.Signed.{◌≤ℤ◌}
use lib.Ieee.{Float, nan, inf, fin, binary32, up, down, fits, round, of_int}
use lib.Ieee.Fits.{mul-fits}
use Rattle.float.specs.Names.{◌⊕◌, ◌⊖◌, ◌⊗◌, float}
use Rattle.float.proofs.Fit.{clamp_fits}
use Rattle.float.proofs.Scaled.{scaled_exact}
use Rattle.interval.specs.Interval.{InInterval, low_end, high_end, lowest, highest, clamp_to, mid, whole, f½}
use Rattle.interval.proofs.Clamp.{clamp_in}
use Rattle.bounds.proofs.Magnitude.{Most, Held, add_most, mul_most, round_most}
use Rattle.bounds.proofs.Good.{Good}
use Rattle.bounds.proofs.Powers.{held}

-- ---- sizes of whole numbers

abs_neg : (n : ℕ) → nat_abs (neg_ℤ (pos n)) ≡ n
abs_neg zero = refl
abs_neg (suc n) = refl

abs_times : (z : ℤ) (n : ℕ) → nat_abs (z *ℤ pos n) ≡ nat_abs z * n
abs_times (pos m) n = refl
abs_times (negsuc m) n = abs_neg (suc m * n)

abs_double : (z : ℤ) → nat_abs (pos 2 *ℤ z) ≡ 2 * nat_abs z
abs_double (pos m) = refl
abs_double (negsuc m) = abs_neg (2 * suc m)

abs_sub : (a b : ℕ) → nat_abs (sub_ℕ a b) ≤ a + suc b
abs_sub a b = go (ltb a b)
  where
    go : (t : Bool) → nat_abs (cond t (negsuc (b - suc a)) (pos (a - b))) ≤ a + suc b
    go true = omega arith
    go false = omega arith

-- one more or one less
abs_step : (z : ℤ) (one : ℤ) → nat_abs one ≤ 1 → nat_abs (z +ℤ one) ≤ nat_abs z + 3
abs_step (pos m) (pos n) h = omega arith
abs_step (pos m) (negsuc n) h = let l : m + suc (suc n) ≤ m + 3 = omega arith in le_trans (abs_sub m (suc n)) l
abs_step (negsuc m) (pos n) h = let l : n + suc (suc m) ≤ suc m + 3 = omega arith in le_trans (abs_sub n (suc m)) l
abs_step (negsuc m) (negsuc n) h = omega arith

-- from below by a number that is not negative, or from above by one that is not positive
le_abs : (n : ℕ) (b : ℤ) → pos n ≤ℤ b → n ≤ nat_abs b
le_abs n (pos m) h = leb→le n m h.le
le_abs n (negsuc m) h = absurd h.le

abs_le : (a : ℤ) (n : ℕ) → a ≤ℤ neg_ℤ (pos n) → n ≤ nat_abs a
abs_le a zero h = omega arith
abs_le (pos m) (suc n) h = absurd h.le
abs_le (negsuc m) (suc n) h = let l = leb→le n m h.le in omega arith

-- ---- intervals

no_nan : (b : ℕ) (x : Float) → Most b x → x ≡ nan → ⊥
unfolding Most
no_nan b x h e = subst (Most b) e h

-- an end, doubled and in units of 2 ^ -149
end_most : (d one : ℤ) (q u : ℕ) → nat_abs d ≤ 2047 → nat_abs one ≤ 1 → q ≤ 255 → nat_abs ((pos 2 *ℤ d +ℤ one) *ℤ pos q *ℤ pos u) ≤ 2 ^ 20 * u
end_most d one q u h g t =
    let n : nat_abs (pos 2 *ℤ d +ℤ one) ≤ 4097 = le_trans (abs_step (pos 2 *ℤ d) one g) (omega (arith, abs_double d)) in
    let m : nat_abs ((pos 2 *ℤ d +ℤ one) *ℤ pos q) ≤ 4097 * 255 = le_trans (le_of_eq (abs_times (pos 2 *ℤ d +ℤ one) q)) (mul-le-mul n t) in
    let big : 4097 * 255 ≤ 2 ^ 20 = lit≤ tt in
    le_trans (le_of_eq (abs_times ((pos 2 *ℤ d +ℤ one) *ℤ pos q) u)) (mul-le-mul_right u (le_trans m big))

module _ (low high : ℤ) (q : ℕ) (low_ok : nat_abs low ≤ 2047) (high-ok : nat_abs high ≤ 2047) (table-ok : q ≤ 255) where
  half : (v u : ℕ) → 2 * v ≤ 2 ^ 20 * u → v ≤ 2 ^ 19 * u
  half v u h =
      let e : 2 ^ 20 * u ≡ 2 * (2 ^ 19 * u) = mul_assoc 2 (2 ^ 19) u in
      omega arith

  pub in_most : (x : Float) → T (fits binary32 x) → InInterval low high q x → Most (2 ^ 168) x
  unfolding InInterval Most
  in_most nan f i = i
  in_most (inf s) f i = i
  in_most (fin false m e) f i =
      let v = m * up e * 2 ^ 149 / down e in
      le_trans (le_of_eq (sym (scaled_exact false m e f)))
      (mul-le-mul_right (down e) (half v (2 ^ 149) (le_trans (le_abs (2 * v) (high_end high q *ℤ pos (2 ^ 149)) i.1) (end_most high (pos 1) q (2 ^ 149) high-ok (lit≤ tt) table-ok))))
  in_most (fin true m e) f i =
      let v = m * up e * 2 ^ 149 / down e in
      le_trans (le_of_eq (sym (scaled_exact true m e f)))
      (mul-le-mul_right (down e)
      (half v (2 ^ 149) (le_trans (abs_le (low_end low q *ℤ pos (2 ^ 149)) (2 * v) (subst (λ (z : ℤ). (low_end low q *ℤ pos (2 ^ 149)) ≤ℤ z) (twice v) i.0)) (end_most low (negsuc 0) q (2 ^ 149) low_ok (lit≤ tt) table-ok))))
    where
      twice : (v : ℕ) → pos 2 *ℤ neg_ℤ (pos v) ≡ neg_ℤ (pos (2 * v))
      twice zero = refl
      twice (suc v) = refl

  -- what is clamped to the interval, but for a NaN
  pub clamped_good : low ≤ℤ high → (b : ℕ) (x : Float) → Good b x → Good (2 ^ 168) (clamp_to low high q x)
  unfolding lowest highest
  clamped_good order b x g =
      let f = clamp_fits x (lowest low q) (highest high q) g.0 (mul-fits binary32 (whole low ⊖ f½) (float q)) (mul-fits binary32 (whole high ⊕ f½) (float q)) in
      (f, in_most (clamp_to low high q x) f (clamp_in low high q order low_ok high-ok table-ok x (no_nan b x g.1)))

-- ---- levels and quantisers as f32

whole_most : (s : Bool) (n b : ℕ) → n ≤ b → Held (b * 2 ^ 149) → Most (b * 2 ^ 149) (round binary32 s n 1)
whole_most s n b h H = round_most s n 1 (b * 2 ^ 149) H (lit< tt) (le_trans (mul-le-mul_right (2 ^ 149) h) (le_of_eq (sym (mul-one (b * 2 ^ 149)))))

level_most : (d : ℤ) → nat_abs d ≤ 2047 → Most (2 ^ 160) (whole d)
unfolding of_int
level_most (pos n) h = whole_most false n (2 ^ 11) (le_trans h (lit≤ tt)) (held 160 (lit< tt))
level_most (negsuc n) h = whole_most true (suc n) (2 ^ 11) (le_trans h (lit≤ tt)) (held 160 (lit< tt))

pub quant_most : (q : ℕ) → q ≤ 255 → Most (2 ^ 157) (float q)
unfolding of_int
quant_most q h = whole_most false q (2 ^ 8) (le_trans h (lit≤ tt)) (held 157 (lit< tt))

half_most : Most (2 ^ 148) f½
unfolding Most
half_most = lit≤ tt

-- the half sum of a pair of levels
pub mid_most : (low high : ℤ) → nat_abs low ≤ 2047 → nat_abs high ≤ 2047 → Most (2 ^ 160) (mid low high)
unfolding mid
mid_most low high l h =
    mul_most (2 ^ 161) (2 ^ 148) (2 ^ 160) (whole low ⊕ whole high) f½ (held 160 (lit< tt)) (lit≤ tt)
    (add_most (2 ^ 160) (2 ^ 160) (2 ^ 161) (whole low) (whole high) (held 161 (lit< tt)) (lit≤ tt) (level_most low l) (level_most high h)) half_most

-- a level's value, of at most 2 ^ 11, times a quantiser
pub product_good : (level : Float) (q : ℕ) → Most (2 ^ 160) level → q ≤ 255 → Good (2 ^ 168) (level ⊗ float q)
product_good level q m t = (mul-fits binary32 level (float q), mul_most (2 ^ 160) (2 ^ 157) (2 ^ 168) level (float q) (held 168 (lit< tt)) (lit≤ tt) m (quant_most q t))
