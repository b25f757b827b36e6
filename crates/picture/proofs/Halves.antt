-- The nearest whole number of a clamped value, halves upward: as the code works it out, and that it is one. Assumes nothing.
use Rattle.std.proofs.Common.{◌≡◌, ℕ, zero, suc, ◌+◌, ◌*◌, ◌/◌, ◌^◌, ◌<◌, ◌≤◌, min, Bool, true, false, ◌&&◌, ◌||◌, T, eqb, ltb, List, [], ◌∷◌, get_or, drop, ℤ, negsuc, sym, refl, ap, ◌∙◌, subst, ⊎_elim, true≢false, le_refl, le_of_suc-le-suc, not-suc-le-zero, mul-le-mul_right, mul_assoc, suc-mul, mul_comm, div-lt_iff_lt-mul, add-mul, le_antisymm, lt_of_mul-lt-mul_right, eq-or-lt_of_le, mul-lt-mul_of_pos_right, lt_of_not-le, le-div_iff_mul-le, mul-one, mul_right_comm, le_of_mul-le-mul_right, mul_left_comm, arith, pow_pos, ltb-false, ltb-true, ne_eqb, eqb-true}
use native.Mathlib.Decide.{dec_le}
use borrow.Author.Tests.{eqb-false}
use lib.Ieee.{Float, nan, inf, fin, binary32, up, down, add, lt, eq, le, of_bits, of_int, to_unsigned, fits}
use lib.Ieee.Casts.{to_unsigned-lt}
use lib.Ieee.Fits.{down_pos}
use lib.Ieee.Scale.{finite}
use Rattle.float.specs.Names.{◌⊕◌, f0, f255, float}
use Rattle.float.specs.Nearest.{gap}
use Rattle.float.proofs.Scaled.{scaled_exact}
use Rattle.picture.specs.Finish.{nearest}
use Rattle.picture.specs.NearestUp.{NearestUp}
use Rattle.picture.proofs.Bytes.{below_256}

-- ---- the middle between k and k + 1 is computed without rounding: looked at for each k of a byte

-- f of n - 1, .., 1, 0
abbrev column : (ℕ → Float) → ℕ → List Float
column f zero = []
column f (suc n) = f n ∷ column f n

agree : (f g : ℕ → Float) (n k : ℕ) → column f n ≡ column g n → k < n → f k ≡ g k
agree f g zero k e h = absurd (not-suc-le-zero h)
agree f g (suc n) k e h =
    ⊎_elim
    (λ i. subst (λ (j : ℕ). f j ≡ g j) (sym i) (ap (λ l. get_or l 0 nan) e))
    (λ i. agree f g n k (ap (drop 1) e) i)
    (eq-or-lt_of_le (le_of_suc-le-suc h))

-- 0.5
abbrev pub f½ : Float
f½ = of_bits binary32 0x3f000000

middle : (k : ℕ) → k < 256 → float k ⊕ f½ ≡ fin false (2 * k + 1) (negsuc 0)
unfolding add of_int of_bits
middle k h = agree (λ i. float i ⊕ f½) (λ i. fin false (2 * i + 1) (negsuc 0)) 256 k refl h

-- ---- the whole part of a / d + 1/2, by that of a / d
part_is : (n d q : ℕ) → 0 < d → q * d ≤ n → n < suc q * d → n / d ≡ q
part_is n d q p l h = le_antisymm (le_of_suc-le-suc ((div-lt_iff_lt-mul p).1 h)) ((le-div_iff_mul-le p).1 l)

module _ (a d : ℕ) (p : 0 < d) where
  abbrev part : ℕ
  part = a / d

  -- part * d ≤ a < (part + 1) * d, and products that occur
  lower : part * d ≤ a
  lower = (le-div_iff_mul-le p).0 (omega arith)

  upper : a < part * d + d
  upper = let h : a < suc part * d = (div-lt_iff_lt-mul p).0 (omega arith) in rw (suc-mul part d) at h

  times : (k : ℕ) → (2 * k + 1) * d ≡ 2 * (k * d) + d
  times k = add-mul (2 * k) 1 d ∙ omega (arith, mul_assoc 2 k d)

  doubled : (k : ℕ) → k * (2 * d) ≡ 2 * (k * d)
  doubled k = mul_left_comm k 2 d

  upward : (2 * part + 1) * d ≤ 2 * a → (2 * a + d) / (2 * d) ≡ part + 1
  upward h =
      part_is (2 * a + d) (2 * d) (part + 1) (omega arith)
      (omega (arith, doubled (part + 1), add-mul part 1 d, times part))
      (omega (arith, suc-mul (part + 1) (2 * d), doubled (part + 1), add-mul part 1 d, upper))

  downward : 2 * a < (2 * part + 1) * d → (2 * a + d) / (2 * d) ≡ part
  downward h =
      part_is (2 * a + d) (2 * d) part (omega arith)
      (omega (arith, doubled part, lower))
      (omega (arith, suc-mul part (2 * d), doubled part, times part))

  -- nothing is moved above 255
  under : (k : ℕ) → (2 * k + 1) * d ≤ 2 * a → a ≤ 255 * d → k < 255
  under k h l = lt_of_mul-lt-mul_right d (omega (arith, times k))

-- ---- what the comparison says
at-most : (x y : ℕ) → ltb x y || (eqb x y && true) ≡ true → x ≤ y
at-most x y = go (ltb x y) (eqb x y) refl refl
  where
    go : (b c : Bool) → ltb x y ≡ b → eqb x y ≡ c → b || (c && true) ≡ true → x ≤ y
    go true c e f h = omega (arith, ltb-true x y e)
    go false true e f h = omega (arith, eqb-true x y f)
    go false false e f h = absurd (true≢false (sym h))

beyond : (x y : ℕ) → ltb x y || (eqb x y && true) ≡ false → y < x
beyond x y = go (ltb x y) (eqb x y) refl refl
  where
    go : (b c : Bool) → ltb x y ≡ b → eqb x y ≡ c → b || (c && true) ≡ false → y < x
    go true c e f h = absurd (true≢false h)
    go false true e f h = absurd (true≢false h)
    go false false e f h = let ne = eqb-false x y f in let l = ltb-false x y e in ⊎_elim (λ i. absurd (ne (sym i))) (λ i. i) (eq-or-lt_of_le l)

-- ---- the byte, by what the code compares
abbrev above : Float → Bool
above v = le (fin false (2 * to_unsigned 8 v + 1) (negsuc 0)) v

compared : (v : Float) → le (float (to_unsigned 8 v) ⊕ f½) v ≡ above v
compared v = ap (λ (x : Float). le x v) (middle (to_unsigned 8 v) (to_unsigned-lt 8 v))

whole : (m : ℕ) (e : ℤ) → lt f255 (fin false m e) ≡ false → min (m * up e / down e) 255 ≡ m * up e / down e
unfolding lt of_bits
whole m e h = omega (arith, below_256 (m * up e) (down e) (down_pos e) (omega (arith, ltb-false)))

-- a half and more is not below 0
not-less : (b : Bool) (d : ℕ) → 0 < d → b && (false || eqb ((2 * 0 + 1) * 1 * d) 0) ≡ false
not-less true d p = ne_eqb ((2 * 0 + 1) * 1 * d) 0 (λ e. absurd (omega arith))
not-less false d p = refl

more : (v : Float) → lt f255 v ≡ false → above v ≡ true → (to_unsigned 8 v + 1 ≡ nearest v) × (to_unsigned 8 v < 255)
unfolding lt eq le of_bits to_unsigned nearest
more nan h t = absurd (true≢false (sym t))
more (inf true) h t = absurd (true≢false (sym t))
more (inf false) h t = absurd (true≢false h)
more (fin true m e) h t = absurd (true≢false (sym t ∙ not-less (eqb ((2 * 0 + 1) * 1 * down e) (m * up e * 2)) (down e) (down_pos e)))
more (fin false m e) h t =
    let a = m * up e in
    let d = down e in
    let k = a / d in
    let w = whole m e h in
    let l : (2 * k + 1) * 1 * d ≤ a * 2 = at-most _ _ (rw w at t) in
    let n : (2 * k + 1) * d ≤ 2 * a = omega (arith, mul-one (2 * k + 1)) in
    let u = upward a d (down_pos e) n in
    let b = under a d (down_pos e) k n (omega (arith, ltb-false)) in
    (omega arith, omega arith)

less : (v : Float) → lt f255 v ≡ false → above v ≡ false → to_unsigned 8 v ≡ nearest v
unfolding lt eq le of_bits to_unsigned nearest
less nan h t = refl
less (inf true) h t = refl
less (inf false) h t = refl
less (fin true m e) h t = refl
less (fin false m e) h t =
    let a = m * up e in
    let d = down e in
    let k = a / d in
    let w = whole m e h in
    let l : a * 2 < (2 * k + 1) * 1 * d = beyond _ _ (rw w at t) in
    let n : 2 * a < (2 * k + 1) * d = omega (arith, mul-one (2 * k + 1)) in
    rw (downward a d (down_pos e) n)

module _ (v : Float) (h : lt f255 v ≡ false) where
  pub half_or_more : le (float (to_unsigned 8 v) ⊕ f½) v ≡ true → (to_unsigned 8 v + 1 ≡ nearest v) × (to_unsigned 8 v < 255)
  half_or_more t = more v h (sym (compared v) ∙ t)

  pub less_than_half : le (float (to_unsigned 8 v) ⊕ f½) v ≡ false → to_unsigned 8 v ≡ nearest v
  less_than_half t = less v h (sym (compared v) ∙ t)

-- ---- it is the nearest one: a / d being n / D

-- r - 1/2 ≤ a / d < r + 1/2 says the same of n / D
module _ (a d n D r : ℕ) (p : 0 < d) (e : n * d ≡ a * D) where
  left : 2 * (r * D) * d ≡ 2 * (r * d * D)
  left = mul_assoc 2 (r * D) d ∙ ap (λ (x : ℕ). 2 * x) (mul_right_comm r D d)

  right : (2 * n + D) * d ≡ (2 * a + d) * D
  right = add-mul (2 * n) D d ∙ omega (arith, e, mul_assoc 2 n d, mul_assoc 2 a D, mul_comm D d, add-mul (2 * a) d D)

  low-end : 2 * (r * d) ≤ 2 * a + d → 2 * (r * D) ≤ 2 * n + D
  low-end h =
      let l : 2 * (r * D) * d ≤ (2 * n + D) * d = omega (arith, left, right, mul_assoc 2 (r * d) D, mul-le-mul_right D h) in
      le_of_mul-le-mul_right l p

  high-end : 0 < D → 2 * a + d < 2 * (r * d) + 2 * d → 2 * n + D < 2 * (r * D) + 2 * D
  high-end P h =
      lt_of_mul-lt-mul_right d
      (omega (
        arith,
        left,
        right,
        mul_assoc 2 (r * d) D,
        mul_assoc 2 d D,
        mul_assoc 2 D d,
        mul_comm D d,
        add-mul (2 * (r * d)) (2 * d) D,
        add-mul (2 * (r * D)) (2 * D) d,
        mul-lt-mul_of_pos_right h P,
      ))

-- so no other whole number is nearer, and none above is as near
module _ (n D r : ℕ) (l : 2 * (r * D) ≤ 2 * n + D) (h : 2 * n + D < 2 * (r * D) + 2 * D) where
  step : (i j : ℕ) → i < j → i * D + D ≤ j * D
  step i j k = omega (arith, suc-mul i D, mul-le-mul_right D k)

  none_nearer : (k : ℕ) → gap n (r * D) ≤ gap n (k * D)
  none_nearer k = elim (dec_le k r) [ yes p ↦ ⊎_elim (λ e. rw e (le_refl _)) (λ i. omega (arith, step k r i)) (eq-or-lt_of_le p) | no q ↦ omega (arith, step r k (lt_of_not-le q)) ]

  none_above : (k : ℕ) → gap n (r * D) ≡ gap n (k * D) → k ≤ r
  none_above k e = elim (dec_le k r) [ yes p ↦ p | no q ↦ absurd (omega (arith, e, step r k (lt_of_not-le q))) ]

is_near : (s : Bool) (m : ℕ) (e : ℤ) (r : ℕ) → T (fits binary32 (fin s m e)) → 2 * (r * down e) ≤ 2 * (m * up e) + down e
    → 2 * (m * up e) + down e < 2 * (r * down e) + 2 * down e → NearestUp (fin s m e) r
is_near s m e r f l h =
    let n = m * up e * 2 ^ 149 / down e in
    let x : n * down e ≡ m * up e * 2 ^ 149 = scaled_exact s m e f in
    let p = down_pos e in
    let b = low-end (m * up e) (down e) n (2 ^ 149) r p x l in
    let t = high-end (m * up e) (down e) n (2 ^ 149) r p x (pow_pos 149) h in
    record {
      s = s;
      n = n;
      is = (refl, sym x);
      near = none_nearer n (2 ^ 149) r b t;
      upward = none_above n (2 ^ 149) r b t;
    }

-- the bounds of r = (2 * a + d) / (2 * d), which is a byte
module _ (a d : ℕ) (p : 0 < d) where
  abbrev near_part : ℕ
  near_part = (2 * a + d) / (2 * d)

  from_below : 2 * (near_part * d) ≤ 2 * a + d
  from_below = let h : near_part * (2 * d) ≤ 2 * a + d = lower (2 * a + d) (2 * d) (omega arith) in omega (arith, doubled a d p near_part)

  from_above : 2 * a + d < 2 * (near_part * d) + 2 * d
  from_above = let h : 2 * a + d < near_part * (2 * d) + 2 * d = upper (2 * a + d) (2 * d) (omega arith) in omega (arith, doubled a d p near_part)

  a_byte : a ≤ 255 * d → near_part < 256
  a_byte h = let q : 0 < 2 * d = omega arith in (div-lt_iff_lt-mul q).1 (omega arith)

-- "the nearest whole number of the clamped f32, halves upward": for each f32 from 0 to 255
pub nearest_up : (v : Float) → T (fits binary32 v) → T (finite v) → lt v f0 ≡ false → lt f255 v ≡ false → NearestUp v (nearest v)
unfolding lt of_bits nearest
nearest_up nan f t g h = absurd t
nearest_up (inf s) f t g h = absurd t
nearest_up (fin true m e) f t g h =
    let z : m * up e ≡ 0 = omega (arith, ltb-false) in
    is_near true m e 0 f (omega arith) (omega (arith, down_pos e))
nearest_up (fin false m e) f t g h =
    let a = m * up e in
    let d = down e in
    let p = down_pos e in
    let b : min (near_part a d p) 255 ≡ near_part a d p = omega (arith, a_byte a d p (omega (arith, ltb-false))) in
    rw b (is_near false m e (near_part a d p) f (from_below a d p) (from_above a d p))
