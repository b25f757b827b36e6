-- What is clamped to an interval is in it, unless it is a NaN. Assumes nothing.
use mathlib.Core.Path.{◌≡◌, refl, sym, ap, ◌∙◌, subst}
use Prim.Native.Nat.{ℕ, zero, suc, ◌+◌, ◌-◌, ◌*◌, ◌/◌, ◌^◌, ◌≤◌, ◌<◌}
use native.Mathlib.Nat.{le-div_iff_mul-le, div-mul-le_self, le_of_mul-le-mul_right, mul-le-mul_right, le_antisymm, le_trans}
use native.Mathlib.Omega.{arith}
use mathlib.Core.Bool.{Bool, true, false, cond, ◌||◌}
use lib.IntN.{ℤ, pos, negsuc, neg_ℤ, nat_abs, ◌+ℤ◌, ◌*ℤ◌}
use lib.Signed.{◌≤ℤ◌, le_z_yes}
use lib.Dec.{T, le→leb, leb→le, lit<}
use borrow.Author.Tests.{lt-ltb, le-ltb, ltb-false}
use Rattle.std.specs.Prelude.{int_lt}
use Rattle.std.proofs.lemmas.Int.{ints}
use lib.Ieee.{Float, nan, inf, fin, up, down, below, binary32, fits, lt}
use lib.Ieee.Fits.{down_pos}
use Rattle.fold.proofs.Choice.{neither}
use Rattle.float.specs.Nearest.{signed}
use Rattle.interval.specs.Interval.{low_end, high_end, InInterval, OfSheet, lies_outside, lowest, highest, outside}
use Rattle.float.specs.Ops.{at_least, clamp}
use Rattle.float.proofs.Scaled.{scaled_exact}
use Rattle.interval.proofs.Ends.{Halves, finite_with, is_neg, low_sign, low_size, high_size, low_halves, high_halves}

-- ---- numbers with a sign: ±a ≤ ±b
abbrev pub Below : Bool → ℕ → Bool → ℕ → Type 0
Below false a false b = a ≤ b
Below false a true b = (a ≡ 0) × (b ≡ 0)
Below true a false b = Unit {0}
Below true a true b = b ≤ a

signed_le : (s t : Bool) (a b : ℕ) → Below s a t b → signed s a ≤ℤ signed t b
signed_le false false a b h = le_z_yes (le→leb a b h)
signed_le false true a b h =
    subst (λ (x : ℕ). pos x ≤ℤ signed true b) (sym h.0) (subst (λ (x : ℕ). pos 0 ≤ℤ signed true x) (sym h.1) (le_z_yes tt))
signed_le true false zero b h = le_z_yes (le→leb 0 b (omega arith))
signed_le true false (suc a) b h = le_z_yes tt
signed_le true true zero zero h = le_z_yes tt
signed_le true true zero (suc b) h = absurd (omega arith)
signed_le true true (suc a) zero h = le_z_yes tt
signed_le true true (suc a) (suc b) h = le_z_yes (le→leb b a (omega arith))

twice : (s : Bool) (m : ℕ) → pos 2 *ℤ signed s m ≡ signed s (2 * m)
twice false m = refl
twice true zero = refl
twice true (suc m) = refl

times : (s : Bool) (a u : ℕ) → signed s a *ℤ pos u ≡ signed s (a * u)
times false a u = refl
times true zero u =
    let e : 0 * u ≡ 0 = omega arith in
    ap pos e ∙ sym (ap (signed true) e)
times true (suc a) u = refl

-- ---- x / d against a / 2

-- the order of two floats is told by cross products: x / d against y / e, where y / e is a / 2
module _ (x d y e a : ℕ) (pe : 0 < e) (value : y * 2 ≡ a * e) where
  cross_ge : y * d ≤ x * e → a * d ≤ x * 2
  cross_ge h = le_of_mul-le-mul_right {k = e} (omega (arith, ap (λ (z : ℕ). z * d) value)) pe

  cross_le : x * e ≤ y * d → x * 2 ≤ a * d
  cross_le h = le_of_mul-le-mul_right {k = e} (omega (arith, ap (λ (z : ℕ). z * d) value)) pe

-- and in units of 1 / u
module _ (u h : ℕ) (even : u ≡ 2 * h) where
  scaled_ge : (x d a : ℕ) → 0 < d → a * d ≤ x * 2 → a * u ≤ 2 * (x * u / d)
  scaled_ge x d a p g =
      let e : a * h * d ≤ x * u = omega (arith, mul-le-mul_right h g, ap (λ (z : ℕ). x * z) even) in
      let q : a * h ≤ x * u / d = (le-div_iff_mul-le p).1 e in
      omega (arith, ap (λ (z : ℕ). a * z) even)

  scaled_le : (x d a : ℕ) → 0 < d → x * 2 ≤ a * d → 2 * (x * u / d) ≤ a * u
  scaled_le x d a p g = le_of_mul-le-mul_right {k = d} (omega (arith, div-mul-le_self (x * u) d, mul-le-mul_right u g)) p

  scaled_is : (x d a : ℕ) → 0 < d → x * 2 ≡ a * d → 2 * (x * u / d) ≡ a * u
  scaled_is x d a p g = le_antisymm (scaled_le x d a p (omega arith)) (scaled_ge x d a p (omega arith))

  -- ±x / d is not below ±a / 2
  not-below : (t : Bool) (x d : ℕ) (s : Bool) (y e a : ℕ) → 0 < d → 0 < e → y * 2 ≡ a * e → below t (x * e) s (y * d) ≡ false → Below s (a * u) t (2 * (x * u / d))
  not-below false x d false y e a pd pe v n = scaled_ge x d a pd (cross_ge x d y e a pe v (ltb-false (x * e) (y * d) n))
  not-below false x d true y e a pd pe v n = tt
  not-below true x d false y e a pd pe v n =
      let none : x * e + y * d ≤ 0 = ltb-false 0 (x * e + y * d) n in
      let a-none : a * d ≤ x * 2 = cross_ge x d y e a pe v (omega arith) in
      let x-none : x ≤ 0 = le_of_mul-le-mul_right {k = e} (omega arith) pe in
      let a-zero : a ≤ 0 = le_of_mul-le-mul_right {k = d} (omega arith) pd in
      let au : a * u ≤ 0 * u = mul-le-mul_right u a-zero in
      let m : 2 * (x * u / d) ≤ 0 * u = le_trans (scaled_le x d 0 pd (omega arith)) (omega arith) in
      (omega arith, omega arith)
  not-below true x d true y e a pd pe v n = scaled_le x d a pd (cross_le x d y e a pe v (ltb-false (y * d) (x * e) n))

  -- ±x / d is not above ±a / 2
  not_above : (t : Bool) (x d : ℕ) (s : Bool) (y e a : ℕ) → 0 < d → 0 < e → y * 2 ≡ a * e → below s (y * d) t (x * e) ≡ false → Below t (2 * (x * u / d)) s (a * u)
  not_above false x d false y e a pd pe v n = scaled_le x d a pd (cross_le x d y e a pe v (ltb-false (y * d) (x * e) n))
  not_above true x d false y e a pd pe v n = tt
  not_above false x d true y e a pd pe v n =
      let none : y * d + x * e ≤ 0 = ltb-false 0 (y * d + x * e) n in
      let a-none : a * d ≤ x * 2 = cross_ge x d y e a pe v (omega arith) in
      let x-none : x ≤ 0 = le_of_mul-le-mul_right {k = e} (omega arith) pe in
      let a-zero : a ≤ 0 = le_of_mul-le-mul_right {k = d} (omega arith) pd in
      let au : a * u ≤ 0 * u = mul-le-mul_right u a-zero in
      let m : 2 * (x * u / d) ≤ 0 * u = le_trans (scaled_le x d 0 pd (omega arith)) (omega arith) in
      (omega arith, omega arith)
  not_above true x d true y e a pd pe v n = scaled_ge x d a pd (cross_ge x d y e a pe v (ltb-false (x * e) (y * d) n))

-- ---- the ends as whole numbers

low-end : (d : ℤ) (q : ℕ) → low_end d q ≡ signed (low_sign d) (low_size d * q)
low-end (pos zero) q = refl
low-end (pos (suc n)) q =
    let e : 2 * suc n - 1 ≡ suc (n * 2) = omega arith in
    ap (λ (t : Bool). cond t (negsuc (1 - suc (2 * suc n))) (pos (2 * suc n - 1)) *ℤ pos q) (le-ltb (2 * suc n) 1 (omega arith))
    ∙ ap (λ (m : ℕ). pos m *ℤ pos q) e
low-end (negsuc n) q =
    let e : 2 * suc n ≡ suc (suc (n * 2)) = omega arith in
    let f : suc (suc (n * 2) + 0) ≡ suc n * 2 = omega arith in
    ap (λ (m : ℕ). (neg_ℤ (pos m) +ℤ negsuc 0) *ℤ pos q) e ∙ ap (λ (m : ℕ). negsuc m *ℤ pos q) f

high-end : (d : ℤ) (q : ℕ) → high_end d q ≡ signed (is_neg d) (high_size d * q)
high-end (pos n) q = let e : 2 * n + 1 ≡ suc (n * 2) = omega arith in ap (λ (m : ℕ). pos m *ℤ pos q) e
high-end (negsuc n) q =
    let e : 2 * suc n ≡ suc (suc (n * 2)) = omega arith in
    let f : suc (suc (n * 2)) - 2 ≡ n * 2 = omega arith in
    ap (λ (m : ℕ). (neg_ℤ (pos m) +ℤ pos 1) *ℤ pos q) e
    ∙ ap (λ (t : Bool). cond t (negsuc (suc (suc (n * 2)) - 2)) (pos (1 - suc (suc (n * 2)))) *ℤ pos q) (lt-ltb 1 (suc (suc (n * 2))) (omega arith))
    ∙ ap (λ (m : ℕ). negsuc m *ℤ pos q) f

-- the interval, by signs and sizes: what the proofs give
abbrev u : ℕ
u = 2 ^ 149

InSizes : ℤ → ℤ → ℕ → Bool → ℕ → ℤ → Type 0
InSizes low high q s m e =
    Below (low_sign low) (low_size low * q * u) s (2 * (m * up e * u / down e))
    × Below s (2 * (m * up e * u / down e)) (is_neg high) (high_size high * q * u)

of_sizes : (low high : ℤ) (q : ℕ) (s : Bool) (m : ℕ) (e : ℤ) → InSizes low high q s m e → InInterval low high q (fin s m e)
unfolding InSizes InInterval
of_sizes low high q s m e h =
    let v : ℕ = m * up e * u / down e in
    let middle : signed s (2 * v) ≡ pos 2 *ℤ signed s v = sym (twice s v) in
    let left : signed (low_sign low) (low_size low * q * u) ≡ low_end low q *ℤ pos u =
    sym (ap (λ (z : ℤ). z *ℤ pos u) (low-end low q) ∙ times (low_sign low) (low_size low * q) u) in
    let right : signed (is_neg high) (high_size high * q * u) ≡ high_end high q *ℤ pos u =
    sym (ap (λ (z : ℤ). z *ℤ pos u) (high-end high q) ∙ times (is_neg high) (high_size high * q) u) in (
      subst (λ (z : ℤ). z ≤ℤ (pos 2 *ℤ signed s v)) left
          (subst (λ (z : ℤ). signed (low_sign low) (low_size low * q * u) ≤ℤ z) middle (signed_le (low_sign low) s (low_size low * q * u) (2 * v) h.0)),
      subst (λ (z : ℤ). (pos 2 *ℤ signed s v) ≤ℤ z) right
          (subst (λ (z : ℤ). z ≤ℤ signed (is_neg high) (high_size high * q * u)) middle (signed_le s (is_neg high) (2 * v) (high_size high * q * u) h.1)),
    )

-- ---- values in the interval

below_refl : (s : Bool) (a : ℕ) → Below s a s a
below_refl false a = omega arith
below_refl true a = omega arith

-- the lower end is not above the upper
ends_ordered : (low high : ℤ) (q w : ℕ) → low ≤ℤ high → Below (low_sign low) (low_size low * q * w) (is_neg high) (high_size high * q * w)
ends_ordered (pos zero) (pos m) q w h = tt
ends_ordered (pos zero) (negsuc m) q w h = absurd h.le
ends_ordered (pos (suc n)) (pos m) q w h =
    let l : suc n ≤ m = leb→le (suc n) m h.le in
    mul-le-mul_right w (mul-le-mul_right q (omega arith))
ends_ordered (pos (suc n)) (negsuc m) q w h = absurd h.le
ends_ordered (negsuc n) (pos m) q w h = tt
ends_ordered (negsuc n) (negsuc m) q w h =
    let l : m ≤ n = leb→le m n h.le in
    mul-le-mul_right w (mul-le-mul_right q (omega arith))

-- a value ±a / 2 between the ends
pub halves_in : (low high : ℤ) (q : ℕ) (x : Float) (s : Bool) (a : ℕ) → Halves x s a
    → Below (low_sign low) (low_size low * q * u) s (a * u) → Below s (a * u) (is_neg high) (high_size high * q * u) → InInterval low high q x
unfolding InSizes
halves_in low high q x s a v l r =
    finite_with x s a (InInterval low high q) v
    (λ m e g.
    let is : a * u ≡ 2 * (m * up e * u / down e) = sym (scaled_is u (2 ^ 148) refl (m * up e) (down e) a (down_pos e) g) in
    of_sizes low high q s m e
    (subst (λ (z : ℕ). Below (low_sign low) (low_size low * q * u) s z) is l, subst (λ (z : ℕ). Below s z (is_neg high) (high_size high * q * u)) is r))

pick : (P : Float → Type 0) (b : Bool) (x y : Float) → P x → (b ≡ false → P y) → P (cond b x y)
pick P true x y p h = p
pick P false x y p h = h refl

module _ (low high : ℤ) (q : ℕ) (order : low ≤ℤ high) (low_ok : nat_abs low ≤ 2047) (high-ok : nat_abs high ≤ 2047) (table-ok : q ≤ 255) where
  low_in : InInterval low high q (lowest low q)
  low_in =
      halves_in low high q (lowest low q) (low_sign low) (low_size low * q) (low_halves low q low_ok table-ok)
      (below_refl (low_sign low) (low_size low * q * u)) (ends_ordered low high q u order)

  high_in : InInterval low high q (highest high q)
  high_in =
      halves_in low high q (highest high q) (is_neg high) (high_size high * q) (high_halves high q high-ok table-ok)
      (ends_ordered low high q u order) (below_refl (is_neg high) (high_size high * q * u))

  -- a finite value that is neither below the lower end nor above the upper
  middle_in : (s : Bool) (m : ℕ) (e : ℤ) → lt (fin s m e) (lowest low q) ≡ false → lt (highest high q) (fin s m e) ≡ false → InInterval low high q (fin s m e)
  unfolding lt InSizes
  middle_in s m e l r =
      of_sizes low high q s m e (
        finite_with (lowest low q) (low_sign low) (low_size low * q) (λ y. lt (fin s m e) y ≡ false → Below (low_sign low) (low_size low * q * u) s (2 * (m * up e * u / down e)))
            (low_halves low q low_ok table-ok)
            (λ n d g. not-below u (2 ^ 148) refl s (m * up e) (down e) (low_sign low) (n * up d) (down d) (low_size low * q) (down_pos e) (down_pos d) g)
            l,
        finite_with (highest high q) (is_neg high) (high_size high * q) (λ y. lt y (fin s m e) ≡ false → Below s (2 * (m * up e * u / down e)) (is_neg high) (high_size high * q * u))
            (high_halves high q high-ok table-ok)
            (λ n d g. not_above u (2 ^ 148) refl s (m * up e) (down e) (is_neg high) (n * up d) (down d) (high_size high * q) (down_pos e) (down_pos d) g)
            r,
      )

  -- an infinity lies beyond an end
  past_low : lt (inf true) (lowest low q) ≡ true
  unfolding lt
  past_low = finite_with (lowest low q) (low_sign low) (low_size low * q) (λ y. lt (inf true) y ≡ true) (low_halves low q low_ok table-ok) (λ n d g. refl)

  past_high : lt (highest high q) (inf false) ≡ true
  unfolding lt
  past_high = finite_with (highest high q) (is_neg high) (high_size high * q) (λ y. lt y (inf false) ≡ true) (high_halves high q high-ok table-ok) (λ n d g. refl)

  -- not below the lower end, and not above the upper
  between : (x : Float) → (x ≡ nan → ⊥) → lt x (lowest low q) ≡ false → lt (highest high q) x ≡ false → InInterval low high q x
  between nan h l r = absurd (h refl)
  between (inf true) h l r = let z : ◌≡◌ {A = ℕ} 0 1 = cc past_low in absurd (omega arith)
  between (inf false) h l r = let z : ◌≡◌ {A = ℕ} 0 1 = cc past_high in absurd (omega arith)
  between (fin s m e) h l r = middle_in s m e l r

  -- Clamped to the interval, a value that is no NaN is in it.
  pub clamp_in : (x : Float) → (x ≡ nan → ⊥) → InInterval low high q (clamp x (lowest low q) (highest high q))
  unfolding clamp
  clamp_in x h =
      pick (InInterval low high q) (lt (highest high q) (at_least x (lowest low q))) (highest high q) (at_least x (lowest low q)) high_in
      (pick (λ y. lt (highest high q) y ≡ false → InInterval low high q y) (lt x (lowest low q)) (lowest low q) x (λ r. low_in) (λ l r. between x h l r))

  pub clamp_nan : clamp nan (lowest low q) (highest high q) ≡ nan
  unfolding clamp lt
  clamp_nan = finite_with (highest high q) (is_neg high) (high_size high * q) (λ y. cond (lt y nan) y nan ≡ nan) (high_halves high q high-ok table-ok) (λ n d g. refl)

-- ---- M-104: which values are moved

-- the converse of `signed_le`, and the order of two floats from it
signed_below : (s t : Bool) (a b : ℕ) → signed s a ≤ℤ signed t b → Below s a t b
signed_below false false a b h = leb→le a b h.le
signed_below false true a zero h = let z = leb→le a 0 h.le in (omega arith, refl)
signed_below false true a (suc b) h = absurd h.le
signed_below true false a b h = tt
signed_below true true a zero h = omega arith
signed_below true true zero (suc b) h = absurd h.le
signed_below true true (suc a) (suc b) h = let z = leb→le b a h.le in omega arith

below_no : (s t : Bool) (a b : ℕ) → Below s a t b → below t b s a ≡ false
below_no false false a b h = le-ltb b a h
below_no false true a b h = le-ltb 0 (b + a) (omega (arith, h.0, h.1))
below_no true false a b h = refl
below_no true true a b h = le-ltb a b h

-- both sides in other units
rescaled : (s t : Bool) (a b c d f g : ℕ) → 0 < g → a * f ≡ c * g → b * f ≡ d * g → Below s a t b → Below s c t d
rescaled false false a b c d f g p v w h = le_of_mul-le-mul_right {k = g} (omega (arith, mul-le-mul_right f h)) p
rescaled false true a b c d f g p v w h =
    let x : c ≤ 0 = le_of_mul-le-mul_right {k = g} (omega (arith, ap (λ (z : ℕ). z * f) h.0)) p in
    let y : d ≤ 0 = le_of_mul-le-mul_right {k = g} (omega (arith, ap (λ (z : ℕ). z * f) h.1)) p in
    (omega arith, omega arith)
rescaled true false a b c d f g p v w h = tt
rescaled true true a b c d f g p v w h = le_of_mul-le-mul_right {k = g} (omega (arith, mul-le-mul_right f h)) p

-- ±x / d, which times w is the whole number v, and ±y / e, which is ±a / 2
module _ (w x d v y e a : ℕ) (some : 0 < w) (exact : v * d ≡ x * w) (value : y * 2 ≡ a * e) where
  this : 2 * v * (d * e) ≡ x * e * (2 * w)
  this = omega (arith, ap (λ (z : ℕ). z * e) exact)

  that : a * w * (d * e) ≡ y * d * (2 * w)
  that = omega (arith, ap (λ (z : ℕ). z * (d * w)) value)

  not_under : (s t : Bool) → Below s (a * w) t (2 * v) → below t (x * e) s (y * d) ≡ false
  not_under s t h = below_no s t (y * d) (x * e) (rescaled s t (a * w) (2 * v) (y * d) (x * e) (d * e) (2 * w) (omega arith) that this h)

  not_over : (s t : Bool) → Below t (2 * v) s (a * w) → below s (y * d) t (x * e) ≡ false
  not_over s t h = below_no t s (x * e) (y * d) (rescaled t s (2 * v) (a * w) (x * e) (y * d) (d * e) (2 * w) (omega arith) this that h)

sizes_of : (low high : ℤ) (q : ℕ) (s : Bool) (m : ℕ) (e : ℤ) → InInterval low high q (fin s m e) → InSizes low high q s m e
unfolding InSizes InInterval
sizes_of low high q s m e h =
    let v : ℕ = m * up e * u / down e in
    let middle = twice s v in
    let left : low_end low q *ℤ pos u ≡ signed (low_sign low) (low_size low * q * u) =
    ap (λ (z : ℤ). z *ℤ pos u) (low-end low q) ∙ times (low_sign low) (low_size low * q) u in
    let right : high_end high q *ℤ pos u ≡ signed (is_neg high) (high_size high * q * u) =
    ap (λ (z : ℤ). z *ℤ pos u) (high-end high q) ∙ times (is_neg high) (high_size high * q) u in (
      signed_below (low_sign low) s (low_size low * q * u) (2 * v)
          (subst (λ (z : ℤ). z ≤ℤ signed s (2 * v)) left (subst (λ (z : ℤ). (low_end low q *ℤ pos u) ≤ℤ z) middle h.0)),
      signed_below s (is_neg high) (2 * v) (high_size high * q * u)
          (subst (λ (z : ℤ). signed s (2 * v) ≤ℤ z) right (subst (λ (z : ℤ). z ≤ℤ (high_end high q *ℤ pos u)) middle h.1)),
    )

u_some : 0 < u
u_some = lit< tt

or-true : (a : Bool) → (a || true) ≡ true
or-true true = refl
or-true false = refl

module _ (low high : ℤ) (q : ℕ) (order : low ≤ℤ high) (low_ok : nat_abs low ≤ 2047) (high-ok : nat_abs high ≤ 2047) (table-ok : q ≤ 255) where
  -- Of finite values just those are moved whose double, times 2 ^ 149, is below (2 low − 1) × q or above (2 high + 1) × q times 2 ^ 149.
  pub inside_in : (s : Bool) (m : ℕ) (e : ℤ) → outside low high q (fin s m e) ≡ false → InInterval low high q (fin s m e)
  unfolding outside
  inside_in s m e h =
      let n = neither (lt (fin s m e) (lowest low q)) (lt (highest high q) (fin s m e)) h in
      middle_in low high q order low_ok high-ok table-ok s m e n.0 n.1

  pub in_inside : (s : Bool) (m : ℕ) (e : ℤ) → T (fits binary32 (fin s m e)) → InInterval low high q (fin s m e) → outside low high q (fin s m e) ≡ false
  unfolding outside lt InSizes
  in_inside s m e t h =
      let z = sizes_of low high q s m e h in
      let x = scaled_exact s m e t in
      let v = m * up e * u / down e in
      let l : lt (fin s m e) (lowest low q) ≡ false =
      finite_with (lowest low q) (low_sign low) (low_size low * q) (λ y. lt (fin s m e) y ≡ false) (low_halves low q low_ok table-ok)
      (λ n d g. not_under u (m * up e) (down e) v (n * up d) (down d) (low_size low * q) u_some x g (low_sign low) s z.0) in
      let r : lt (highest high q) (fin s m e) ≡ false =
      finite_with (highest high q) (is_neg high) (high_size high * q) (λ y. lt y (fin s m e) ≡ false) (high_halves high q high-ok table-ok)
      (λ n d g. not_over u (m * up e) (down e) v (n * up d) (down d) (high_size high * q) u_some x g (is_neg high) s z.1) in
      rw (l, r)

  -- an infinity is moved, a NaN is not
  pub inf_outside : (s : Bool) → outside low high q (inf s) ≡ true
  unfolding outside
  inf_outside true = rw (past_low low high q order low_ok high-ok table-ok)
  inf_outside false = rw (past_high low high q order low_ok high-ok table-ok) (or-true (lt (inf false) (lowest low q)))

  pub nan_inside : outside low high q nan ≡ false
  unfolding outside lt
  nan_inside =
      finite_with (highest high q) (is_neg high) (high_size high * q) (λ y. (lt nan (lowest low q) || lt y nan) ≡ false) (high_halves high q high-ok table-ok)
      (λ n d g. refl)

-- what is not moved stays
pub unmoved : (low high : ℤ) (q : ℕ) (x : Float) → outside low high q x ≡ false → clamp x (lowest low q) (highest high q) ≡ x
unfolding outside clamp
unmoved low high q x h =
    let n = neither (lt x (lowest low q)) (lt (highest high q) x) h in
    rw (n.0, n.1)

-- ---- the same as a test by whole numbers

not_less : (x y : ℤ) → x ≤ℤ y → int_lt y x ≡ false
not_less x y h = by (int_lt y x) refl
  where
    by : (t : Bool) → int_lt y x ≡ t → int_lt y x ≡ false
    by true e = absurd (omega (arith, ints))
    by false e = e

less_not : (x y : ℤ) → int_lt y x ≡ false → x ≤ℤ y
less_not x y h = omega (arith, ints)

both_false : (a b : Bool) → a ≡ false → b ≡ false → (a || b) ≡ false
both_false a b h k = rw (h, k)

-- For a finite value the test says whether it is in the interval.
pub in_test : (low high : ℤ) (q : ℕ) (s : Bool) (m : ℕ) (e : ℤ) → InInterval low high q (fin s m e) → lies_outside low high q (fin s m e) ≡ false
unfolding InInterval lies_outside
in_test low high q s m e h = both_false _ _ (not_less _ _ h.0) (not_less _ _ h.1)

pub test_in : (low high : ℤ) (q : ℕ) (s : Bool) (m : ℕ) (e : ℤ) → lies_outside low high q (fin s m e) ≡ false → InInterval low high q (fin s m e)
unfolding InInterval lies_outside
test_in low high q s m e h = let n = neither _ _ h in (less_not _ _ n.0, less_not _ _ n.1)

same : (a b : Bool) → (a ≡ false → b ≡ false) → (b ≡ false → a ≡ false) → a ≡ b
same true true h k = refl
same false false h k = refl
same true false h k = k refl
same false true h k = sym (h refl)

-- The comparisons of f32 with the computed ends are that test.
pub outside_is : (low high : ℤ) (q : ℕ) → OfSheet low high q → (x : Float) → T (fits binary32 x) → outside low high q x ≡ lies_outside low high q x
unfolding lies_outside
outside_is low high q o nan t = nan_inside low high q o.ordered o.low_most o.high_most o.most
outside_is low high q o (inf s) t = inf_outside low high q o.ordered o.low_most o.high_most o.most s
outside_is low high q o (fin s m e) t =
    same (outside low high q (fin s m e)) (lies_outside low high q (fin s m e))
    (λ h. in_test low high q s m e (inside_in low high q o.ordered o.low_most o.high_most o.most s m e h))
    (λ h. in_inside low high q o.ordered o.low_most o.high_most o.most s m e t (test_in low high q s m e h))
