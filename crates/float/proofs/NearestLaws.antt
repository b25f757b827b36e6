-- `round` gives the nearest value, a tie to the even one, in either format. Assumes nothing.
use Rattle.std.proofs.Common.{◌≡◌, ℕ, zero, suc, ◌+◌, ◌-◌, ◌*◌, ◌/◌, ◌%◌, ◌^◌, ◌<◌, ◌≤◌, Bool, true, false, cond, not, T, leb, ◌≢◌, ◌⊎◌, ℤ, ◌-ℤ◌, nat_abs, sym, refl, ap, ◌∙◌, subst, ap₂, inl, inr, zero-le, le_trans, le_of_eq, lt_of_lt_of_le, le-add_right, lt_of_le_of_lt, le_of_lt, mul-le-mul_right, mod-lt, mul_assoc, suc-mul, mul_comm, add-mul, le_antisymm, eq-or-lt_of_le, mul-lt-mul_of_pos_right, mul-pos, one-mul, div-add-mod', le-div_iff_mul-le, zero-mul, arith, leb→le, pow_pos, pow_mono, pow-add, le-ltb}
use Prim.Native.Nat.{compare, Ordering}
use native.Mathlib.Nat.{div-div-eq-div-mul, mul-mod_left}
use lib.Dec.{nleb→lt}
use lib.Pow.{pow-lt}
use Rattle.std.specs.Float.{is_sign_negative}
use lib.Ieee.{Float, Format, nan, inf, fin, prec, low, size, nearest, odd, units, round}
use lib.Ieee.Digits.{size_reaches}
use lib.Ieee.Fits.{kept-lt, nearest-le, two, two-le_pos, round_is}
use lib.Ieee.Exact.{HasValue, units_val}
use lib.Ieee.Scale.{grid, overflow}
use lib.Ieee.Nearest.{closest}
use Rattle.float.specs.Nearest.{Held, Nearest, away, gap, signed}
use Rattle.float.proofs.Signs.{gap_like, gap_unlike, signed_times, signed_zero}
use Rattle.float.proofs.SumCases.{sub-mul}
use Rattle.float.proofs.Closest.{Cmp, cmp}

pub order : (a b : ℕ) → (a ≤ b) ⊎ (b < a)
order a b = go (leb a b) (leb→le a b) (nleb→lt a b)
  where
    go : (x : Bool) → (T x → a ≤ b) → (T (not x) → b < a) → (a ≤ b) ⊎ (b < a)
    go true y n = inl (y tt)
    go false y n = inr (n tt)

not-lt : {a b : ℕ} → (b < a → ⊥) → a ≤ b
not-lt {a} {b} h = go (order a b)
  where
    go : (a ≤ b) ⊎ (b < a) → a ≤ b
    go (inl x) = x
    go (inr x) = absurd (h x)

-- ---- `closest`: n is q * u + r, with r < u

-- multiples of u on either side of n
next : (u a b : ℕ) → a < b → a * u + u ≤ b * u
next u a b h = le_trans (le_of_eq (sym (suc-mul a u))) (mul-le-mul_right u h)

module _ (n u q r : ℕ) (e : q * u + r ≡ n) (l : r < u) where
  -- what is at most as far from n as both neighbours is at most as far as any multiple
  near_of : (x m : ℕ) → gap n x ≤ r → gap n x ≤ u - r → gap n x ≤ gap n (m * u)
  near_of x m a b = go (order m q)
    where
      go : (m ≤ q) ⊎ (q < m) → gap n x ≤ gap n (m * u)
      go (inl h) = omega (arith, mul-le-mul_right u h)
      go (inr h) = omega (arith, next u q m h)

  -- a multiple that is no farther than u - r is q or comes after it, and so on
  past : (m : ℕ) → m < q → r + u ≤ gap n (m * u)
  past m h = omega (arith, next u m q h)

  here : (m : ℕ) → m ≤ q → r ≤ gap n (m * u)
  here m h = omega (arith, mul-le-mul_right u h)

  after : (m : ℕ) → q < m → u - r ≤ gap n (m * u)
  after m h = omega (arith, next u q m h)

  far : (m : ℕ) → suc q < m → u + u - r ≤ gap n (m * u)
  far m h = omega (arith, next u (suc q) m h, suc-mul q u)

  -- the three ways to round
  step : (o : Ordering) → Cmp o (r * 2) u → (gap n (nearest q o * u) ≤ r) × (gap n (nearest q o * u) ≤ u - r)
  step Ordering.lt h = (omega arith, omega arith)
  step Ordering.gt h = (omega (arith, suc-mul q u), omega (arith, suc-mul q u))
  step Ordering.eq h = go (q % 2) (omega arith)
    where
      go : (d : ℕ) → d < 2 → (gap n ((q + d) * u) ≤ r) × (gap n ((q + d) * u) ≤ u - r)
      go zero b = (omega (arith, add-mul q 0 u, zero-mul u), omega (arith, add-mul q 0 u, zero-mul u))
      go (suc zero) b = (omega (arith, add-mul q 1 u, one-mul u), omega (arith, add-mul q 1 u, one-mul u))
      go (suc (suc d)) b = omega arith

  -- a multiple as near as that is one of the two neighbours
  neighbour : (x m : ℕ) → gap n x ≤ r → gap n x ≤ u - r → gap n x ≡ gap n (m * u) → (m ≡ q) ⊎ (m ≡ suc q)
  neighbour x m a b d = go (order m q)
    where
      go : (m ≤ q) ⊎ (q < m) → (m ≡ q) ⊎ (m ≡ suc q)
      go (inl g) = inl (le_antisymm g (not-lt (λ (k : m < q). omega (arith, past m k))))
      go (inr g) = inr (le_antisymm (not-lt (λ (k : suc q < m). omega (arith, far m k))) g)

  -- where another is as near as the one taken, that is even, and the other is next to it
  tie : (o : Ordering) → Cmp o (r * 2) u → (m : ℕ) → gap n (nearest q o * u) ≡ gap n (m * u) → nearest q o ≢ m → (nearest q o % 2 ≡ 0) × (gap (nearest q o) m ≡ 1)
  tie o h m d ne = go o h d ne (neighbour (nearest q o * u) m (step o h).0 (step o h).1 d)
    where
      go : (o : Ordering) → Cmp o (r * 2) u → gap n (nearest q o * u) ≡ gap n (m * u) → nearest q o ≢ m → (m ≡ q) ⊎ (m ≡ suc q) → (nearest q o % 2 ≡ 0) × (gap (nearest q o) m ≡ 1)
      go Ordering.lt h d ne (inl k) = absurd (ne (sym k))
      go Ordering.lt h d ne (inr k) = absurd (omega (arith, after m (omega arith)))
      go Ordering.gt h d ne (inl k) = absurd (omega (arith, here m (omega arith), suc-mul q u))
      go Ordering.gt h d ne (inr k) = absurd (ne (sym k))
      go Ordering.eq h d ne (inl k) = odd_one (λ (z : q % 2 ≡ 0). ne (omega arith))
        where
          odd_one : (q % 2 ≡ 0 → ⊥) → ((q + q % 2) % 2 ≡ 0) × (gap (q + q % 2) m ≡ 1)
          odd_one f = parity (q % 2) refl
            where
              parity : (z : ℕ) → q % 2 ≡ z → ((q + q % 2) % 2 ≡ 0) × (gap (q + q % 2) m ≡ 1)
              parity zero z = absurd (f z)
              parity (suc z) e = (omega arith, omega arith)
      go Ordering.eq h d ne (inr k) = parity (q % 2) refl
        where
          parity : (z : ℕ) → q % 2 ≡ z → ((q + q % 2) % 2 ≡ 0) × (gap (q + q % 2) m ≡ 1)
          parity zero e = (omega arith, omega arith)
          parity (suc z) e = absurd (ne (omega arith))

pub closest_near : (n u m : ℕ) → 0 < u → gap n (closest n u * u) ≤ gap n (m * u)
closest_near n u m U =
    let o = compare (n % u * 2) u in
    let s = step n u (n / u) (n % u) (div-add-mod' n u) (mod-lt n U) o (cmp (n % u * 2) u) in
    near_of n u (n / u) (n % u) (div-add-mod' n u) (mod-lt n U) (closest n u * u) m s.0 s.1

pub closest_even : (n u m : ℕ) → 0 < u → gap n (closest n u * u) ≡ gap n (m * u) → closest n u ≢ m → (closest n u % 2 ≡ 0) × (gap (closest n u) m ≡ 1)
closest_even n u m U = tie n u (n / u) (n % u) (div-add-mod' n u) (mod-lt n U) (compare (n % u * 2) u) (cmp (n % u * 2) u) m

-- ---- a fraction n / c kept to p digits: Q * 2 ^ k, where k digits of its whole part are dropped
pub gap_mul : (a b c : ℕ) → gap (a * c) (b * c) ≡ gap a b * c
gap_mul a b c = ap₂ (λ (x y : ℕ). x + y) (sym (sub-mul a b c)) (sym (sub-mul b a c)) ∙ sym (add-mul (a - b) (b - a) c)

farther : (n g b y : ℕ) → gap n g ≤ gap n b → b ≤ n → y < b → gap n g ≡ gap n y → ⊥
farther n g b y h l m d = omega arith

module _ (p n c : ℕ) (P : 0 < p) (C : 0 < c) where
  k : ℕ
  k = size (n / c) - p

  Q : ℕ
  unfolding k
  Q = closest n (c * 2 ^ k)

  -- what is held is a multiple of 2 ^ k, or lies below the first number that has k digits to drop
  multiple : (q j : ℕ) → k ≤ j → q * 2 ^ j ≡ q * 2 ^ (j - k) * 2 ^ k
  multiple q j h =
      let e : j - k + k ≡ j = omega arith in
      ap (λ (z : ℕ). q * 2 ^ z) (sym e) ∙ ap (λ (z : ℕ). q * z) (pow-add 2 (j - k) k) ∙ sym (mul_assoc q (2 ^ (j - k)) (2 ^ k))

  small : (q j : ℕ) → q < 2 ^ p → j < k → q * 2 ^ j < 2 ^ (p - 1) * 2 ^ k
  small q j h l =
      let e : p + j ≤ p - 1 + k = omega arith in
      lt_of_lt_of_le (mul-lt-mul_of_pos_right h (pow_pos j))
      (le_trans (le_of_eq (sym (pow-add 2 p j))) (le_trans (pow_mono e) (le_of_eq (pow-add 2 (p - 1) k))))

  reached : 0 < k → 2 ^ (p - 1) * 2 ^ k * c ≤ n
  unfolding k
  reached h =
      let e : p - 1 + k < size (n / c) = omega arith in
      le_trans (mul-le-mul_right c (le_of_eq (sym (pow-add 2 (p - 1) k)))) ((le-div_iff_mul-le C).0 (size_reaches (n / c) (p - 1 + k) e))

  at_unit : (m : ℕ) → m * 2 ^ k * c ≡ m * (c * 2 ^ k)
  at_unit m = mul_assoc m (2 ^ k) c ∙ ap (λ (z : ℕ). m * z) (mul_comm (2 ^ k) c)

  U : 0 < c * 2 ^ k
  U = mul-pos C (pow_pos k)

  near_multiple : (m : ℕ) → gap n (Q * 2 ^ k * c) ≤ gap n (m * 2 ^ k * c)
  unfolding Q
  near_multiple m = rw (at_unit Q, at_unit m) (closest_near n (c * 2 ^ k) m U)

  near_held : (q j : ℕ) → q < 2 ^ p → gap n (Q * 2 ^ k * c) ≤ gap n (q * 2 ^ j * c)
  near_held q j h = go (order k j)
    where
      go : (k ≤ j) ⊎ (j < k) → gap n (Q * 2 ^ k * c) ≤ gap n (q * 2 ^ j * c)
      go (inl l) = rw (multiple q j l) (near_multiple (q * 2 ^ (j - k)))
      go (inr l) =
          let a = near_multiple (2 ^ (p - 1)) in
          let b = reached (omega arith) in
          let d = mul-le-mul_right c (le_of_lt (small q j h l)) in
          omega arith

  even_held : (q j : ℕ) → q < 2 ^ p → gap n (Q * 2 ^ k * c) ≡ gap n (q * 2 ^ j * c) → Q * 2 ^ k ≢ q * 2 ^ j → Q * 2 ^ k % (2 * gap (Q * 2 ^ k) (q * 2 ^ j)) ≡ 0
  unfolding Q
  even_held q j h d ne = go (order k j)
    where
      go : (k ≤ j) ⊎ (j < k) → Q * 2 ^ k % (2 * gap (Q * 2 ^ k) (q * 2 ^ j)) ≡ 0
      go (inr l) =
          let K : 0 < k = lt_of_le_of_lt zero-le l in
          absurd (farther n (Q * 2 ^ k * c) (2 ^ (p - 1) * 2 ^ k * c) (q * 2 ^ j * c) (near_multiple (2 ^ (p - 1))) (reached K) (mul-lt-mul_of_pos_right (small q j h l) C) d)
      go (inl l) = even (closest_even n (c * 2 ^ k) (q * 2 ^ (j - k)) U same other)
        where
          same : gap n (closest n (c * 2 ^ k) * (c * 2 ^ k)) ≡ gap n (q * 2 ^ (j - k) * (c * 2 ^ k))
          same = ap (gap n) (sym (at_unit (closest n (c * 2 ^ k)))) ∙ d ∙ ap (gap n) (ap (λ (z : ℕ). z * c) (multiple q j l) ∙ at_unit (q * 2 ^ (j - k)))

          other : closest n (c * 2 ^ k) ≢ q * 2 ^ (j - k)
          other e = ne (ap (λ (z : ℕ). z * 2 ^ k) e ∙ sym (multiple q j l))

          even : (Q % 2 ≡ 0) × (gap Q (q * 2 ^ (j - k)) ≡ 1) → Q * 2 ^ k % (2 * gap (Q * 2 ^ k) (q * 2 ^ j)) ≡ 0
          even w =
              let step : gap (Q * 2 ^ k) (q * 2 ^ j) ≡ 2 ^ k = ap (gap (Q * 2 ^ k)) (multiple q j l) ∙ gap_mul Q (q * 2 ^ (j - k)) (2 ^ k) ∙ ap (λ (z : ℕ). z * 2 ^ k) w.1 ∙ one-mul (2 ^ k) in
              let twice : Q ≡ Q / 2 * 2 = omega (arith, w.0) in
              ap₂ (λ (x y : ℕ). x % (2 * y)) (ap (λ (z : ℕ). z * 2 ^ k) twice ∙ mul_assoc (Q / 2) 2 (2 ^ k)) step ∙ mul-mod_left (Q / 2) (2 * 2 ^ k)

  few : Q ≤ 2 ^ p
  unfolding k Q
  few =
      let u = c * 2 ^ k in
      le_trans (nearest-le (n / u) (compare (n % u * 2) u)) (subst (λ (x : ℕ). x < 2 ^ p) (div-div-eq-div-mul n c (2 ^ k)) (kept-lt p (n / c)))

-- ---- the same of a format's values, in units of its smallest
module _ (f : Format) (a c : ℕ) (C : 0 < c) where
  pub grid_near : (y : ℕ) → Held f y → gap (a * 2 ^ low f) (grid f a c * c) ≤ gap (a * 2 ^ low f) (y * c)
  unfolding k Q
  grid_near y h = rw h.is (near_held (prec f) (a * 2 ^ low f) c (two-le_pos (prec f) (two f)) C h.q h.j h.few)

  pub grid_even : (y : ℕ) → Held f y → gap (a * 2 ^ low f) (grid f a c * c) ≡ gap (a * 2 ^ low f) (y * c) → grid f a c ≢ y → grid f a c % (2 * gap (grid f a c) y) ≡ 0
  unfolding k Q
  grid_even y h = rw h.is (even_held (prec f) (a * 2 ^ low f) c (two-le_pos (prec f) (two f)) C h.q h.j h.few)

  pub grid_held : Held f (grid f a c)
  unfolding k Q
  grid_held = go (eq-or-lt_of_le (few (prec f) (a * 2 ^ low f) c (two-le_pos (prec f) (two f)) C))
    where
      go : (closest (a * 2 ^ low f) (c * 2 ^ (size (a * 2 ^ low f / c) - prec f)) ≡ 2 ^ prec f) ⊎ (closest (a * 2 ^ low f) (c * 2 ^ (size (a * 2 ^ low f / c) - prec f)) < 2 ^ prec f) → Held f (grid f a c)
      go (inr l) = record { q = closest (a * 2 ^ low f) (c * 2 ^ (size (a * 2 ^ low f / c) - prec f)); j = size (a * 2 ^ low f / c) - prec f; few = l; is = refl }
      go (inl e) =
          let b : prec f - 1 < prec f = omega (arith, two f) in
          let s : prec f - 1 + suc (size (a * 2 ^ low f / c) - prec f) ≡ prec f + (size (a * 2 ^ low f / c) - prec f) = omega (arith, two f) in
          record {
            q = 2 ^ (prec f - 1);
            j = suc (size (a * 2 ^ low f / c) - prec f);
            few = pow-lt b;
            is =
                ap (λ (z : ℕ). z * 2 ^ (size (a * 2 ^ low f / c) - prec f)) e ∙ sym (pow-add 2 (prec f) (size (a * 2 ^ low f / c) - prec f)) ∙ ap (λ (z : ℕ). 2 ^ z) (sym s)
                ∙ pow-add 2 (prec f - 1) (suc (size (a * 2 ^ low f / c) - prec f));
          }

-- ---- `round`
zero_held : (f : Format) → Held f 0
zero_held f = record { q = 0; j = 0; few = pow_pos (prec f); is = refl }

round_over : (f : Format) (s : Bool) (q k : ℕ) → overflow f ≤ q * 2 ^ k → units f s q k ≡ inf s
unfolding units
round_over f s q k h = ap (λ (x : Bool). cond x (odd (suc (prec f)) s q k (low f)) (inf s)) (le-ltb (q * 2 ^ k) (overflow f) h)

module _ (f : Format) (s : Bool) (n c : ℕ) (C : 0 < c) where
  away_like : (k : ℕ) → away f (signed s n) c (signed s k) ≡ gap (n * 2 ^ low f) (k * c)
  away_like k = ap₂ (λ (x y : ℤ). nat_abs (x -ℤ y)) (signed_times s n (2 ^ low f)) (signed_times s k c) ∙ gap_like s (n * 2 ^ low f) (k * c)

  away_unlike : (k : ℕ) → away f (signed s n) c (signed (not s) k) ≡ n * 2 ^ low f + k * c
  away_unlike k = ap₂ (λ (x y : ℤ). nat_abs (x -ℤ y)) (signed_times s n (2 ^ low f)) (signed_times (not s) k c) ∙ gap_unlike s (n * 2 ^ low f) (k * c)

  g : ℕ
  g = grid f n c

  -- 0 is held, so nothing taken is farther than 0
  in_reach : gap (n * 2 ^ low f) (g * c) ≤ n * 2 ^ low f
  unfolding g
  in_reach = let z = zero-mul c in let h = grid_near f n c C 0 (zero_held f) in omega arith

  sign : (t : Bool) → (t ≡ s) ⊎ (t ≡ not s)
  sign t = go s t
    where
      go : (s t : Bool) → (t ≡ s) ⊎ (t ≡ not s)
      go true true = inl refl
      go true false = inr refl
      go false true = inr refl
      go false false = inl refl

  near : (t : Bool) (k : ℕ) → Held f k → away f (signed s n) c (signed s g) ≤ away f (signed s n) c (signed t k)
  unfolding g
  near t k H = rw (away_like g) (go (sign t))
    where
      go : (t ≡ s) ⊎ (t ≡ not s) → gap (n * 2 ^ low f) (g * c) ≤ away f (signed s n) c (signed t k)
      go (inl e) = subst (λ (u : Bool). gap (n * 2 ^ low f) (g * c) ≤ away f (signed s n) c (signed u k)) (sym e) (rw (away_like k) (grid_near f n c C k H))
      go (inr e) =
          subst (λ (u : Bool). gap (n * 2 ^ low f) (g * c) ≤ away f (signed s n) c (signed u k)) (sym e)
          (rw (away_unlike k) (le_trans in_reach (le-add_right (n * 2 ^ low f) (k * c))))

  -- where the signs differ and both are as near, the other is 0
  no_farther : (k : ℕ) → gap (n * 2 ^ low f) (g * c) ≡ n * 2 ^ low f + k * c → k ≡ 0
  no_farther zero e = refl
  no_farther (suc k) e = let h = in_reach in let p = suc-mul k c in omega arith

  even_like : (k : ℕ) → Held f k → away f (signed s n) c (signed s g) ≡ away f (signed s n) c (signed s k) → signed s g ≢ signed s k → g % (2 * nat_abs (signed s g -ℤ signed s k)) ≡ 0
  unfolding g
  even_like k H d ne =
      ap (λ (z : ℕ). g % (2 * z)) (gap_like s g k)
      ∙ grid_even f n c C k H (sym (away_like g) ∙ d ∙ away_like k) (λ (e : grid f n c ≡ k). ne (ap (signed s) e))

  even : (t : Bool) (k : ℕ) → Held f k → away f (signed s n) c (signed s g) ≡ away f (signed s n) c (signed t k) → signed s g ≢ signed t k → g % (2 * nat_abs (signed s g -ℤ signed t k)) ≡ 0
  even t k H = go (sign t)
    where
      Goal : ℤ → Type 0
      Goal z = away f (signed s n) c (signed s g) ≡ away f (signed s n) c z → signed s g ≢ z → g % (2 * nat_abs (signed s g -ℤ z)) ≡ 0

      go : (t ≡ s) ⊎ (t ≡ not s) → away f (signed s n) c (signed s g) ≡ away f (signed s n) c (signed t k) → signed s g ≢ signed t k → g % (2 * nat_abs (signed s g -ℤ signed t k)) ≡ 0
      go (inl e) = subst (λ (u : Bool). Goal (signed u k)) (sym e) (even_like k H)
      go (inr e) = subst (λ (u : Bool). Goal (signed u k)) (sym e)
          (λ d.
          let z : k ≡ 0 = no_farther k (sym (away_like g) ∙ d ∙ away_unlike k) in
          subst (λ (w : ℕ). Goal (signed (not s) w)) (sym z) (subst Goal (signed_zero s ∙ sym (signed_zero (not s))) (even_like 0 (zero_held f))) d)

  -- `round` is the nearest value
  pub round_nearest : Nearest f (signed s n) c (round f s n c)
  unfolding g
  round_nearest = record {
    s = s;
    m = g;
    held = grid_held f n c C;
    is = λ h. subst (λ (z : Float). HasValue z s (grid f n c) (2 ^ low f)) (sym (round_is f s n c)) (units_val f s _ _ h);
    over = λ h. round_is f s n c ∙ round_over f s _ _ h;
    near = near;
    even = even;
  }

  -- `round` keeps the sign, of a zero and of an infinity too
  pub round_sign : is_sign_negative (round f s n c) ≡ s
  unfolding is_sign_negative
  round_sign = go (order (overflow f) (grid f n c))
    where
      of_value : (x : Float) (a d : ℕ) → HasValue x s a d → is_sign_negative x ≡ s
      of_value nan a d h = absurd h
      of_value (inf t) a d h = absurd h
      of_value (fin t m e) a d h = h.0

      go : (overflow f ≤ grid f n c) ⊎ (grid f n c < overflow f) → is_sign_negative (round f s n c) ≡ s
      go (inl l) = ap is_sign_negative (round_is f s n c ∙ round_over f s _ _ l)
      go (inr l) = of_value (round f s n c) (grid f n c) (2 ^ low f) (subst (λ (z : Float). HasValue z s (grid f n c) (2 ^ low f)) (sym (round_is f s n c)) (units_val f s _ _ l))
