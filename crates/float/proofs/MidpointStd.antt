-- `midpoint` is what std says of `f32::midpoint`. Assumes nothing.
-- std halves the sum where both are up to half of the largest value, and else adds the halves. A sum is exact, or so large that half of it rounds in the same place.
-- A half that isn't exact is below 2 ^ 24 of the smallest values; beside more than half of the largest value it changes nothing, rounded or not.
use Rattle.std.proofs.Common.{◌≡◌, ℕ, zero, suc, ◌+◌, ◌-◌, ◌*◌, ◌/◌, ◌^◌, ◌<◌, ◌≤◌, Bool, true, false, cond, ◌&&◌, T, ltb, ◌⊎◌, sym, refl, ap, ◌∙◌, subst, inl, inr, le_trans, le_of_eq, lt_of_lt_of_le, lt_of_le_of_lt, mul_assoc, mul_comm, mul_right_comm, mul-pos, mul-one, le_of_mul-le-mul_right, mul-le-mul_right, arith, lit<, lit≤, pow_pos, pow_mono, pow-suc, shl_lt}
use mathlib.Core.Bool.{beq}
use Rattle.std.specs.Float.{float_midpoint, float_two, half_max, float_with_sign}
use lib.Ieee.{Float, nan, inf, fin, binary32, unlike, up, down, round, sum, add, div, le, lt, eq, fits, of_bits}
use lib.Ieee.Fits.{down_pos}
use lib.Ieee.Exact.{HasValue}
use lib.Ieee.Order.{le_of_values}
use lib.Ieee.Positive.{positive_of_value, values_of_le}
use lib.Ieee.Scale.{grid, finite, round_same, grid_scale, normal_of_fraction}
use Rattle.float.specs.Ops.{half, midpoint}
use Rattle.float.specs.Nearest.{Held, gap}
use Rattle.float.proofs.NearestLaws.{order, gap_mul, grid_near, grid_held}
use Rattle.float.proofs.RootNearest.{coarse}
use Rattle.float.proofs.SumCases.{add_value, sum_like, sum_less, sum_more, beq_eq}
use Rattle.float.proofs.Values.{rescale, half_value}
use Rattle.float.proofs.Wider.{Parts, parts}
use Rattle.float.proofs.Exactly.{exact_at, value_at, round_grid}

-- n / 2 of the smallest values
abbrev U : ℕ
U = 2 ^ 149 * 2

U-pos : 0 < 2 ^ 149 * 2
U-pos = mul-pos (pow_pos 149) (pow_pos 1)

-- no number that is held lies nearer to n / 2 than the one it rounds to
near : (n y : ℕ) → Held binary32 y → gap n (grid binary32 n U * 2) ≤ gap n (y * 2)
near n y H =
    le_of_mul-le-mul_right
    (le_trans (le_of_eq (scaled (grid binary32 n U))) (le_trans (grid_near binary32 n U U-pos y H) (le_of_eq (sym (scaled y)))))
    (pow_pos 149)
  where
    scaled : (y : ℕ) → gap n (y * 2) * 2 ^ 149 ≡ gap (n * 2 ^ 149) (y * (2 ^ 149 * 2))
    scaled y = sym (gap_mul n (y * 2) (2 ^ 149)) ∙ ap (gap (n * 2 ^ 149)) (mul_right_comm y 2 (2 ^ 149) ∙ mul_assoc y (2 ^ 149) 2)

-- ---- x / 2
unlike_false : (s : Bool) → unlike s false ≡ s
unlike_false true = refl
unlike_false false = refl

div_two : (x : Float) (s : Bool) (a c : ℕ) → 0 < c → HasValue x s a c → div binary32 x (float_two binary32) ≡ round binary32 s a (c * 2)
unfolding div of_bits
div_two nan s a c C h = absurd h
div_two (inf t) s a c C h = absurd h
div_two (fin t m e) s a c C h =
    ap (λ (z : Bool). round binary32 z (m * up e * 1) (2 * down e)) (unlike_false t ∙ h.0)
    ∙ round_same binary32 s (m * up e * 1) (2 * down e) a (c * 2) (mul-pos (lit< tt) (down_pos e)) (mul-pos C (lit< tt))
    (ap (λ (z : ℕ). z * (c * 2)) (mul-one (m * up e)) ∙ sym (mul_assoc (m * up e) c 2) ∙ ap (λ (z : ℕ). z * 2) h.1 ∙ mul_assoc a (down e) 2 ∙ ap (λ (z : ℕ). a * z) (mul_comm (down e) 2))

-- ---- half of a rounded number is half of the number, rounded, where nothing overflows
abbrev Most : ℕ
Most = 16777215 * 2 ^ 253

most_held : Held binary32 Most
most_held = record { q = 16777215; j = 253; few = lit< tt; is = refl }

module _ (s : Bool) (n : ℕ) (h : n ≤ Most) where
  -- n of the smallest values rounded
  g : ℕ
  g = grid binary32 (n * 2) U

  near_g : (y : ℕ) → Held binary32 y → gap n g ≤ gap n y
  unfolding g
  near_g y H = half-gap n (grid binary32 (n * 2) U) y (near (n * 2) y H)
    where
      half-gap : (n a b : ℕ) → gap (n * 2) (a * 2) ≤ gap (n * 2) (b * 2) → gap n a ≤ gap n b
      half-gap n a b h = omega arith

  g_most : g ≤ Most
  g_most = let l = near_g Most most_held in omega arith

  g_under : g < 2 ^ 277
  g_under = lt_of_le_of_lt g_most (lit< tt)

  -- half of g is the nearest to n / 2 too
  halves_to : round binary32 s g U ≡ round binary32 s n U
  unfolding g
  halves_to = go (order (2 ^ 24) n)
    where
      exact : gap n g ≤ gap n n → g ≡ n
      exact b = omega arith

      go : (2 ^ 24 ≤ n) ⊎ (n < 2 ^ 24) → round binary32 s g U ≡ round binary32 s n U
      go (inr l) =
          let H : Held binary32 n = record { q = n; j = 0; few = l; is = sym (mul-one n) } in
          ap (λ (z : ℕ). round binary32 s z U) (exact (near_g n H))
      go (inl l) =
          let k = grid binary32 n U in
          let e : g ≡ k * 2 = twice in
          let u : k < 2 ^ 277 = less g k e g_under in
          round_same binary32 s g U k (2 ^ 149) U-pos (pow_pos 149) (ap (λ (z : ℕ). z * 2 ^ 149) e ∙ mul_right_comm k 2 (2 ^ 149) ∙ mul_assoc k (2 ^ 149) 2)
          ∙ sym (round_grid s n U U-pos u)
        where
          less : (g k : ℕ) → g ≡ k * 2 → g < 2 ^ 277 → k < 2 ^ 277
          less g k e h = omega arith

          twice : g ≡ grid binary32 n U * 2
          twice = grid_scale binary32 n U 1 U-pos (normal_of_fraction binary32 n U U-pos (omega (arith, l)))

  halve : div binary32 (round binary32 s n (2 ^ 149)) (float_two binary32) ≡ round binary32 s n U
  unfolding g
  halve =
      ap (λ (z : Float). div binary32 z (float_two binary32)) (round_same binary32 s n (2 ^ 149) (n * 2) U (pow_pos 149) U-pos (sym (mul_assoc n (2 ^ 149) 2) ∙ mul_right_comm n (2 ^ 149) 2))
      ∙ div_two (round binary32 s (n * 2) U) s (grid binary32 (n * 2) U) (2 ^ 149) (pow_pos 149) (value_at s (n * 2) U g_under)
      ∙ halves_to

-- ---- half of the sum, both being up to half of the largest value
abbrev Half : ℕ
Half = 16777215 * 2 ^ 252

halve_sum : (s t : Bool) (a b : ℕ) → a ≤ Half → b ≤ Half → div binary32 (sum binary32 s a t b (2 ^ 149)) (float_two binary32) ≡ sum binary32 s a t b U
unfolding sum
halve_sum s t a b A B = go (beq s t) (ltb a b) (s && ltb b a)
  where
    go : (i j k : Bool)
        → div binary32 (cond i (round binary32 s (a + b) (2 ^ 149)) (cond j (round binary32 t (b - a) (2 ^ 149)) (round binary32 k (a - b) (2 ^ 149)))) (float_two binary32)
        ≡ cond i (round binary32 s (a + b) U) (cond j (round binary32 t (b - a) U) (round binary32 k (a - b) U))
    go true j k = halve s (a + b) (omega arith)
    go false true k = halve t (b - a) (omega arith)
    go false false k = halve k (a - b) (omega arith)

-- ---- b, of 71 digits or more, changed by less than 2 ^ 27 halves
absorb : (s : Bool) (z b : ℕ) → Held binary32 b → 2 ^ 70 ≤ b → b < 2 ^ 277 → gap z (b * 2) ≤ 2 ^ 26 → round binary32 s z U ≡ round binary32 s b (2 ^ 149)
absorb s z b H B u d = round_grid s z U U-pos (lt_of_le_of_lt (le_of_eq is) u) ∙ ap (λ (k : ℕ). round binary32 s k (2 ^ 149)) is
  where
    large : (g : ℕ) → gap z (g * 2) ≤ gap z (b * 2) → 2 ^ 67 ≤ g
    large g h = omega arith

    alike : (g b u v z : ℕ) → g ≡ u * 2 ^ 43 → b ≡ v * 2 ^ 43 → gap z (g * 2) ≤ gap z (b * 2) → gap z (b * 2) ≤ 2 ^ 26 → g ≡ b
    alike g b u v z p q h l = omega arith

    whole : (g : ℕ) → Held binary32 g → 2 ^ 67 ≤ g → g ≡ g / 2 ^ 43 * 2 ^ 43
    whole g G l = go (coarse g G)
      where
        go : (g ≡ g / 2 ^ 43 * 2 ^ 43) ⊎ (g < 2 ^ 67) → g ≡ g / 2 ^ 43 * 2 ^ 43
        go (inl e) = e
        go (inr k) = absurd (let m = l in omega arith)

    is : grid binary32 z U ≡ b
    is =
        let g = grid binary32 z U in
        let h = near z b H in
        alike g b (g / 2 ^ 43) (b / 2 ^ 43) z (whole g (grid_held binary32 z U U-pos) (large g h)) (whole b H (le_trans (lit≤ tt) B)) h d

sum_right : (s t : Bool) (b e : ℕ) → Held binary32 b → 2 ^ 70 ≤ b → b < 2 ^ 277 → e ≤ 2 ^ 26 → sum binary32 s (b * 2) t e U ≡ round binary32 s b (2 ^ 149)
sum_right s t b e H B u l = go (beq s t) refl
  where
    go : (x : Bool) → beq s t ≡ x → sum binary32 s (b * 2) t e U ≡ round binary32 s b (2 ^ 149)
    go true p = sum_like binary32 s (b * 2) e U t (beq_eq s t p) ∙ absorb s (b * 2 + e) b H B u (omega arith)
    go false p = sum_more binary32 s t (b * 2) e U p (omega arith) ∙ absorb s (b * 2 - e) b H B u (omega arith)

sum_left : (s t : Bool) (e b : ℕ) → Held binary32 b → 2 ^ 70 ≤ b → b < 2 ^ 277 → e ≤ 2 ^ 26 → sum binary32 s e t (b * 2) U ≡ round binary32 t b (2 ^ 149)
sum_left s t e b H B u l = go (beq s t) refl
  where
    go : (x : Bool) → beq s t ≡ x → sum binary32 s e t (b * 2) U ≡ round binary32 t b (2 ^ 149)
    go true p =
        sum_like binary32 s e (b * 2) U t (beq_eq s t p) ∙ ap (λ (z : Bool). round binary32 z (e + b * 2) U) (beq_eq s t p) ∙ absorb t (e + b * 2) b H B u (omega arith)
    go false p = sum_less binary32 s t e (b * 2) U p (omega arith) ∙ absorb t (b * 2 - e) b H B u (omega arith)

-- ---- x / 2 of an x that is a of the smallest values: exact where a is twice a number that is held, and else small
record Doubled (a : ℕ) : Type 0 where
  pub b : ℕ
  pub held : Held binary32 b
  pub is : a ≡ b * 2
  pub under : b < 2 ^ 277

doubled : (m k : ℕ) → m < 2 ^ 24 → k ≤ 253 → 2 ^ 24 ≤ m * 2 ^ k → Doubled (m * 2 ^ k)
doubled m zero M K h = absurd (let e = mul-one m in omega arith)
doubled m (suc j) M K h = record {
  b = m * 2 ^ j;
  held = record { q = m; j = j; few = M; is = refl };
  is = ap (λ (z : ℕ). m * z) (pow-suc 2 j) ∙ sym (mul_assoc m (2 ^ j) 2);
  under = lt_of_lt_of_le (shl_lt 24 j M) (pow_mono (room j K));
}
  where
    room : (j : ℕ) → suc j ≤ 253 → 24 + j ≤ 277
    room j h = omega arith

half_of : Float → Float
half_of x = div binary32 x (float_two binary32)

exact_half : (x : Float) (s : Bool) (a : ℕ) → HasValue x s a (2 ^ 149) → Doubled a → HasValue (half_of x) s a U
unfolding half_of
exact_half x s a v d =
    subst (λ (z : ℕ). HasValue (div binary32 x (float_two binary32)) s z U) (sym d.is)
    (rescale (div binary32 x (float_two binary32)) s d.b (2 ^ 149) 2
    (subst (λ (z : Float). HasValue z s d.b (2 ^ 149))
    (sym (div_two x s a (2 ^ 149) (pow_pos 149) v
    ∙ round_same binary32 s a U d.b (2 ^ 149) U-pos (pow_pos 149) (ap (λ (z : ℕ). z * 2 ^ 149) d.is ∙ mul_right_comm d.b 2 (2 ^ 149) ∙ mul_assoc d.b (2 ^ 149) 2)))
    (exact_at s d.b d.held d.under)))

small_half : (x : Float) (s : Bool) (a : ℕ) → HasValue x s a (2 ^ 149) → a < 2 ^ 24 → (grid binary32 a U * 2 ≤ 2 ^ 26) × HasValue (half_of x) s (grid binary32 a U * 2) U
unfolding half_of
small_half x s a v l =
    let g = grid binary32 a U in
    let h : g * 2 ≤ 2 ^ 26 = most g a l (near a 0 (record { q = 0; j = 0; few = lit< tt; is = refl })) in (
      h,
      rescale (div binary32 x (float_two binary32)) s g (2 ^ 149) 2
          (subst (λ (z : Float). HasValue z s g (2 ^ 149)) (sym (div_two x s a (2 ^ 149) (pow_pos 149) v)) (value_at s a U (under g h))),
    )
  where
    most : (g a : ℕ) → a < 2 ^ 24 → gap a (g * 2) ≤ gap a (0 * 2) → g * 2 ≤ 2 ^ 26
    most g a l h = omega arith

    under : (g : ℕ) → g * 2 ≤ 2 ^ 26 → g < 2 ^ 277
    under g h = omega arith

-- ---- the sum of the halves, where one of the values is above half of the largest
module _ (x y : Float) (s t : Bool) (a b : ℕ) (v : HasValue x s a (2 ^ 149)) (w : HasValue y t b (2 ^ 149)) (over : a ≤ Half → b ≤ Half → ⊥) where
  large : (b : ℕ) → (b ≤ Half → ⊥) → (d : Doubled b) → 2 ^ 70 ≤ d.b
  large b n d = go (order b Half)
    where
      go : (b ≤ Half) ⊎ (Half < b) → 2 ^ 70 ≤ d.b
      go (inl l) = absurd (n l)
      go (inr l) = let e = d.is in omega arith

  few : (a : ℕ) → a < 2 ^ 24 → a ≤ Half
  few a l = omega arith

  fewer : (a : ℕ) → a < 2 ^ 24 → a ≤ 2 ^ 26
  fewer a l = omega arith

  sum_halves : Doubled a ⊎ (a < 2 ^ 24) → Doubled b ⊎ (b < 2 ^ 24) → add binary32 (half_of x) (half_of y) ≡ sum binary32 s a t b U
  sum_halves (inl c) (inl d) = add_value binary32 (half_of x) (half_of y) s t a b U U-pos (exact_half x s a v c) (exact_half y t b w d)
  sum_halves (inl c) (inr l) =
      let h = small_half y t b w l in
      let L = large a (λ (z : a ≤ Half). over z (few b l)) c in
      add_value binary32 (half_of x) (half_of y) s t a (grid binary32 b U * 2) U U-pos (exact_half x s a v c) h.1
      ∙ ap (λ (z : ℕ). sum binary32 s z t (grid binary32 b U * 2) U) c.is
      ∙ sum_right s t c.b (grid binary32 b U * 2) c.held L c.under h.0
      ∙ sym (ap (λ (z : ℕ). sum binary32 s z t b U) c.is ∙ sum_right s t c.b b c.held L c.under (fewer b l))
  sum_halves (inr l) (inl d) =
      let h = small_half x s a v l in
      let L = large b (over (few a l)) d in
      add_value binary32 (half_of x) (half_of y) s t (grid binary32 a U * 2) b U U-pos h.1 (exact_half y t b w d)
      ∙ ap (λ (z : ℕ). sum binary32 s (grid binary32 a U * 2) t z U) d.is
      ∙ sum_left s t (grid binary32 a U * 2) d.b d.held L d.under h.0
      ∙ sym (ap (λ (z : ℕ). sum binary32 s a t z U) d.is ∙ sum_left s t a d.b d.held L d.under (fewer a l))
  sum_halves (inr l) (inr m) = absurd (over (few a l) (few b m))

-- ---- std's test
top-half : HasValue (half_max binary32) false Half (2 ^ 149)
unfolding of_bits
top-half = (refl, refl)

size_value : (x : Float) (s : Bool) (a c : ℕ) → HasValue x s a c → HasValue (float_with_sign false x) false a c
unfolding float_with_sign
size_value nan s a c v = v
size_value (inf t) s a c v = v
size_value (fin t m e) s a c v = (refl, v.1)

within : (x : Float) (s : Bool) (a : ℕ) → HasValue x s a (2 ^ 149) → le (float_with_sign false x) (half_max binary32) ≡ true → a ≤ Half
within x s a v h = go (order 1 a)
  where
    go : (1 ≤ a) ⊎ (a < 1) → a ≤ Half
    go (inr l) = omega arith
    go (inl l) =
        let z = float_with_sign false x in
        let u = size_value x s a (2 ^ 149) v in
        le_of_mul-le-mul_right
        (values_of_le z (half_max binary32) a (2 ^ 149) Half (2 ^ 149) (positive_of_value z a (2 ^ 149) u l) (positive_of_value (half_max binary32) Half (2 ^ 149) top-half (lit< tt)) u top-half (subst T (sym h) tt))
        (pow_pos 149)

beyond : (x : Float) (s : Bool) (a : ℕ) → HasValue x s a (2 ^ 149) → le (float_with_sign false x) (half_max binary32) ≡ false → a ≤ Half → ⊥
beyond x s a v h l =
    subst T h (le_of_values (float_with_sign false x) (half_max binary32) a (2 ^ 149) Half (2 ^ 149) (pow_pos 149) (pow_pos 149) (size_value x s a (2 ^ 149) v) top-half (mul-le-mul_right (2 ^ 149) l))

split : (x : Float) (p : Parts x) → Doubled (p.m * 2 ^ p.x) ⊎ (p.m * 2 ^ p.x < 2 ^ 24)
split x p = go (order (2 ^ 24) (p.m * 2 ^ p.x))
  where
    go : (2 ^ 24 ≤ p.m * 2 ^ p.x) ⊎ (p.m * 2 ^ p.x < 2 ^ 24) → Doubled (p.m * 2 ^ p.x) ⊎ (p.m * 2 ^ p.x < 2 ^ 24)
    go (inl l) = inl (doubled p.m p.x p.m_lt p.x_le l)
    go (inr l) = inr l

half_finite : (x : Float) → Parts x → T (finite (div binary32 x (float_two binary32)))
unfolding half_of
half_finite x p = go (split x p)
  where
    is_finite : (z : Float) (s : Bool) (n c : ℕ) → HasValue z s n c → T (finite z)
    is_finite nan s n c v = v
    is_finite (inf t) s n c v = v
    is_finite (fin t m e) s n c v = tt

    go : Doubled (p.m * 2 ^ p.x) ⊎ (p.m * 2 ^ p.x < 2 ^ 24) → T (finite (half_of x))
    go (inl d) = is_finite (half_of x) p.s (p.m * 2 ^ p.x) U (exact_half x p.s (p.m * 2 ^ p.x) p.value d)
    go (inr l) = is_finite (half_of x) p.s (grid binary32 (p.m * 2 ^ p.x) U * 2) U (small_half x p.s (p.m * 2 ^ p.x) p.value l).1

-- ---- two finite values
module _ (x y : Float) (p : Parts x) (q : Parts y) where
  abbrev a : ℕ
  a = p.m * 2 ^ p.x

  abbrev b : ℕ
  b = q.m * 2 ^ q.x

  mid_is : midpoint x y ≡ sum binary32 p.s a q.s b U
  unfolding midpoint
  mid_is = add_value binary32 (half x) (half y) p.s q.s a b U U-pos (half_value x p.s a (2 ^ 149) p.value) (half_value y q.s b (2 ^ 149) q.value)

  whole_sum : a ≤ Half → b ≤ Half → div binary32 (add binary32 x y) (float_two binary32) ≡ midpoint x y
  whole_sum A B =
      ap (λ (z : Float). div binary32 z (float_two binary32)) (add_value binary32 x y p.s q.s a b (2 ^ 149) (pow_pos 149) p.value q.value)
      ∙ halve_sum p.s q.s a b A B ∙ sym mid_is

  two_halves : (a ≤ Half → b ≤ Half → ⊥) → add binary32 (div binary32 x (float_two binary32)) (div binary32 y (float_two binary32)) ≡ midpoint x y
  unfolding half_of
  two_halves over = sum_halves x y p.s q.s a b p.value q.value over (split x p) (split y q) ∙ sym mid_is

  finite_mid : float_midpoint binary32 x y ≡ midpoint x y
  finite_mid = go (le (float_with_sign false x) (half_max binary32)) (le (float_with_sign false y) (half_max binary32)) refl refl
    where
      go : (i j : Bool) → le (float_with_sign false x) (half_max binary32) ≡ i → le (float_with_sign false y) (half_max binary32) ≡ j
          → cond (i && j) (div binary32 (add binary32 x y) (float_two binary32)) (add binary32 (div binary32 x (float_two binary32)) (div binary32 y (float_two binary32))) ≡ midpoint x y
      go true true i j = whole_sum (within x p.s a p.value i) (within y q.s b q.value j)
      go true false i j = two_halves (λ (A : a ≤ Half) (B : b ≤ Half). beyond y q.s b q.value j B)
      go false true i j = two_halves (λ (A : a ≤ Half) (B : b ≤ Half). beyond x p.s a p.value i A)
      go false false i j = two_halves (λ (A : a ≤ Half) (B : b ≤ Half). beyond x p.s a p.value i A)

-- ---- NaN and infinities
add_left : (s : Bool) (z : Float) → T (finite z) → add binary32 (inf s) z ≡ inf s
unfolding add
add_left s nan h = absurd h
add_left s (inf t) h = absurd h
add_left s (fin t m e) h = refl

add_right : (z : Float) (s : Bool) → T (finite z) → add binary32 z (inf s) ≡ inf s
unfolding add
add_right nan s h = absurd h
add_right (inf t) s h = absurd h
add_right (fin t m e) s h = refl

add_nan : (z : Float) → add binary32 z nan ≡ nan
unfolding add
add_nan nan = refl
add_nan (inf t) = refl
add_nan (fin t m e) = refl

otherwise : (i : Bool) (u v : Float) → cond (i && false) u v ≡ v
otherwise true u v = refl
otherwise false u v = refl

pub midpoint_std : (x y : Float) → T (fits binary32 x) → T (fits binary32 y) → float_midpoint binary32 x y ≡ midpoint x y
unfolding le lt eq of_bits float_with_sign div add midpoint half
midpoint_std nan y p q = refl
midpoint_std (inf s) nan p q = refl
midpoint_std (inf true) (inf true) p q = refl
midpoint_std (inf true) (inf false) p q = refl
midpoint_std (inf false) (inf true) p q = refl
midpoint_std (inf false) (inf false) p q = refl
midpoint_std (inf s) (fin t n d) p q =
    ap (λ (z : Bool). add binary32 (inf z) (div binary32 (fin t n d) (float_two binary32))) (unlike_false s)
    ∙ add_left s (div binary32 (fin t n d) (float_two binary32)) (half_finite (fin t n d) (parts (fin t n d) q tt))
midpoint_std (fin s m e) nan p q = otherwise (le (fin false m e) (half_max binary32)) _ _ ∙ add_nan (div binary32 (fin s m e) (float_two binary32))
midpoint_std (fin s m e) (inf t) p q =
    otherwise (le (fin false m e) (half_max binary32)) _ _
    ∙ ap (λ (z : Bool). add binary32 (div binary32 (fin s m e) (float_two binary32)) (inf z)) (unlike_false t)
    ∙ add_right (div binary32 (fin s m e) (float_two binary32)) t (half_finite (fin s m e) (parts (fin s m e) p tt))
midpoint_std (fin s m e) (fin t n d) p q = finite_mid (fin s m e) (fin t n d) (parts (fin s m e) p tt) (parts (fin t n d) q tt)
