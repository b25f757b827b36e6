-- `root` is the nearest value to the exact root. Assumes nothing.
-- Counted in 2 ^ -107 the root is √N, of which `halves` has the whole part r and whether that is all. A middle between two values of the
-- format, counted so, is a whole number M, so M against √N is M against r and a half.
use Rattle.std.proofs.Common.{◌≡◌, ℕ, zero, suc, ◌+◌, ◌-◌, ◌*◌, ◌/◌, ◌%◌, ◌^◌, ◌<◌, ◌≤◌, Bool, true, false, T, eqb, ◌≢◌, ◌⊎◌, sym, refl, ap, ◌∙◌, subst, ap₂, inl, inr, le_trans, le_of_eq, lt_of_lt_of_le, le_of_suc-le-suc, le-add_right, lt_of_le_of_lt, le_of_lt, lt_irrefl, mul-le-mul_right, zero-lt-suc, mul_assoc, mul_comm, add-mul, lt_of_mul-lt-mul_right, mul-le-mul_left, mul-lt-mul_of_pos_right, mul-pos, one-mul, lt_of_not-le, mul-one, mul_right_comm, not-le_of_lt, le_of_mul-le-mul_right, mul-div_cancel, mul_left_comm, add-one, arith, lit<, lit≤, ltb→lt, pow_pos, pow_mono, pow-add, eqb-true}
use native.Mathlib.Nat.{eq_of_mul-eq-mul_right}
use borrow.Author.Tests.{eqb-false}
use lib.Ieee.{Float, nan, inf, fin, binary32, up, down, size, round, fits}
use lib.Ieee.Fits.{and_l, and_r, up_pos, down_pos}
use lib.Ieee.Exact.{HasValue}
use lib.Ieee.Scale.{grid, round_val}
use lib.Ieee.Positive.{num, den, positive, first_pos}
use Rattle.float.specs.Ops.{isqrt, halves, root}
use Rattle.float.specs.Whole.{IsRoot}
use Rattle.float.specs.Nearest.{Held, NearestRoot, gap}
use Rattle.float.proofs.NearestLaws.{order, grid_near, grid_even, grid_held}
use Rattle.float.proofs.Roots.{own_root, square_mono, halves_exact, halves_more, square_product}
use Rattle.float.proofs.RootCases.{root_value}
use Rattle.float.proofs.Scaled.{scaled_exact}

-- ---- h is √n in halves: M * M against n is 2 * M against h
module _ (n r h : ℕ) (R : IsRoot n r) where
  abbrev Halves : Type 0
  Halves = ((r * r ≡ n) × (h ≡ 2 * r)) ⊎ (h ≡ 2 * r + 1)

  square_below : Halves → (M : ℕ) → 2 * M ≤ h → M * M ≤ n
  square_below H M l = le_trans (square_mono (go H)) R.lo
    where
      go : ((r * r ≡ n) × (h ≡ 2 * r)) ⊎ (h ≡ 2 * r + 1) → M ≤ r
      go (inl e) = omega (arith, e.1)
      go (inr e) = omega arith

  square_above : Halves → (M : ℕ) → h ≤ 2 * M → n ≤ M * M
  square_above (inl e) M l = le_trans (le_of_eq (sym e.0)) (square_mono (omega (arith, e.1)))
  square_above (inr e) M l = le_of_lt (lt_of_lt_of_le R.hi (square_mono (omega arith)))

-- ---- a value that is no farther from x than another lies on its own side of their middle
side_below : (x a b : ℕ) → gap x a ≤ gap x b → b < a → a + b ≤ 2 * x
side_below x a b l o = omega arith

side_above : (x a b : ℕ) → gap x a ≤ gap x b → a < b → 2 * x ≤ a + b
side_above x a b l o = omega arith

middle : (x a b : ℕ) → a + b ≡ 2 * x → gap x a ≡ gap x b
middle x a b e = omega arith

-- what is no farther than a b on one side of x is not past that b
floor : (x a b : ℕ) → gap x a ≤ gap x b → b ≤ x → b ≤ a
floor x a b l o = omega arith

ceiling : (x a b : ℕ) → gap x a ≤ gap x b → x ≤ b → a ≤ b
ceiling x a b l o = omega arith

-- ---- the format's values of 68 digits or more are multiples of 2 ^ 43
pub coarse : (k : ℕ) → Held binary32 k → (k ≡ k / 2 ^ 43 * 2 ^ 43) ⊎ (k < 2 ^ 67)
coarse k H = go (order 43 H.j)
  where
    go : (43 ≤ H.j) ⊎ (H.j < 43) → (k ≡ k / 2 ^ 43 * 2 ^ 43) ⊎ (k < 2 ^ 67)
    go (inl l) =
        let e : H.j ≡ H.j - 43 + 43 = omega arith in
        let p : k ≡ H.q * 2 ^ (H.j - 43) * 2 ^ 43 = H.is ∙ ap (λ (z : ℕ). H.q * 2 ^ z) e ∙ ap (λ (z : ℕ). H.q * z) (pow-add 2 (H.j - 43) 43) ∙ sym (mul_assoc H.q (2 ^ (H.j - 43)) (2 ^ 43)) in
        inl (p ∙ ap (λ (z : ℕ). z * 2 ^ 43) (sym (mul-div_cancel (H.q * 2 ^ (H.j - 43)) (pow_pos 43)) ∙ ap (λ (z : ℕ). z / 2 ^ 43) (sym p)))
    go (inr l) =
        let b : 24 + H.j ≤ 67 = omega arith in
        inr (lt_of_le_of_lt (le_of_eq H.is) (lt_of_lt_of_le (mul-lt-mul_of_pos_right H.few (pow_pos H.j)) (le_trans (le_of_eq (sym (pow-add 2 24 H.j))) (pow_mono b))))

module _ (w : ℕ) (W : 0 < w) where
  N : ℕ
  N = 2 * w * 4 ^ 32

  r : ℕ
  unfolding N
  r = isqrt (size N) N

  h : ℕ
  h = halves N

  g : ℕ
  g = grid binary32 h (2 ^ 108)

  is_root : IsRoot N r
  unfolding r
  is_root = own_root N

  in_halves : ((r * r ≡ N) × (h ≡ 2 * r)) ⊎ (h ≡ 2 * r + 1)
  unfolding h
  in_halves = go (eqb (r * r) N) refl
    where
      go : (x : Bool) → eqb (r * r) N ≡ x → ((r * r ≡ N) × (halves N ≡ 2 * r)) ⊎ (halves N ≡ 2 * r + 1)
      go true e = inl (eqb-true (r * r) N e, halves_exact N r is_root (eqb-true (r * r) N e))
      go false e = inr (halves_more N r is_root (eqb-false (r * r) N e))

  big_root : 2 ^ 32 ≤ r
  unfolding N
  big_root = le_of_suc-le-suc (lt_of_not-le (λ (b : suc r ≤ 2 ^ 32). not-le_of_lt is_root.hi (le_trans (square_mono (le_trans (le_of_eq (add-one r)) b)) enough)))
    where
      enough : 2 ^ 32 * 2 ^ 32 ≤ 2 * w * 4 ^ 32
      enough = omega arith

  big_halves : 2 ^ 33 ≤ h
  big_halves = go in_halves
    where
      go : ((r * r ≡ N) × (h ≡ 2 * r)) ⊎ (h ≡ 2 * r + 1) → 2 ^ 33 ≤ h
      go (inl e) = let b = big_root in omega (arith, e.1)
      go (inr e) = let b = big_root in omega arith

  -- in 2 ^ -149 the rounded number is h * 2 ^ 41
  many : 2 ^ 74 * 2 ^ 108 ≤ h * 2 ^ 149
  many = le_trans (lit≤ tt) (mul-le-mul_right (2 ^ 149) big_halves)

  near : (k : ℕ) → Held binary32 k → gap (h * 2 ^ 149) (g * 2 ^ 108) ≤ gap (h * 2 ^ 149) (k * 2 ^ 108)
  unfolding g
  near k H = grid_near binary32 h (2 ^ 108) (pow_pos 108) k H

  power_held : (j : ℕ) → Held binary32 (2 ^ j)
  power_held j = record { q = 1; j = j; few = lit< tt; is = sym (one-mul (2 ^ j)) }

  g_big : 2 ^ 74 ≤ g
  g_big = le_of_mul-le-mul_right (floor (h * 2 ^ 149) (g * 2 ^ 108) (2 ^ 74 * 2 ^ 108) (near (2 ^ 74) (power_held 74)) many) (pow_pos 108)

  g_held : Held binary32 g
  unfolding g
  g_held = grid_held binary32 h (2 ^ 108) (pow_pos 108)

  twice : 2 * (h * 2 ^ 149) ≡ h * 2 ^ 42 * 2 ^ 108
  twice = mul_left_comm 2 h (2 ^ 149) ∙ sym (mul_assoc h (2 ^ 42) (2 ^ 108))

  mid_below : (k : ℕ) → Held binary32 k → k < g → g + k ≤ h * 2 ^ 42
  mid_below k H l =
      le_of_mul-le-mul_right
      (le_trans (le_of_eq (add-mul g k (2 ^ 108))) (le_trans (side_below (h * 2 ^ 149) (g * 2 ^ 108) (k * 2 ^ 108) (near k H) (mul-lt-mul_of_pos_right l (pow_pos 108))) (le_of_eq twice)))
      (pow_pos 108)

  mid_above : (k : ℕ) → Held binary32 k → g < k → h * 2 ^ 42 ≤ g + k
  mid_above k H l =
      le_of_mul-le-mul_right
      (le_trans (le_of_eq (sym twice)) (le_trans (side_above (h * 2 ^ 149) (g * 2 ^ 108) (k * 2 ^ 108) (near k H) (mul-lt-mul_of_pos_right l (pow_pos 108))) (le_of_eq (sym (add-mul g k (2 ^ 108))))))
      (pow_pos 108)

  -- ---- the middles as whole numbers M of 2 ^ 43
  abbrev P : ℕ
  P = 2 ^ 43

  g_whole : g ≡ g / P * P
  g_whole = go (coarse g g_held)
    where
      go : (g ≡ g / P * P) ⊎ (g < 2 ^ 67) → g ≡ g / P * P
      go (inl e) = e
      go (inr l) = absurd (let b = g_big in omega arith)

  sum_whole : (k : ℕ) → k ≡ k / P * P → g + k ≡ (g / P + k / P) * P
  sum_whole k e = ap₂ (λ (x y : ℕ). x + y) g_whole e ∙ sym (add-mul (g / P) (k / P) P)

  squared : (k : ℕ) → k ≡ k / P * P → (g + k) * (g + k) ≡ (g / P + k / P) * (g / P + k / P) * (P * P)
  squared k e = ap (λ (z : ℕ). z * z) (sum_whole k e) ∙ square_product (g / P + k / P) P

  halved : (M : ℕ) → M * P ≡ 2 * M * 2 ^ 42
  halved M = omega arith

  whole_below : (k : ℕ) → Held binary32 k → k ≡ k / P * P → k < g → (g + k) * (g + k) ≤ N * (P * P)
  whole_below k H e l =
      let M = g / P + k / P in
      let two : 2 * M ≤ h = le_of_mul-le-mul_right (le_trans (le_of_eq (sym (halved M) ∙ sym (sum_whole k e))) (mid_below k H l)) (pow_pos 42) in
      le_trans (le_of_eq (squared k e)) (mul-le-mul_right (P * P) (square_below N r h is_root in_halves M two))

  whole_above : (k : ℕ) → Held binary32 k → k ≡ k / P * P → g < k → N * (P * P) ≤ (g + k) * (g + k)
  whole_above k H e l =
      let M = g / P + k / P in
      let two : h ≤ 2 * M = le_of_mul-le-mul_right (le_trans (mid_above k H l) (le_of_eq (sum_whole k e ∙ halved M))) (pow_pos 42) in
      le_trans (mul-le-mul_right (P * P) (square_above N r h is_root in_halves M two)) (le_of_eq (sym (squared k e)))

  -- a value below 2 ^ 67, which is below g
  least : (g + 2 ^ 67) * (g + 2 ^ 67) ≤ N * (P * P)
  least = let b = g_big in whole_below (2 ^ 67) (power_held 67) refl (omega arith)

  small_square : (a k : ℕ) → k < 2 ^ 67 → (a + k) * (a + k) < (a + 2 ^ 67) * (a + 2 ^ 67)
  small_square a k l =
      let s : a + k < a + 2 ^ 67 = omega arith in
      let p : 0 < a + 2 ^ 67 = omega arith in
      lt_of_le_of_lt (mul-le-mul_left (a + k) (le_of_lt s)) (mul-lt-mul_of_pos_right s p)

  below : (k : ℕ) → Held binary32 k → k < g → (g + k) * (g + k) ≤ N * (P * P)
  below k H l = go (coarse k H)
    where
      go : (k ≡ k / P * P) ⊎ (k < 2 ^ 67) → (g + k) * (g + k) ≤ N * (P * P)
      go (inl e) = whole_below k H e l
      go (inr s) = le_trans (le_of_lt (small_square g k s)) least

  above : (k : ℕ) → Held binary32 k → g < k → N * (P * P) ≤ (g + k) * (g + k)
  above k H l = go (coarse k H)
    where
      go : (k ≡ k / P * P) ⊎ (k < 2 ^ 67) → N * (P * P) ≤ (g + k) * (g + k)
      go (inl e) = whole_above k H e l
      go (inr s) = absurd (let b = g_big in omega arith)

  -- where the middle is the root, the root is exact
  even : (k : ℕ) → Held binary32 k → g ≢ k → (g + k) * (g + k) ≡ N * (P * P) → g % (2 * gap g k) ≡ 0
  unfolding g h
  even k H ne d = go (coarse k H)
    where
      go : (k ≡ k / P * P) ⊎ (k < 2 ^ 67) → g % (2 * gap g k) ≡ 0
      go (inr s) = absurd (lt_irrefl (N * (P * P)) (lt_of_le_of_lt (le_of_eq (sym d)) (lt_of_lt_of_le (small_square g k s) least)))
      go (inl e) =
          let M = g / P + k / P in
          let s : M * M ≡ N = eq_of_mul-eq-mul_right (P * P) (lit< tt) (M * M) N (sym (squared k e) ∙ d) in
          let root-M : IsRoot N M = record { lo = le_of_eq s; hi = lt_of_le_of_lt (le_of_eq (sym s)) (square_next M) } in
          let half : halves N ≡ 2 * M = halves_exact N M root-M s in
          let sum : g * 2 ^ 108 + k * 2 ^ 108 ≡ 2 * (halves N * 2 ^ 149) =
          sym (add-mul g k (2 ^ 108)) ∙ ap (λ (z : ℕ). z * 2 ^ 108) (sum_whole k e ∙ halved M ∙ ap (λ (z : ℕ). z * 2 ^ 42) (sym half)) ∙ sym twice in
          grid_even binary32 h (2 ^ 108) (pow_pos 108) k H (middle (halves N * 2 ^ 149) (g * 2 ^ 108) (k * 2 ^ 108) sum) ne
        where
          square_next : (a : ℕ) → a * a < (a + 1) * (a + 1)
          square_next a = let p : 0 < a + 1 = omega arith in lt_of_le_of_lt (mul-le-mul_left a (omega arith)) (mul-lt-mul_of_pos_right (omega arith) p)

  -- ---- nothing overflows
  module _ (U : w < 2 ^ 277) where
    N-small : N < 2 ^ 171 * 2 ^ 171
    unfolding N
    N-small = lt_of_lt_of_le (mul-lt-mul_of_pos_right (lt_of_le_of_lt (le_of_eq (mul_comm 2 w)) (mul-lt-mul_of_pos_right U (lit< tt))) (lit< tt)) (lit≤ tt)

    r_small : r < 2 ^ 171
    r_small = lt_of_not-le (λ (b : 2 ^ 171 ≤ r). not-le_of_lt N-small (le_trans (square_mono b) is_root.lo))

    h_small : h ≤ 2 ^ 172
    h_small = go in_halves
      where
        up-to : (a b p : ℕ) → a ≤ 2 * b + 1 → b < p → a ≤ 2 * p
        up-to a b p l s = omega arith

        go : ((r * r ≡ N) × (h ≡ 2 * r)) ⊎ (h ≡ 2 * r + 1) → h ≤ 2 ^ 172
        go (inl e) = up-to h r (2 ^ 171) (le_trans (le_of_eq e.1) (le-add_right (2 * r) 1)) r_small
        go (inr e) = up-to h r (2 ^ 171) (le_of_eq e) r_small

    g_small : g < 2 ^ 277
    g_small =
        let l : g ≤ 2 ^ 213 =
        le_of_mul-le-mul_right
        (ceiling (h * 2 ^ 149) (g * 2 ^ 108) (2 ^ 213 * 2 ^ 108) (near (2 ^ 213) (power_held 213)) (le_trans (mul-le-mul_right (2 ^ 149) h_small) (lit≤ tt)))
        (pow_pos 108) in
        lt_of_le_of_lt l (lit< tt)

-- ---- the root of an f32 above zero, which is w of the smallest values
module _ (x : Float) (w : ℕ) (W : 0 < w) (U : w < 2 ^ 277) (n c : ℕ) (C : 0 < c) (X : HasValue x false w (2 ^ 149)) (F : n * 2 ^ 149 ≡ w * c) where
  -- 4 * n * 4 ^ 149 is the root's square, in the same units, times c
  scale : 4 * n * 4 ^ 149 ≡ N w W * (2 ^ 43 * 2 ^ 43) * c
  unfolding N
  scale =
      sym (split n) ∙ ap (λ (z : ℕ). z * 2 ^ 151) F ∙ turn w c (2 ^ 151)
      ∙ ap (λ (z : ℕ). z * c) (sym (mul_assoc w (2 ^ 65) (2 ^ 86)) ∙ ap (λ (z : ℕ). z * 2 ^ 86) (sym (mul_assoc w 2 (4 ^ 32)) ∙ ap (λ (z : ℕ). z * 4 ^ 32) (mul_comm w 2)))
    where
      split : (n : ℕ) → n * 2 ^ 149 * 2 ^ 151 ≡ 4 * n * 4 ^ 149
      split n = mul_assoc n (2 ^ 149) (2 ^ 151) ∙ sym (mul_assoc n 4 (4 ^ 149)) ∙ ap (λ (z : ℕ). z * 4 ^ 149) (mul_comm n 4)

      turn : (a b p : ℕ) → a * b * p ≡ a * p * b
      turn a b p = mul_right_comm a b p

  root_is : root x ≡ round binary32 false (h w W) (2 ^ 108)
  unfolding N h
  root_is = root_value x w 0 (subst (λ (z : ℕ). HasValue x false z (2 ^ 149)) (sym (mul-one w)) X) (λ (z : w ≡ 0). lt_irrefl 0 (subst (λ (y : ℕ). 0 < y) z W)) ∙ ap (λ (z : ℕ). round binary32 false (halves (2 * z * 4 ^ 32)) (2 ^ 108)) (mul-one w)

  nearest : NearestRoot binary32 n c (root x)
  unfolding g
  nearest = record {
    m = g w W;
    held = g_held w W;
    is = subst (λ (z : Float). HasValue z false (g w W) (2 ^ 149)) (sym root_is) (round_val binary32 (h w W) (2 ^ 108) (g_small w W U));
    below = λ k H l. le_trans (mul-le-mul_right c (below w W k H l)) (le_of_eq (sym scale));
    above = λ k H l. le_trans (le_of_eq scale) (mul-le-mul_right c (above w W k H l));
    even = λ k H ne d. even w W k H ne (eq_of_mul-eq-mul_right c C ((g w W + k) * (g w W + k)) (N w W * (2 ^ 43 * 2 ^ 43)) (d ∙ scale));
  }

-- `f32::sqrt`: nothing is nearer to the root of an f32 above zero
pub root_nearest : (x : Float) → T (fits binary32 x) → T (positive x) → NearestRoot binary32 (num x) (den x) (root x)
unfolding fits
root_nearest nan t p = absurd p
root_nearest (inf s) t p = absurd p
root_nearest (fin true m e) t p = absurd p
root_nearest (fin false zero e) t p = absurd (lt_irrefl 0 (ltb→lt 0 0 p))
root_nearest (fin false (suc m) e) t p = nearest (fin false (suc m) e) w some few (suc m * up e) (down e) (down_pos e) (refl, sym whole) (sym whole)
  where
    w : ℕ
    w = suc m * up e * 2 ^ 149 / down e

    whole : suc m * up e * 2 ^ 149 / down e * down e ≡ suc m * up e * 2 ^ 149
    whole = scaled_exact false (suc m) e t

    some : 0 < suc m * up e * 2 ^ 149 / down e
    some = first_pos (suc m * up e * 2 ^ 149 / down e) (down e) (lt_of_lt_of_le (mul-pos (mul-pos (zero-lt-suc m) (up_pos e)) (pow_pos 149)) (le_of_eq (sym whole)))

    few : suc m * up e * 2 ^ 149 / down e < 2 ^ 277
    few =
        lt_of_mul-lt-mul_right (down e)
        (lt_of_le_of_lt (le_of_eq whole)
        (lt_of_lt_of_le (mul-lt-mul_of_pos_right (ltb→lt (suc m * up e) (2 ^ 128 * down e) (search (and_l, and_r) depth 6)) (pow_pos 149)) (le_of_eq (turn (2 ^ 128) (down e)))))
      where
        turn : (a b : ℕ) → a * b * 2 ^ 149 ≡ a * 2 ^ 149 * b
        turn a b = mul_right_comm a b (2 ^ 149)
