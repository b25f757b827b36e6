-- The reordering of a stripe, by units: unit 8 * bx + y goes to unit y * b + bx, where b blocks are in the stripe. With l = 8 * b - 1 this is the
-- inverse of m -> 8 * m % l, and the last unit, l, stays. So after k reorderings unit m is what was unit m * 8 ^ k % l, and different units were different ones.
use mathlib.Core.Path.{◌≡◌, refl, sym, ap, ap₂, ◌∙◌}
use mathlib.Core.Bool.{Bool, true, false}
use mathlib.Core.Logic.{◌⊎◌, ⊎_elim}
use Prim.Native.Nat.{ℕ, zero, suc, ◌+◌, ◌-◌, ◌*◌, ◌/◌, ◌%◌, ◌^◌, ◌<◌, ◌≤◌}
use native.Mathlib.Nat.{mul_assoc, mul_comm, mul_left_comm, mod-lt, div-add-mod', div-lt_iff_lt-mul, ne_of_lt, eq-or-lt_of_le, mul-zero, not-suc-le-zero}
use native.Mathlib.Omega.{arith}
use Rattle.std.specs.Prelude.{if◌then◌else◌, ◌==◌}
use Rattle.std.proofs.lemmas.Bool.{eq-eqb, eqb-true}
use Rattle.std.proofs.Math.Nat.{mod-eq_of_lt, pow-succ'}
use Rattle.std.proofs.lemmas.Nat.{mod-mul-add, mul-mod_first, mul-mod_second, pow-mod, mul-pow}
use Rattle.fold.specs.Fold.{upto}
use Rattle.fold.proofs.Grid.{column_of, in_grid, row_end, row_of}
use Rattle.start.specs.Coef.{held_unit, stripe_unit}

-- ---- the units of a stripe, the last one left out

-- the unit that a reordering takes to unit y * b + bx
unit_turn : (b l bx y : ℕ) → l + 1 ≡ 8 * b → y * l + (8 * bx + y) ≡ 8 * (y * b + bx)
unit_turn b l bx y e =
    let f : y * (l + 1) ≡ y * (8 * b) = ap (λ (x : ℕ). y * x) e in
    let g : y * (8 * b) ≡ 8 * (y * b) = mul_left_comm y 8 b in
    let h : y * (l + 1) ≡ y * l + y = grind arith in
    omega arith

unit_back : (b l bx y : ℕ) → l + 1 ≡ 8 * b → 8 * bx + y < l → 8 * (y * b + bx) % l ≡ 8 * bx + y
unit_back b l bx y e h =
    ap (λ (x : ℕ). x % l) (sym (unit_turn b l bx y e)) ∙ mod-mul-add y l (8 * bx + y) h

abbrev place : ℕ → ℕ → ℕ → ℕ
place l k m = m * 8 ^ k % l

-- one reordering more
step : (b l bx y k : ℕ) → l + 1 ≡ 8 * b → 8 * bx + y < l → place l (suc k) (y * b + bx) ≡ place l k (8 * bx + y)
step b l bx y k e h =
    let m = y * b + bx in
    let p = 8 ^ k in
    ap (λ (x : ℕ). x % l) (ap (λ (x : ℕ). m * x) (pow-succ' 8 k) ∙ turn m p) ∙ sym (mul-mod_first (8 * m) p l)
    ∙ ap (λ (x : ℕ). x * p % l) (unit_back b l bx y e h)
  where
    turn : (m p : ℕ) → m * (8 * p) ≡ 8 * m * p
    turn m p = mul_left_comm m 8 p ∙ sym (mul_assoc 8 m p)

-- different units stay different: b ^ k takes a place back
one_pow : (k : ℕ) → 1 ^ k ≡ 1
one_pow zero = refl
one_pow (suc k) = pow-succ' 1 k ∙ ap (λ (x : ℕ). 1 * x) (one_pow k)

place_back : (b l m k : ℕ) → l + 1 ≡ 8 * b → 1 < l → m < l → place l k m * b ^ k % l ≡ m
place_back b l m k e big h =
    let p = 8 ^ k in
    let q = b ^ k in
    let one : (l + 1) ^ k % l ≡ 1 % l =
    sym (pow-mod (l + 1) k l) ∙ ap (λ (x : ℕ). x ^ k % l) (unit l big) ∙ ap (λ (x : ℕ). x % l) (one_pow k) in
    let pq : p * q ≡ (l + 1) ^ k = sym (mul-pow 8 b k) ∙ ap (λ (x : ℕ). x ^ k) (sym e) in
    mul-mod_first (m * p) q l
    ∙ ap (λ (x : ℕ). x % l) (mul_assoc m p q ∙ ap (λ (x : ℕ). m * x) pq)
    ∙ sym (mul-mod_second m ((l + 1) ^ k) l)
    ∙ ap (λ (x : ℕ). m * x % l) (one ∙ mod-eq_of_lt big)
    ∙ last m l h
  where
    unit : (l : ℕ) → 1 < l → (l + 1) % l ≡ 1
    unit l big =
        let e : l + 1 ≡ 1 * l + 1 = omega arith in
        ap (λ (x : ℕ). x % l) e ∙ mod-mul-add 1 l 1 big

    last : (m l : ℕ) → m < l → m * 1 % l ≡ m
    last m l h =
        let e : m * 1 ≡ m = omega arith in
        ap (λ (x : ℕ). x % l) e ∙ mod-eq_of_lt h

place_one : (b l m n k : ℕ) → l + 1 ≡ 8 * b → 1 < l → m < l → n < l → place l k m ≡ place l k n → m ≡ n
place_one b l m n k e big hm hn h =
    sym (place_back b l m k e big hm) ∙ ap (λ (x : ℕ). x * b ^ k % l) h ∙ place_back b l n k e big hn

-- ---- all units of a stripe

-- 8 ^ k % (w - 1), as the code carries it
abbrev pub power : ℕ → ℕ → ℕ
power w k = upto (λ i p. p * 8 % (w - 1)) k 1

-- the last unit stays, and the others are turned
pub stripe_last : (w p m : ℕ) → m ≡ w - 1 → stripe_unit w p m ≡ m
stripe_last w p m e = ap (λ (t : Bool). if t then m else m * p % (w - 1)) (eq-eqb m (w - 1) e)

pub stripe_turned : (w p m : ℕ) → m < w - 1 → stripe_unit w p m ≡ m * p % (w - 1)
stripe_turned w p m h = go (m == w - 1) (eqb-true m (w - 1))
  where
    go : (t : Bool) → (t ≡ true → m ≡ w - 1) → (if t then m else m * p % (w - 1)) ≡ m * p % (w - 1)
    go true e = absurd (ne_of_lt h (e refl))
    go false e = refl

stripe_less : (w p m : ℕ) → m < w - 1 → stripe_unit w p m < w - 1
stripe_less w p m h = let g : m * p % (w - 1) < w - 1 = mod-lt (m * p) (omega arith) in omega (arith, stripe_turned w p m h)

last_or : (w m : ℕ) → m < w → (m ≡ w - 1) ⊎ (m < w - 1)
last_or w m h = eq-or-lt_of_le (omega arith)

pub stripe_before : (w m : ℕ) → m < w → (m ≡ w - 1 → ⊥) → m < w - 1
stripe_before w m h n = ⊎_elim (λ e. absurd (n e)) (λ g. g) (last_or w m h)

stripe_in : (w p m : ℕ) → m < w → stripe_unit w p m < w
stripe_in w p m h = ⊎_elim (λ e. omega (arith, stripe_last w p m e)) (λ g. omega (arith, stripe_less w p m g)) (last_or w m h)

-- n stripes have n * w units
pub held_in : (w n p u : ℕ) → u < n * w → held_unit w p u < n * w
held_in w n p u h =
    let wide : 0 < w = some_of n w u h in
    in_grid (u / w) n (stripe_unit w p (u % w)) w ((div-lt_iff_lt-mul wide).1 h) (stripe_in w p (u % w) (mod-lt u wide))
  where
    some_of : (n w u : ℕ) → u < n * w → 0 < w
    some_of n zero u h = absurd (not-suc-le-zero (rw mul-zero at h))
    some_of n (suc w) u h = omega arith

-- a unit of the own plane is held in the own plane
pub held_ends : (w h p u : ℕ) → h % 8 ≡ 0 → u * 8 + 8 ≤ w * h → held_unit w p u * 8 + 8 ≤ w * h
held_ends w h p u e l =
    let tall : h ≡ h / 8 * 8 = omega arith in
    let size : w * h ≡ h / 8 * w * 8 = ap (λ (x : ℕ). w * x) tall ∙ sym (mul_assoc w (h / 8) 8) ∙ ap (λ (x : ℕ). x * 8) (mul_comm w (h / 8)) in
    omega (arith, held_in w (h / 8) p u (omega arith))

module _ (w b : ℕ) (across : w ≡ b * 8) (some : 0 < b) where
  less : w - 1 + 1 ≡ 8 * b
  less = omega arith

  power_is : (k : ℕ) → power w k ≡ 8 ^ k % (w - 1)
  unfolding upto
  power_is zero = sym (mod-eq_of_lt (omega arith))
  power_is (suc k) =
      ap (λ (p : ℕ). p * 8 % (w - 1)) (power_is k) ∙ mul-mod_first (8 ^ k) 8 (w - 1) ∙ ap (λ (x : ℕ). x % (w - 1)) (mul_comm (8 ^ k) 8 ∙ sym (pow-succ' 8 k))

  pub power_in : (k : ℕ) → power w k < w
  power_in k = let h : 8 ^ k % (w - 1) < w - 1 = mod-lt (8 ^ k) (omega arith) in omega (arith, power_is k)

  abbrev turned : ℕ → ℕ → ℕ
  turned k m = stripe_unit w (power w k) m

  turned_is : (k m : ℕ) → m < w - 1 → turned k m ≡ place (w - 1) k m
  turned_is k m h =
      stripe_turned w (power w k) m h ∙ ap (λ (p : ℕ). m * p % (w - 1)) (power_is k) ∙ mul-mod_second m (8 ^ k) (w - 1)

  turned_one : (k m n : ℕ) → m < w → n < w → turned k m ≡ turned k n → m ≡ n
  turned_one k m n h i e =
      ⊎_elim
      (λ p. ⊎_elim (λ q. omega arith) (λ q. omega (arith, stripe_last w (power w k) m p, stripe_less w (power w k) n q)) (last_or w n i))
      (λ p.
      ⊎_elim (λ q. omega (arith, stripe_last w (power w k) n q, stripe_less w (power w k) m p))
      (λ q. place_one b (w - 1) m n k less (omega arith) p q (sym (turned_is k m p) ∙ e ∙ turned_is k n q)) (last_or w n i))
      (last_or w m h)

  -- unit y * b + bx after one reordering more is what was unit 8 * bx + y before it
  turned_step : (k bx y : ℕ) → bx < b → y < 8 → turned (suc k) (y * b + bx) ≡ turned k (8 * bx + y)
  turned_step k bx y l m =
      ⊎_elim
      (λ e.
      let seven : y * b ≡ 7 * b = ap (λ (r : ℕ). r * b) (omega arith) in
      let f : y * b + bx ≡ w - 1 = omega arith in
      stripe_last w (power w (suc k)) (y * b + bx) f ∙ f ∙ sym e ∙ sym (stripe_last w (power w k) (8 * bx + y) e))
      (λ g. turned_is (suc k) (y * b + bx) (before g) ∙ step b (w - 1) bx y k less g ∙ sym (turned_is k (8 * bx + y) g))
      (last_or w (8 * bx + y) (omega arith))
    where
      before : 8 * bx + y < w - 1 → y * b + bx < w - 1
      before g =
          ⊎_elim (λ e. let seven : y * b ≡ 7 * b = ap (λ (r : ℕ). r * b) e in omega arith) (λ q. omega (arith, row_end y 7 b q))
          (eq-or-lt_of_le (omega arith))

  -- ---- the units of the whole image

  wide : 0 < w
  wide = omega arith

  abbrev held : ℕ → ℕ → ℕ
  held k u = held_unit w (power w k) u

  pub held_one : (k u v : ℕ) → held k u ≡ held k v → u ≡ v
  held_one k u v e =
      let in-u = stripe_in w (power w k) (u % w) (mod-lt u wide) in
      let in-v = stripe_in w (power w k) (v % w) (mod-lt v wide) in
      let row : u / w ≡ v / w =
      sym (row_of (u / w) w (turned k (u % w)) in-u) ∙ ap (λ (x : ℕ). x / w) e ∙ row_of (v / w) w (turned k (v % w)) in-v in
      let column : turned k (u % w) ≡ turned k (v % w) =
      sym (column_of (u / w) w (turned k (u % w)) in-u) ∙ ap (λ (x : ℕ). x % w) e ∙ column_of (v / w) w (turned k (v % w)) in-v in
      let same = turned_one k (u % w) (v % w) (mod-lt u wide) (mod-lt v wide) column in
      sym (div-add-mod' u w) ∙ ap₂ (λ (x y : ℕ). x * w + y) row same ∙ div-add-mod' v w

  pub held_step : (k by bx y : ℕ) → bx < b → y < 8 → held (suc k) (by * w + (y * b + bx)) ≡ held k (by * w + (8 * bx + y))
  held_step k by bx y l m =
      let c : y * b + bx < w = omega (arith, row_end y 8 b m) in
      let d : 8 * bx + y < w = omega arith in
      rw (row_of by w (y * b + bx) c, column_of by w (y * b + bx) c, row_of by w (8 * bx + y) d, column_of by w (8 * bx + y) d)
      (ap (λ (x : ℕ). by * w + x) (turned_step k bx y l m))
