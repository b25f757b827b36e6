-- A number rounded twice: to a multiple of U, and that to a multiple of U * 2 * h. Where the first result is no tie of the second rounding,
-- the second result is that of one rounding. Then `round binary64` and `round binary32`. Assumes nothing.
use mathlib.Core.Path.{◌≡◌, refl, sym, ap, ◌∙◌, subst}
use mathlib.Core.Logic.{◌⊎◌, inl, inr}
use Prim.Native.Nat.{ℕ, zero, suc, ◌+◌, ◌-◌, ◌*◌, ◌/◌, ◌%◌, ◌≤◌, ◌<◌, compare, Ordering}
use native.Mathlib.Nat.{le_trans, le_of_eq, le_of_lt, mul_assoc, mul_comm, mul_left_comm, mul-pos, suc-mul, add-mul, add-zero, mul-le-mul_right, mod-lt, zero-lt-suc, div-add-mod'}
use native.Mathlib.Numerals.{add-one}
use native.Mathlib.Omega.{arith}
use mathlib.Core.Bool.{Bool, true, false, not}
use lib.Dec.{T, ltb, ltb→lt, nltb→le}
use lib.Arith.{digits_div}
use lib.Ieee.{nearest}
use lib.Ieee.Nearest.{closest}
use Rattle.float.proofs.Closest.{Cmp, cmp, closest_down, compare-gt}

pub lt-or-ge : (a b : ℕ) → (a < b) ⊎ (b ≤ a)
lt-or-ge a b = go (ltb a b) (ltb→lt a b) (nltb→le a b)
  where
    go : (t : Bool) → (T t → a < b) → (T (not t) → b ≤ a) → (a < b) ⊎ (b ≤ a)
    go true x y = inl (x tt)
    go false x y = inr (y tt)

-- ---- rounding up, for u = 2 * h
closest_up : (m u h : ℕ) → u ≡ 2 * h → h < m % u → closest m u ≡ m / u + 1
closest_up m u h e l = ap (nearest (m / u)) (compare-gt (m % u * 2) u (omega arith)) ∙ sym (add-one (m / u))

-- ---- the closest number is within half a unit
abbrev Within : ℕ → ℕ → ℕ → Type 0
Within A X U = (2 * A ≤ 2 * X + U) × (2 * X ≤ 2 * A + U)

stay : (A X r U : ℕ) → X + r ≡ A → r * 2 ≤ U → Within A X U
stay A X r U e h = (omega arith, omega arith)

rise : (A X Y r U : ℕ) → X + r ≡ A → U ≤ r * 2 → r < U → Y ≡ X + U → Within A Y U
rise A X Y r U e h l y = (omega arith, omega arith)

pub within : (A U : ℕ) → 0 < U → Within A (closest A U * U) U
within A U P = go (compare (A % U * 2) U) (cmp (A % U * 2) U) (A / U % 2) (mod-lt (A / U) (zero-lt-suc 1)) refl
  where
    go : (o : Ordering) → Cmp o (A % U * 2) U → (b : ℕ) → b < 2 → A / U % 2 ≡ b → Within A (nearest (A / U) o * U) U
    go Ordering.lt x b l p = stay A (A / U * U) (A % U) U (div-add-mod' A U) (le_of_lt x)
    go Ordering.gt x b l p = rise A (A / U * U) (suc (A / U) * U) (A % U) U (div-add-mod' A U) (le_of_lt x) (mod-lt A P) (suc-mul (A / U) U)
    go Ordering.eq x zero l p =
        subst (λ (z : ℕ). Within A (z * U) U) (sym (ap (λ (z : ℕ). A / U + z) p ∙ add-zero (A / U)))
        (stay A (A / U * U) (A % U) U (div-add-mod' A U) (le_of_eq x))
    go Ordering.eq x (suc zero) l p =
        subst (λ (z : ℕ). Within A (z * U) U) (sym (ap (λ (z : ℕ). A / U + z) p ∙ add-one (A / U)))
        (rise A (A / U * U) (suc (A / U) * U) (A % U) U (div-add-mod' A U) (le_of_eq (sym x)) (mod-lt A P) (suc-mul (A / U) U))
    go Ordering.eq x (suc (suc b)) l p = omega arith

-- ---- and no other number is
apart : (A X Y U : ℕ) → X + U ≤ Y → 2 * A ≤ 2 * X + U → 2 * Y < 2 * A + U → ⊥
apart A X Y U a b c = omega arith

apart' : (A X Y U : ℕ) → Y + U ≤ X → 2 * X ≤ 2 * A + U → 2 * A < 2 * Y + U → ⊥
apart' A X Y U a b c = omega arith

step : (z w U : ℕ) → z < w → z * U + U ≤ w * U
step z w U h = le_trans (le_of_eq (sym (suc-mul z U))) (mul-le-mul_right U h)

neither : (z w : ℕ) → (z < w → ⊥) → (w < z → ⊥) → z ≡ w
neither z w a b = go (lt-or-ge z w) (lt-or-ge w z)
  where
    go : (z < w) ⊎ (w ≤ z) → (w < z) ⊎ (z ≤ w) → z ≡ w
    go (inl x) y = absurd (a x)
    go (inr x) (inl y) = absurd (b y)
    go (inr x) (inr y) = omega arith

pub closest_only : (A U w : ℕ) → 0 < U → 2 * A < 2 * (w * U) + U → 2 * (w * U) < 2 * A + U → closest A U ≡ w
closest_only A U w P hi lo =
    let z = closest A U in
    let b = within A U P in
    neither z w (λ (l : z < w). apart A (z * U) (w * U) U (step z w U l) b.0 lo) (λ (l : w < z). apart' A (z * U) (w * U) U (step w z U l) b.1 hi)

-- ---- twice
-- X is the multiple of 2 * H below the first result X + R
down_fit : (A X R H U : ℕ) → 0 < U → 2 * A ≤ 2 * (X + R) + U → 2 * (X + R) ≤ 2 * A + U → R + U ≤ H → (2 * A < 2 * X + 2 * H) × (2 * X < 2 * A + 2 * H)
down_fit A X R H U P a b c = (omega arith, omega arith)

up_fit : (A X Y R H U : ℕ) → 0 < U → 2 * A ≤ 2 * (X + R) + U → 2 * (X + R) ≤ 2 * A + U → H + U ≤ R → R + U ≤ 2 * H → Y ≡ X + 2 * H → (2 * A < 2 * Y + 2 * H) × (2 * Y < 2 * A + 2 * H)
up_fit A X Y R H U P a b c d e = (omega arith, omega arith)

pub closest_twice : (A U h : ℕ) → 0 < U → 0 < h → (closest A U % (2 * h) ≡ h → ⊥) → closest A (U * (2 * h)) ≡ closest (closest A U) (2 * h)
closest_twice A U h P Q n = go (lt-or-ge r h) (lt-or-ge h r)
  where
    q : ℕ
    q = closest A U

    two : 0 < 2 * h
    two = omega arith

    W : ℕ
    W = U * (2 * h)

    w : ℕ
    w = q / (2 * h)

    r : ℕ
    r = q % (2 * h)

    r_lt : r < 2 * h
    r_lt = mod-lt q two

    H : ℕ
    H = h * U

    W-is : W ≡ 2 * H
    W-is = simp (mul_comm, mul_left_comm)

    W-pos : 0 < W
    W-pos = mul-pos P two

    -- the first result
    parts : q * U ≡ w * W + r * U
    parts = ap (λ (z : ℕ). z * U) (sym (div-add-mod' q (2 * h))) ∙ add-mul (w * (2 * h)) r U ∙ ap (λ (z : ℕ). z + r * U) (mul_assoc w (2 * h) U ∙ ap (λ (z : ℕ). w * z) (mul_comm (2 * h) U))

    hi : 2 * A ≤ 2 * (w * W + r * U) + U
    hi = subst (λ (z : ℕ). 2 * A ≤ 2 * z + U) parts (within A U P).0

    lo : 2 * (w * W + r * U) ≤ 2 * A + U
    lo = subst (λ (z : ℕ). 2 * z ≤ 2 * A + U) parts (within A U P).1

    go : (r < h) ⊎ (h ≤ r) → (h < r) ⊎ (r ≤ h) → closest A W ≡ closest q (2 * h)
    go (inl l) x =
        let f = down_fit A (w * W) (r * U) H U P hi lo (step r h U l) in
        closest_only A W w W-pos (subst (λ (z : ℕ). 2 * A < 2 * (w * W) + z) (sym W-is) f.0) (subst (λ (z : ℕ). 2 * (w * W) < 2 * A + z) (sym W-is) f.1)
        ∙ sym (closest_down q (2 * h) h refl l)
    go (inr l) (inl g) =
        let top : r * U + U ≤ 2 * H = le_trans (step r (2 * h) U r_lt) (le_of_eq (mul_assoc 2 h U)) in
        let f = up_fit A (w * W) (suc w * W) (r * U) H U P hi lo (step h r U g) top (suc-mul w W ∙ ap (λ (z : ℕ). w * W + z) W-is) in
        closest_only A W (suc w) W-pos (subst (λ (z : ℕ). 2 * A < 2 * (suc w * W) + z) (sym W-is) f.0) (subst (λ (z : ℕ). 2 * (suc w * W) < 2 * A + z) (sym W-is) f.1)
        ∙ sym (closest_up q (2 * h) h refl g ∙ add-one w)
    go (inr l) (inr g) = absurd (n (neither r h (λ (z : r < h). clash r h z l) (λ (z : h < r). clash h r z g)))
      where
        clash : (a b : ℕ) → a < b → b ≤ a → ⊥
        clash a b x y = omega arith

-- without a tie, the closest is found by adding half
pub closest_half_up : (q h : ℕ) → 0 < h → (q % (2 * h) ≡ h → ⊥) → (q + h) / (2 * h) ≡ closest q (2 * h)
closest_half_up q h P n = go (lt-or-ge r h)
  where
    two : 0 < 2 * h
    two = omega arith

    w : ℕ
    w = q / (2 * h)

    r : ℕ
    r = q % (2 * h)

    r_lt : r < 2 * h
    r_lt = mod-lt q two

    parts : w * (2 * h) + r ≡ q
    parts = div-add-mod' q (2 * h)

    go : (r < h) ⊎ (h ≤ r) → (q + h) / (2 * h) ≡ closest q (2 * h)
    go (inl l) =
        ap (λ (z : ℕ). z / (2 * h)) (low (w * (2 * h)) r q h parts) ∙ digits_div w (fits r h l) ∙ sym (closest_down q (2 * h) h refl l)
      where
        low : (x r q h : ℕ) → x + r ≡ q → q + h ≡ x + (r + h)
        low x r q h e = omega arith

        fits : (r h : ℕ) → r < h → r + h < 2 * h
        fits r h l = omega arith
    go (inr l) =
        let g : h < r = strict r h l n in
        ap (λ (z : ℕ). z / (2 * h)) (high (w * (2 * h)) (suc w * (2 * h)) r q h parts l (suc-mul w (2 * h))) ∙ digits_div (suc w) (fits r h l r_lt)
        ∙ sym (closest_up q (2 * h) h refl g ∙ add-one w)
      where
        strict : (r h : ℕ) → h ≤ r → (r ≡ h → ⊥) → h < r
        strict r h a b = omega arith

        high : (x y r q h : ℕ) → x + r ≡ q → h ≤ r → y ≡ x + 2 * h → q + h ≡ y + (r - h)
        high x y r q h e l f = omega arith

        fits : (r h : ℕ) → h ≤ r → r < 2 * h → r - h < 2 * h
        fits r h a b = omega arith
