-- The product of two f32 is exact in binary64, so the f64 product and then the f64 sum are the fused one. Assumes nothing.
use Rattle.std.proofs.Common.{◌≡◌, ℕ, ◌+◌, ◌-◌, ◌*◌, ◌%◌, ◌^◌, ◌<◌, ◌≤◌, Bool, true, false, T, eqb, leb, sym, refl, ap, ◌∙◌, subst, ap₂, lt_of_lt_of_le, lt_of_le_of_lt, le_of_lt, mul_assoc, mul_comm, mul-le-mul_left, mul-lt-mul_of_pos_right, mul-pos, mul_left_comm, arith, lit<, pow_pos, pow_mono, pow-add, shl_lt, eqb-true}
use native.Mathlib.Nat.{eq_of_mul-eq-mul_right}
use borrow.Author.Tests.{eqb-false}
use lib.Ieee.{Float, Format, nan, inf, fin, binary32, binary64, unlike, up, down, round, sum, add, mul, fits, to_bits}
use lib.Ieee.Fits.{down_pos}
use lib.Ieee.Exact.{HasValue, round_exact}
use lib.Ieee.Scale.{round_same, finite}
use Rattle.float.specs.Ops.{product, fused_at}
use Rattle.float.proofs.Fields.{exponent, value_low, value_high, exponent_le}
use Rattle.float.proofs.SumCases.{sum_same}
use Rattle.float.proofs.Values.{product_value}

-- ---- a finite f32 as m * 2 ^ x of the smallest values
pub record Parts (v : Float) : Type 0 where
  pub s : Bool
  pub m : ℕ
  pub x : ℕ
  pub m_lt : m < 2 ^ 24
  pub x_le : x ≤ 253
  pub value : HasValue v s (m * 2 ^ x) (2 ^ 149)

pub parts : (v : Float) → T (fits binary32 v) → T (finite v) → Parts v
parts v h f = go (eqb (exponent n) 0) refl
  where
    n : ℕ
    n = to_bits binary32 v

    go : (b : Bool) → eqb (exponent n) 0 ≡ b → Parts v
    go true e = record { s = leb 2147483648 n; m = n % 8388608; x = 0; m_lt = omega arith; x_le = omega arith; value = value_low v h (eqb-true (exponent n) 0 e) }
    go false e = record { s = leb 2147483648 n; m = 8388608 + n % 8388608; x = exponent n - 1; m_lt = omega arith; x_le = exponent_le v h f; value = value_high v h f (eqb-false (exponent n) 0 e) }

-- ---- the product
shuffle : (m ue n ud c c' : ℕ) → m * ue * (n * ud) * (c * c') ≡ m * ue * c * (n * ud * c')
shuffle m ue n ud c c' = simp (mul_assoc, mul_comm, mul_left_comm)

shuffle' : (a de b dd : ℕ) → a * de * (b * dd) ≡ a * b * (de * dd)
shuffle' a de b dd = simp (mul_assoc, mul_comm, mul_left_comm)

pub mul_value : (f : Format) (x y : Float) (s t : Bool) (a b c c' : ℕ) → 0 < c → 0 < c' → HasValue x s a c → HasValue y t b c' → mul f x y ≡ round f (unlike s t) (a * b) (c * c')
unfolding mul
mul_value f nan y s t a b c c' C C' p q = absurd p
mul_value f (inf u) y s t a b c c' C C' p q = absurd p
mul_value f (fin u m e) nan s t a b c c' C C' p q = absurd q
mul_value f (fin u m e) (inf v) s t a b c c' C C' p q = absurd q
mul_value f (fin u m e) (fin v n d) s t a b c c' C C' p q =
    ap₂ (λ (i j : Bool). round f (unlike i j) (m * up e * (n * up d)) (down e * down d)) p.0 q.0
    ∙ round_same f (unlike s t) (m * up e * (n * up d)) (down e * down d) (a * b) (c * c') (mul-pos (down_pos e) (down_pos d)) (mul-pos C C')
    (shuffle m (up e) n (up d) c c' ∙ ap₂ (λ (i j : ℕ). i * j) p.1 q.1 ∙ shuffle' a (down e) b (down d))

exact : (m n x y : ℕ) → m * 2 ^ x * (n * 2 ^ y) * 2 ^ 1074 ≡ m * n * 2 ^ (x + y + 776) * (2 ^ 149 * 2 ^ 149)
exact m n x y =
    turn m (2 ^ x) n (2 ^ y) (2 ^ 776) (2 ^ 149 * 2 ^ 149)
    ∙ ap (λ (z : ℕ). m * n * z * (2 ^ 149 * 2 ^ 149)) (ap (λ (z : ℕ). z * 2 ^ 776) (sym (pow-add 2 x y)) ∙ sym (pow-add 2 (x + y) 776))
  where
    turn : (m u n v a b : ℕ) → m * u * (n * v) * (a * b) ≡ m * n * (u * v * a) * b
    turn m u n v a b = simp (mul_assoc, mul_comm, mul_left_comm)

product_lt : (m n : ℕ) → m < 2 ^ 24 → n < 2 ^ 24 → m * n < 2 ^ 48
product_lt m n p q = lt_of_le_of_lt (mul-le-mul_left m (le_of_lt q)) (mul-lt-mul_of_pos_right p (lit< tt))

pub product_exact : (a b : Float) (p : Parts a) (q : Parts b) → HasValue (mul binary64 a b) (unlike p.s q.s) (p.m * 2 ^ p.x * (q.m * 2 ^ q.x)) (2 ^ 149 * 2 ^ 149)
product_exact a b p q =
    let j = p.x + q.x + 776 in
    let l = product_lt p.m q.m p.m_lt q.m_lt in
    let J : 48 + j ≤ 2098 = room p.x q.x p.x_le q.x_le in
    subst (λ (z : Float). HasValue z (unlike p.s q.s) (p.m * 2 ^ p.x * (q.m * 2 ^ q.x)) (2 ^ 149 * 2 ^ 149))
    (sym (mul_value binary64 a b p.s q.s (p.m * 2 ^ p.x) (q.m * 2 ^ q.x) (2 ^ 149) (2 ^ 149) (pow_pos 149) (pow_pos 149) p.value q.value))
    (round_exact binary64 (unlike p.s q.s) (p.m * 2 ^ p.x * (q.m * 2 ^ q.x)) (2 ^ 149 * 2 ^ 149) (p.m * q.m) j (mul-pos (pow_pos 149) (pow_pos 149)) (lt_of_lt_of_le l (pow_mono (lit≤')))
    (lt_of_lt_of_le (shl_lt 48 j l) (pow_mono J)) (exact p.m q.m p.x q.x))
  where
    room : (x y : ℕ) → x ≤ 253 → y ≤ 253 → 48 + (x + y + 776) ≤ 2098
    room x y a b = omega arith

    lit≤' : 48 ≤ 53
    lit≤' = omega arith

-- ---- `add` sees only the value of a finite argument
cross : (x x' de de' dd C A : ℕ) → 0 < C → x * C ≡ A * de → x' * C ≡ A * de' → x * dd * (de' * dd) ≡ x' * dd * (de * dd)
cross x x' de de' dd C A P e f =
    eq_of_mul-eq-mul_right C P (x * dd * (de' * dd)) (x' * dd * (de * dd))
    (turn x dd de' C ∙ ap (λ (z : ℕ). z * (dd * (de' * dd))) e ∙ swap A de de' dd ∙ ap (λ (z : ℕ). z * (dd * (de * dd))) (sym f) ∙ sym (turn x' dd de C))
  where
    turn : (x dd de C : ℕ) → x * dd * (de * dd) * C ≡ x * C * (dd * (de * dd))
    turn x dd de C = simp (mul_assoc, mul_comm, mul_left_comm)

    swap : (A de de' dd : ℕ) → A * de * (dd * (de' * dd)) ≡ A * de' * (dd * (de * dd))
    swap A de de' dd = simp (mul_assoc, mul_comm, mul_left_comm)

pub add_same : (f : Format) (x x' y : Float) (s : Bool) (A C : ℕ) → 0 < C → HasValue x s A C → HasValue x' s A C → add f x y ≡ add f x' y
unfolding add
add_same f nan x' y s A C P h k = absurd h
add_same f (inf u) x' y s A C P h k = absurd h
add_same f (fin u m e) nan y s A C P h k = absurd k
add_same f (fin u m e) (inf u') y s A C P h k = absurd k
add_same f (fin u m e) (fin u' m' e') nan s A C P h k = refl
add_same f (fin u m e) (fin u' m' e') (inf t) s A C P h k = refl
add_same f (fin u m e) (fin u' m' e') (fin t n d) s A C P h k =
    ap (λ (z : Bool). sum f z (m * up e * down d) t (n * up d * down e) (down e * down d)) (h.0 ∙ sym k.0)
    ∙ sum_same f u' t (m * up e * down d) (n * up d * down e) (down e * down d) (m' * up e' * down d) (n * up d * down e') (down e' * down d)
    (mul-pos (down_pos e) (down_pos d)) (mul-pos (down_pos e') (down_pos d))
    (cross (m * up e) (m' * up e') (down e) (down e') (down d) C A P h.1 k.1) (turn (n * up d) (down e) (down e') (down d))
  where
    turn : (x a b c : ℕ) → x * a * (b * c) ≡ x * b * (a * c)
    turn x a b c = simp (mul_assoc, mul_comm, mul_left_comm)

-- ---- the product of two f32 may be taken in f64: at every f32, NaN and infinities too
pub fused_by_product : (a b t : Float) → T (fits binary32 a) → T (fits binary32 b) → add binary64 (mul binary64 a b) t ≡ fused_at binary64 a b t
unfolding mul product fused_at
fused_by_product nan b t A B = refl
fused_by_product (inf s) nan t A B = refl
fused_by_product (inf s) (inf u) t A B = refl
fused_by_product (inf s) (fin u n d) t A B = refl
fused_by_product (fin s m e) nan t A B = refl
fused_by_product (fin s m e) (inf u) t A B = refl
fused_by_product (fin s m e) (fin u n d) t A B =
    let p = parts (fin s m e) A tt in
    let q = parts (fin u n d) B tt in
    add_same binary64 (mul binary64 (fin s m e) (fin u n d)) (product (fin s m e) (fin u n d)) t (unlike p.s q.s) (p.m * 2 ^ p.x * (q.m * 2 ^ q.x)) (2 ^ 149 * 2 ^ 149)
    (mul-pos (pow_pos 149) (pow_pos 149)) (product_exact (fin s m e) (fin u n d) p q)
    (product_value (fin s m e) (fin u n d) p.s q.s (p.m * 2 ^ p.x) (q.m * 2 ^ q.x) (2 ^ 149) (2 ^ 149) p.value q.value)
