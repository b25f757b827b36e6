-- The product of two f32 is exact in binary64, and so the f64 sum a * b + c is the exact one, rounded to binary64. Assumes nothing.
use mathlib.Core.Path.{◌≡◌, refl, sym, ap, ap₂, ◌∙◌, subst}
use Prim.Native.Nat.{ℕ, ◌+◌, ◌-◌, ◌*◌, ◌^◌, ◌≤◌, ◌<◌}
use native.Mathlib.Nat.{lt_of_lt_of_le, mul_assoc, mul-one, mul-pos}
use native.Mathlib.Omega.{arith}
use mathlib.Core.Bool.{Bool, true, false, ◌&&◌, cond, beq}
use lib.Dec.{T, ltb, eqb, lit<}
use lib.Pow.{pow-add, pow_pos, pow_mono, shl_lt}
use lib.Ieee.{Float, nan, inf, fin, Format, binary32, binary64, unlike, up, down, round, sum, add, mul, fits, to_bits, of_bits, is_nan}
use lib.Ieee.Fits.{down_pos}
use lib.Ieee.Exact.{HasValue, round_exact}
use lib.Ieee.Scale.{finite}
use Rattle.float.specs.Ops.{product, fused, half, midpoint}
use Rattle.wide.specs.Wide.{Clear}
use Rattle.float.proofs.SumCases.{add_value}
use Rattle.float.proofs.Values.{product_value, half_value, rescale}
use Rattle.float.proofs.Wider.{Parts, parts, mul_value, product_exact}

-- so `fused` may take the f64 product
pub fused_wide : (a b c : Float) → Parts a → Parts b → Parts c → fused a b c ≡ add binary32 (mul binary64 a b) c
unfolding fused
fused_wide a b c p q r =
    let A = p.m * 2 ^ p.x * (q.m * 2 ^ q.x) in
    let s = unlike p.s q.s in
    let C = 2 ^ 149 * 2 ^ 149 in
    let P : 0 < C = mul-pos (pow_pos 149) (pow_pos 149) in
    let w = rescale c r.s (r.m * 2 ^ r.x) (2 ^ 149) (2 ^ 149) r.value in
    add_value binary32 (product a b) c s r.s A (r.m * 2 ^ r.x * 2 ^ 149) C P (product_value a b p.s q.s (p.m * 2 ^ p.x) (q.m * 2 ^ q.x) (2 ^ 149) (2 ^ 149) p.value q.value) w
    ∙ sym (add_value binary32 (mul binary64 a b) c s r.s A (r.m * 2 ^ r.x * 2 ^ 149) C P (product_exact a b p q) w)

-- ---- a sum of finite values is one number, rounded to whichever format
pub record Rounded (x y : Float) : Type 0 where
  pub s : Bool
  pub num : ℕ
  pub den : ℕ
  pub pos : 0 < den
  pub is : (f : Format) → add f x y ≡ round f s num den

pub rounded : (x y : Float) → T (finite x) → T (finite y) → Rounded x y
unfolding add sum
rounded nan y h k = absurd h
rounded (inf s) y h k = absurd h
rounded (fin s m e) nan h k = absurd k
rounded (fin s m e) (inf t) h k = absurd k
rounded (fin s m e) (fin t n d) h k = go (beq s t) (ltb a b) refl refl
  where
    a : ℕ
    a = m * up e * down d

    b : ℕ
    b = n * up d * down e

    c : ℕ
    c = down e * down d

    C : 0 < c
    C = mul-pos (down_pos e) (down_pos d)

    go : (i j : Bool) → beq s t ≡ i → ltb a b ≡ j → Rounded (fin s m e) (fin t n d)
    go true j p q = record { s = s; num = a + b; den = c; pos = C; is = λ (f : Format). ap (λ (z : Bool). cond z (round f s (a + b) c) (cond (ltb a b) (round f t (b - a) c) (round f (s && ltb b a) (a - b) c))) p }
    go false true p q =
        record {
          s = t;
          num = b - a;
          den = c;
          pos = C;
          is = λ (f : Format). ap₂ (λ (z w : Bool). cond z (round f s (a + b) c) (cond w (round f t (b - a) c) (round f (s && ltb b a) (a - b) c))) p q;
        }
    go false false p q =
        record {
          s = s && ltb b a;
          num = a - b;
          den = c;
          pos = C;
          is = λ (f : Format). ap₂ (λ (z w : Bool). cond z (round f s (a + b) c) (cond w (round f t (b - a) c) (round f (s && ltb b a) (a - b) c))) p q;
        }

-- ---- what a finite sum tells
pub finite_add : (f : Format) (x y : Float) → T (finite (add f x y)) → T (finite x) × T (finite y)
unfolding add
finite_add f nan y h = absurd h
finite_add f (inf s) nan h = absurd h
finite_add f (inf true) (inf true) h = absurd h
finite_add f (inf true) (inf false) h = absurd h
finite_add f (inf false) (inf true) h = absurd h
finite_add f (inf false) (inf false) h = absurd h
finite_add f (inf s) (fin t n d) h = absurd h
finite_add f (fin s m e) nan h = absurd h
finite_add f (fin s m e) (inf t) h = absurd h
finite_add f (fin s m e) (fin t n d) h = (tt, tt)

not_finite : (b s : Bool) → T (finite (cond b nan (inf s))) → ⊥
not_finite true s h = h
not_finite false s h = h

pub finite_mul : (f : Format) (x y : Float) → T (finite (mul f x y)) → T (finite x) × T (finite y)
unfolding mul
finite_mul f nan y h = absurd h
finite_mul f (inf s) nan h = absurd h
finite_mul f (inf s) (inf t) h = absurd h
finite_mul f (inf s) (fin t n d) h = absurd (not_finite (eqb n 0) (unlike s t) h)
finite_mul f (fin s m e) nan h = absurd h
finite_mul f (fin s m e) (inf t) h = absurd (not_finite (eqb m 0) (unlike s t) h)
finite_mul f (fin s m e) (fin t n d) h = (tt, tt)

pub clear_finite : (x : Float) → Clear x → T (finite x)
unfolding is_nan to_bits
clear_finite nan c = absurd c.number
clear_finite (inf true) c = absurd (over c.hi)
  where
    over : 9218868437227405312 < 5179139571476070400 → ⊥
    over h = omega arith
clear_finite (inf false) c = absurd (over c.hi)
  where
    over : 9218868437227405312 < 5179139571476070400 → ⊥
    over h = omega arith
clear_finite (fin s m e) c = tt

-- ---- all together: the sum in f64 is clear, and what narrows it finds `fused`
pub narrowed : (a b c : Float) (r : Float) → T (fits binary32 a) → T (fits binary32 b) → T (fits binary32 c) → Clear (add binary64 (mul binary64 a b) c)
    → ((s : Bool) (n d : ℕ) → 0 < d → add binary64 (mul binary64 a b) c ≡ round binary64 s n d → r ≡ round binary32 s n d) → r ≡ fused a b c
narrowed a b c r A B C k h =
    let f = finite_add binary64 (mul binary64 a b) c (clear_finite (add binary64 (mul binary64 a b) c) k) in
    let g = finite_mul binary64 a b f.0 in
    let w = rounded (mul binary64 a b) c f.0 f.1 in
    h w.s w.num w.den w.pos (w.is binary64)
    ∙ sym (fused_wide a b c (parts a A g.0) (parts b B g.1) (parts c C f.1) ∙ w.is binary32)

-- ---- half of an f32 is exact in binary64 too
abbrev pub one_half : Float
one_half = of_bits binary64 4602678819172646912

one_half_value : HasValue one_half false 1 2
unfolding of_bits
one_half_value = (refl, refl)

unlike_false : (s : Bool) → unlike s false ≡ s
unlike_false true = refl
unlike_false false = refl

half_power : (m x : ℕ) → m * 2 ^ x * 1 * 2 ^ 1074 ≡ m * 2 ^ (x + 924) * (2 ^ 149 * 2)
half_power m x =
    ap (λ (z : ℕ). z * 2 ^ 1074) (mul-one (m * 2 ^ x))
    ∙ turn m (2 ^ x) (2 ^ 924) (2 ^ 149 * 2)
    ∙ ap (λ (z : ℕ). m * z * (2 ^ 149 * 2)) (sym (pow-add 2 x 924))
  where
    turn : (m u a b : ℕ) → m * u * (a * b) ≡ m * (u * a) * b
    turn m u a b = simp (mul_assoc)

pub half_exact : (a : Float) (p : Parts a) → HasValue (mul binary64 a one_half) p.s (p.m * 2 ^ p.x) (2 ^ 149 * 2)
half_exact a p =
    subst (λ (z : ℕ). HasValue (mul binary64 a one_half) p.s z (2 ^ 149 * 2)) (mul-one (p.m * 2 ^ p.x))
    (subst (λ (z : Bool). HasValue (mul binary64 a one_half) z (p.m * 2 ^ p.x * 1) (2 ^ 149 * 2)) (unlike_false p.s)
    (subst (λ (z : Float). HasValue z (unlike p.s false) (p.m * 2 ^ p.x * 1) (2 ^ 149 * 2))
    (sym (mul_value binary64 a one_half p.s false (p.m * 2 ^ p.x) 1 (2 ^ 149) 2 (pow_pos 149) (lit< tt) p.value one_half_value))
    (round_exact binary64 (unlike p.s false) (p.m * 2 ^ p.x * 1) (2 ^ 149 * 2) p.m (p.x + 924) (mul-pos (pow_pos 149) (pow_pos 1)) (lt_of_lt_of_le p.m_lt (pow_mono digits))
    (lt_of_lt_of_le (shl_lt 24 (p.x + 924) p.m_lt) (pow_mono (room p.x p.x_le))) (half_power p.m p.x))))
  where
    room : (x : ℕ) → x ≤ 253 → 24 + (x + 924) ≤ 2098
    room x a = omega arith

    digits : 24 ≤ 53
    digits = omega arith

pub midpoint_wide : (a b : Float) → Parts a → Parts b → midpoint a b ≡ add binary32 (mul binary64 a one_half) (mul binary64 b one_half)
unfolding midpoint
midpoint_wide a b p q =
    let C = 2 ^ 149 * 2 in
    let P : 0 < C = mul-pos (pow_pos 149) (pow_pos 1) in
    add_value binary32 (half a) (half b) p.s q.s (p.m * 2 ^ p.x) (q.m * 2 ^ q.x) C P (half_value a p.s (p.m * 2 ^ p.x) (2 ^ 149) p.value) (half_value b q.s (q.m * 2 ^ q.x) (2 ^ 149) q.value)
    ∙ sym (add_value binary32 (mul binary64 a one_half) (mul binary64 b one_half) p.s q.s (p.m * 2 ^ p.x) (q.m * 2 ^ q.x) C P (half_exact a p) (half_exact b q))

pub narrowed_half : (a b : Float) (r : Float) → T (fits binary32 a) → T (fits binary32 b) → Clear (add binary64 (mul binary64 a one_half) (mul binary64 b one_half))
    → ((s : Bool) (n d : ℕ) → 0 < d → add binary64 (mul binary64 a one_half) (mul binary64 b one_half) ≡ round binary64 s n d → r ≡ round binary32 s n d) → r ≡ midpoint a b
narrowed_half a b r A B k h =
    let x = mul binary64 a one_half in
    let y = mul binary64 b one_half in
    let f = finite_add binary64 x y (clear_finite (add binary64 x y) k) in
    let w = rounded x y f.0 f.1 in
    h w.s w.num w.den w.pos (w.is binary64)
    ∙ sym (midpoint_wide a b (parts a A (finite_mul binary64 a one_half f.0).0) (parts b B (finite_mul binary64 b one_half f.1).0) ∙ w.is binary32)
