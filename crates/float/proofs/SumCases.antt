-- The sum of two values in any format, by their signs and the fractions that they equal. Assumes nothing.
use Rattle.std.proofs.Common.{◌≡◌, ℕ, ◌+◌, ◌-◌, ◌*◌, ◌<◌, ◌≤◌, Bool, true, false, cond, ◌&&◌, ltb, sym, refl, ap, ◌∙◌, subst, ap₂, le_of_eq, lt_of_lt_of_le, lt_of_le_of_lt, le_of_lt, mul_assoc, mul_comm, add-mul, le_antisymm, lt_of_mul-lt-mul_right, mul-lt-mul_of_pos_right, mul-pos, zero-mul, mul_right_comm, arith, ltb-false, ltb-true, le-ltb, lt-ltb}
use native.Mathlib.Nat.{eq_of_mul-eq-mul_right, mul-sub}
use mathlib.Core.Bool.{beq}
use lib.Ieee.{Float, Format, nan, inf, fin, up, down, round, sum, add}
use lib.Ieee.Fits.{down_pos}
use lib.Ieee.Exact.{HasValue}
use lib.Ieee.Scale.{round_same}

-- ---- `sum`, by its cases
pub sum_like : (f : Format) (s : Bool) (a b c : ℕ) (t : Bool) → s ≡ t → sum f s a t b c ≡ round f s (a + b) c
unfolding sum
sum_like f s a b c t e = subst (λ (u : Bool). sum f s a u b c ≡ round f s (a + b) c) e (go s)
  where
    go : (s : Bool) → sum f s a s b c ≡ round f s (a + b) c
    go true = refl
    go false = refl

pub beq_eq : (s t : Bool) → beq s t ≡ true → s ≡ t
beq_eq true true e = refl
beq_eq true false e = sym e
beq_eq false true e = e
beq_eq false false e = refl

-- unlike signs
module _ (f : Format) (s t : Bool) (a b c : ℕ) (e : beq s t ≡ false) where
  inner : sum f s a t b c ≡ cond (ltb a b) (round f t (b - a) c) (round f (s && ltb b a) (a - b) c)
  unfolding sum
  inner = ap (λ (x : Bool). cond x (round f s (a + b) c) (cond (ltb a b) (round f t (b - a) c) (round f (s && ltb b a) (a - b) c))) e

  pub sum_less : a < b → sum f s a t b c ≡ round f t (b - a) c
  sum_less h = inner ∙ ap (λ (x : Bool). cond x (round f t (b - a) c) (round f (s && ltb b a) (a - b) c)) (lt-ltb a b h)

  pub sum_more : b < a → sum f s a t b c ≡ round f s (a - b) c
  sum_more h =
      inner ∙ ap (λ (x : Bool). cond x (round f t (b - a) c) (round f (s && ltb b a) (a - b) c)) (le-ltb a b (le_of_lt h))
      ∙ ap (λ (x : Bool). round f (s && x) (a - b) c) (lt-ltb b a h) ∙ ap (λ (x : Bool). round f x (a - b) c) (and-true s)
    where
      and-true : (s : Bool) → (s && true) ≡ s
      and-true true = refl
      and-true false = refl

  pub sum_even : a ≡ b → sum f s a t b c ≡ round f false 0 c
  sum_even h =
      let l : b ≤ a = le_of_eq (sym h) in
      let g : a ≤ b = le_of_eq h in
      let z : a - b ≡ 0 = omega arith in
      inner ∙ ap (λ (x : Bool). cond x (round f t (b - a) c) (round f (s && ltb b a) (a - b) c)) (le-ltb a b l)
      ∙ ap (λ (x : Bool). round f (s && x) (a - b) c) (le-ltb b a g) ∙ ap (λ (x : Bool). round f x (a - b) c) (and-false s)
      ∙ ap (λ (x : ℕ). round f false x c) z
    where
      and-false : (s : Bool) → (s && false) ≡ false
      and-false true = refl
      and-false false = refl

pub sub-mul : (a b c : ℕ) → (a - b) * c ≡ a * c - b * c
sub-mul a b c = mul_comm (a - b) c ∙ mul-sub c a b ∙ ap (λ (z : ℕ). z - c * b) (mul_comm c a) ∙ ap (λ (z : ℕ). a * c - z) (mul_comm c b)

-- ---- `sum` sees only the values of its fractions
module _ (f : Format) (s t : Bool) (a b c a' b' c' : ℕ) (C : 0 < c) (C' : 0 < c') (ea : a * c' ≡ a' * c) (eb : b * c' ≡ b' * c) where
  less : a < b → a' < b'
  less h = lt_of_mul-lt-mul_right c (lt_of_le_of_lt (le_of_eq (sym ea)) (lt_of_lt_of_le (mul-lt-mul_of_pos_right h C') (le_of_eq eb)))

  more : b < a → b' < a'
  more h = lt_of_mul-lt-mul_right c (lt_of_le_of_lt (le_of_eq (sym eb)) (lt_of_lt_of_le (mul-lt-mul_of_pos_right h C') (le_of_eq ea)))

  even : a ≡ b → a' ≡ b'
  even h = eq_of_mul-eq-mul_right c C a' b' (sym ea ∙ ap (λ (z : ℕ). z * c') h ∙ eb)

  pub sum_same : sum f s a t b c ≡ sum f s a' t b' c'
  sum_same = go (beq s t) refl
    where
      order : beq s t ≡ false → (u v : Bool) → ltb a b ≡ u → ltb b a ≡ v → sum f s a t b c ≡ sum f s a' t b' c'
      order e true v p q =
          let h = ltb-true a b p in
          sum_less f s t a b c e h
          ∙ round_same f t (b - a) c (b' - a') c' C C' (sub-mul b a c' ∙ ap₂ (λ (x y : ℕ). x - y) eb ea ∙ sym (sub-mul b' a' c))
          ∙ sym (sum_less f s t a' b' c' e (less h))
      order e false true p q =
          let h = ltb-true b a q in
          sum_more f s t a b c e h
          ∙ round_same f s (a - b) c (a' - b') c' C C' (sub-mul a b c' ∙ ap₂ (λ (x y : ℕ). x - y) ea eb ∙ sym (sub-mul a' b' c))
          ∙ sym (sum_more f s t a' b' c' e (more h))
      order e false false p q =
          let h : a ≡ b = le_antisymm (ltb-false b a q) (ltb-false a b p) in
          sum_even f s t a b c e h ∙ round_same f false 0 c 0 c' C C' (zero-mul c' ∙ sym (zero-mul c)) ∙ sym (sum_even f s t a' b' c' e (even h))

      go : (x : Bool) → beq s t ≡ x → sum f s a t b c ≡ sum f s a' t b' c'
      go true e =
          let l = beq_eq s t e in
          sum_like f s a b c t l
          ∙ round_same f s (a + b) c (a' + b') c' C C' (add-mul a b c' ∙ ap₂ (λ (x y : ℕ). x + y) ea eb ∙ sym (add-mul a' b' c))
          ∙ sym (sum_like f s a' b' c' t l)
      go false e = order e (ltb a b) (ltb b a) refl refl

-- ---- the sum of two finite values
pub add_value : (f : Format) (x y : Float) (s t : Bool) (a b c : ℕ) → 0 < c → HasValue x s a c → HasValue y t b c → add f x y ≡ sum f s a t b c
unfolding add
add_value f nan y s t a b c C p q = absurd p
add_value f (inf u) y s t a b c C p q = absurd p
add_value f (fin u m e) nan s t a b c C p q = absurd q
add_value f (fin u m e) (inf v) s t a b c C p q = absurd q
add_value f (fin u m e) (fin v n d) s t a b c C p q =
    ap₂ (λ (i j : Bool). sum f i (m * up e * down d) j (n * up d * down e) (down e * down d)) p.0 q.0
    ∙ sum_same f s t (m * up e * down d) (n * up d * down e) (down e * down d) a b c (mul-pos (down_pos e) (down_pos d)) C
    (mul_right_comm (m * up e) (down d) c ∙ ap (λ (z : ℕ). z * down d) p.1 ∙ mul_assoc a (down e) (down d))
    (mul_right_comm (n * up d) (down e) c ∙ ap (λ (z : ℕ). z * down e) q.1 ∙ mul_assoc b (down d) (down e) ∙ ap (λ (z : ℕ). b * z) (mul_comm (down d) (down e)))
