-- The operations give what specs/Results.antt says, over the format. Assumes nothing.
use Rattle.std.proofs.Common.{◌≡◌, ℕ, zero, suc, ◌+◌, ◌-◌, ◌*◌, ◌<◌, Bool, true, false, cond, not, T, eqb, ne_eqb, ltb, ◌≢◌, ℤ, pos, ◌+ℤ◌, ◌*ℤ◌, nat_abs, sym, refl, ap, ◌∙◌, subst, ap₂, inl, inr, le_of_lt, le_antisymm, mul_assoc, mul_comm, mul-pos, mul_left_comm, arith, lit<, ltb-false, ltb-true, lt-ltb, true≢false, lt_irrefl}
use mathlib.Core.Bool.{beq, false≢true}
use Rattle.std.specs.Bool.{IsTrue}
use Rattle.std.specs.Int.{is_positive, is_negative}
use Rattle.std.specs.Float.{is_sign_negative}
use lib.Ieee.{Float, Format, nan, inf, fin, binary32, unlike, up, down, round, sum, add, mul, fits}
use lib.Ieee.Fits.{down_pos}
use lib.Ieee.Exact.{HasValue}
use lib.Ieee.Scale.{finite}
use Rattle.float.specs.Ops.{product, fused_at, fused, half, midpoint, root, square}
use Rattle.float.specs.Nearest.{Nearest, NearestRoot, signed, top, bottom}
use Rattle.float.specs.Results.{IsZero, IsAboveZero, IsBelowZero, RoundedSum, SpecialSum, IsSum, IsMidpoint, NoProduct, InfiniteProduct, IsProduct, IsFused, IsSquareRoot, product_sign, sum_top, sum_bottom, fused_top, fused_bottom}
use Rattle.float.proofs.Signs.{signed_times, signed_product, signed_zero, size_signed, add_like, add_unlike, add_unlike_less}
use Rattle.float.proofs.SumCases.{sum_like, sum_less, sum_more, sum_even, add_value}
use Rattle.float.proofs.Values.{rescale, product_value, half_value}
use Rattle.float.proofs.NearestLaws.{round_nearest, round_sign}
use Rattle.float.proofs.RootNearest.{root_nearest}

-- ---- signs
positive_sign : (u : Bool) (n : ℕ) → IsTrue (is_positive (signed u n)) → u ≡ false
positive_sign false n h = refl
positive_sign true zero h = absurd (false≢true h)
positive_sign true (suc n) h = absurd (false≢true h)

negative_sign : (u : Bool) (n : ℕ) → IsTrue (is_negative (signed u n)) → u ≡ true
negative_sign true n h = refl
negative_sign false zero h = absurd (false≢true h)
negative_sign false (suc n) h = absurd (let l = ltb-true (suc n) 0 h in omega arith)

none_signed : (u : Bool) (n : ℕ) → signed u n ≡ pos 0 → n ≡ 0
none_signed u n h = sym (size_signed u n) ∙ ap nat_abs h

-- ---- a rounded sum
rounded : (f : Format) (s t u : Bool) (n c : ℕ) → 0 < c → (n ≡ 0 → s ≡ t → u ≡ s) → (n ≡ 0 → s ≢ t → u ≡ false) → RoundedSum f (signed u n) c s t (round f u n c)
rounded f s t u n c C a o = record {
  nearest = round_nearest f u n c C;
  above = λ h. round_sign f u n c C ∙ positive_sign u n h;
  below = λ h. round_sign f u n c C ∙ negative_sign u n h;
  alike = λ z e. round_sign f u n c C ∙ a (none_signed u n z) e;
  opposed = λ z e. round_sign f u n c C ∙ o (none_signed u n z) e;
}

unlike_signs : (s : Bool) → beq s (not s) ≡ false
unlike_signs true = refl
unlike_signs false = refl

self_unlike : (s : Bool) → s ≢ not s
self_unlike true e = true≢false e
self_unlike false e = false≢true e

module _ (f : Format) (a b c : ℕ) (C : 0 < c) where
  same_sign : (s : Bool) → RoundedSum f (signed s a +ℤ signed s b) c s s (sum f s a s b c)
  same_sign s = rw (add_like s a b, sum_like f s a b c s refl) (rounded f s s s (a + b) c C (λ z e. refl) (λ z ne. absurd (ne refl)))

  other_sign : (s : Bool) → RoundedSum f (signed s a +ℤ signed (not s) b) c s (not s) (sum f s a (not s) b c)
  other_sign s = go (ltb a b) (ltb b a) refl refl
    where
      some : {x y : ℕ} {P : Type 0} → x < y → y - x ≡ 0 → P
      some h z = absurd (omega (arith, h, z))

      go : (x y : Bool) → ltb a b ≡ x → ltb b a ≡ y → RoundedSum f (signed s a +ℤ signed (not s) b) c s (not s) (sum f s a (not s) b c)
      go true y p q =
          let h = ltb-true a b p in
          rw (add_unlike_less s a b (le_of_lt h), sum_less f s (not s) a b c (unlike_signs s) h)
          (rounded f s (not s) (not s) (b - a) c C (λ z e. some h z) (λ z ne. some h z))
      go false true p q =
          let h = ltb-true b a q in
          rw (add_unlike s a b (le_of_lt h), sum_more f s (not s) a b c (unlike_signs s) h)
          (rounded f s (not s) s (a - b) c C (λ z e. some h z) (λ z ne. some h z))
      go false false p q =
          let h : a ≡ b = le_antisymm (ltb-false b a q) (ltb-false a b p) in
          let z : a - b ≡ 0 = omega arith in
          rw (add_unlike s a b (ltb-false a b p) ∙ ap (signed s) z ∙ signed_zero s, sum_even f s (not s) a b c (unlike_signs s) h)
          (rounded f s (not s) false 0 c C (λ z e. absurd (self_unlike s e)) (λ z ne. refl))

  sum_rounded : (s t : Bool) → RoundedSum f (signed s a +ℤ signed t b) c s t (sum f s a t b c)
  sum_rounded true true = same_sign true
  sum_rounded false false = same_sign false
  sum_rounded true false = other_sign true
  sum_rounded false true = other_sign false

-- ---- sums
unlike_infinite : (f : Format) (s : Bool) → add f (inf s) (inf (not s)) ≡ nan
unfolding add
unlike_infinite f true = refl
unlike_infinite f false = refl

add_nan : (f : Format) (x : Float) → add f x nan ≡ nan
unfolding add
add_nan f nan = refl
add_nan f (inf s) = refl
add_nan f (fin s m e) = refl

nan_add : (f : Format) (y : Float) → add f nan y ≡ nan
unfolding add
nan_add f y = refl

inf_add : (f : Format) (s : Bool) (y : Float) → y ≢ nan → y ≢ inf (not s) → add f (inf s) y ≡ inf s
unfolding add
inf_add f s nan n o = absurd (n refl)
inf_add f true (inf true) n o = refl
inf_add f false (inf false) n o = refl
inf_add f true (inf false) n o = absurd (o refl)
inf_add f false (inf true) n o = absurd (o refl)
inf_add f s (fin t m e) n o = refl

add_inf : (f : Format) (s : Bool) (x : Float) → x ≢ nan → x ≢ inf (not s) → add f x (inf s) ≡ inf s
unfolding add
add_inf f s nan n o = absurd (n refl)
add_inf f true (inf true) n o = refl
add_inf f false (inf false) n o = refl
add_inf f true (inf false) n o = absurd (o refl)
add_inf f false (inf true) n o = absurd (o refl)
add_inf f s (fin t m e) n o = refl

special_sum : (f : Format) (x y : Float) → SpecialSum x y (add f x y)
special_sum f x y = record {
  nan_first = λ h. ap (λ (z : Float). add f z y) h ∙ nan_add f y;
  nan_second = λ h. ap (add f x) h ∙ add_nan f x;
  opposed = λ s h k. ap₂ (add f) h k ∙ unlike_infinite f s;
  first = λ s h n o. ap (λ (z : Float). add f z y) h ∙ inf_add f s y n o;
  second = λ s h n o. ap (add f x) h ∙ add_inf f s x n o;
}

pub finite_add : (f : Format) (x y : Float) → T (finite x) → T (finite y) → RoundedSum f (sum_top x y) (sum_bottom x y) (is_sign_negative x) (is_sign_negative y) (add f x y)
unfolding add is_sign_negative
finite_add f nan y p q = absurd p
finite_add f (inf s) y p q = absurd p
finite_add f (fin s m e) nan p q = absurd q
finite_add f (fin s m e) (inf t) p q = absurd q
finite_add f (fin s m e) (fin t n d) p q =
    subst (λ (z : ℤ). RoundedSum f z (down e * down d) s t (add f (fin s m e) (fin t n d)))
    (sym (ap₂ ◌+ℤ◌ (signed_times s (m * up e) (down d)) (signed_times t (n * up d) (down e))))
    (sum_rounded f (m * up e * down d) (n * up d * down e) (down e * down d) (mul-pos (down_pos e) (down_pos d)) s t)

pub add_is : (f : Format) (x y r : Float) → r ≡ add f x y → IsSum f x y r
add_is f x y r e = subst (IsSum f x y) (sym e) (record { rounded = finite_add f x y; special = special_sum f x y })

-- ---- products
suc-zero : (n : ℕ) → suc n ≡ 0 → ⊥
suc-zero n h = omega (arith, h)

other : (n : ℕ) (x : Float) → cond (eqb (suc n) 0) nan x ≡ x
other n x = ap (λ (b : Bool). cond b nan x) (ne_eqb (suc n) 0 (suc-zero n))

product_none : (x y : Float) → NoProduct x y → product x y ≡ nan
unfolding product
product_none x y (inl (inl h)) = ap (λ (z : Float). product z y) h
product_none nan y (inl (inr h)) = refl
product_none (inf s) y (inl (inr h)) = ap (product (inf s)) h
product_none (fin s m e) y (inl (inr h)) = ap (product (fin s m e)) h
product_none nan y (inr (inl h)) = absurd h.0
product_none (fin s m e) y (inr (inl h)) = absurd h.0
product_none (inf s) nan (inr (inl h)) = absurd h.1
product_none (inf s) (inf t) (inr (inl h)) = absurd h.1
product_none (inf s) (fin t zero d) (inr (inl h)) = refl
product_none (inf s) (fin t (suc n) d) (inr (inl h)) = absurd (suc-zero n h.1)
product_none nan y (inr (inr h)) = absurd h.0
product_none (inf s) y (inr (inr h)) = absurd h.0
product_none (fin s m e) nan (inr (inr h)) = absurd h.1
product_none (fin s m e) (fin t n d) (inr (inr h)) = absurd h.1
product_none (fin s zero e) (inf t) (inr (inr h)) = refl
product_none (fin s (suc m) e) (inf t) (inr (inr h)) = absurd (suc-zero m h.0)

product_infinite : (x y : Float) → InfiniteProduct x y → product x y ≡ inf (product_sign x y)
unfolding product is_sign_negative
product_infinite nan y (inl h) = absurd h.0.0
product_infinite (fin s m e) y (inl h) = absurd h.0.0
product_infinite (inf s) nan (inl h) = absurd (h.1 refl)
product_infinite (inf s) (inf t) (inl h) = refl
product_infinite (inf s) (fin t zero d) (inl h) = absurd (h.0.1 refl)
product_infinite (inf s) (fin t (suc n) d) (inl h) = other n (inf (unlike s t))
product_infinite x nan (inr h) = absurd h.0.0
product_infinite x (fin t n d) (inr h) = absurd h.0.0
product_infinite nan (inf t) (inr h) = absurd (h.1 refl)
product_infinite (inf s) (inf t) (inr h) = refl
product_infinite (fin s zero e) (inf t) (inr h) = absurd (h.0.1 refl)
product_infinite (fin s (suc m) e) (inf t) (inr h) = other m (inf (unlike s t))

mul_none : (f : Format) (x y : Float) → NoProduct x y → mul f x y ≡ nan
unfolding mul
mul_none f x y (inl (inl h)) = ap (λ (z : Float). mul f z y) h
mul_none f nan y (inl (inr h)) = refl
mul_none f (inf s) y (inl (inr h)) = ap (mul f (inf s)) h
mul_none f (fin s m e) y (inl (inr h)) = ap (mul f (fin s m e)) h
mul_none f nan y (inr (inl h)) = absurd h.0
mul_none f (fin s m e) y (inr (inl h)) = absurd h.0
mul_none f (inf s) nan (inr (inl h)) = absurd h.1
mul_none f (inf s) (inf t) (inr (inl h)) = absurd h.1
mul_none f (inf s) (fin t zero d) (inr (inl h)) = refl
mul_none f (inf s) (fin t (suc n) d) (inr (inl h)) = absurd (suc-zero n h.1)
mul_none f nan y (inr (inr h)) = absurd h.0
mul_none f (inf s) y (inr (inr h)) = absurd h.0
mul_none f (fin s m e) nan (inr (inr h)) = absurd h.1
mul_none f (fin s m e) (fin t n d) (inr (inr h)) = absurd h.1
mul_none f (fin s zero e) (inf t) (inr (inr h)) = refl
mul_none f (fin s (suc m) e) (inf t) (inr (inr h)) = absurd (suc-zero m h.0)

mul_infinite : (f : Format) (x y : Float) → InfiniteProduct x y → mul f x y ≡ inf (product_sign x y)
unfolding mul is_sign_negative
mul_infinite f nan y (inl h) = absurd h.0.0
mul_infinite f (fin s m e) y (inl h) = absurd h.0.0
mul_infinite f (inf s) nan (inl h) = absurd (h.1 refl)
mul_infinite f (inf s) (inf t) (inl h) = refl
mul_infinite f (inf s) (fin t zero d) (inl h) = absurd (h.0.1 refl)
mul_infinite f (inf s) (fin t (suc n) d) (inl h) = other n (inf (unlike s t))
mul_infinite f x nan (inr h) = absurd h.0.0
mul_infinite f x (fin t n d) (inr h) = absurd h.0.0
mul_infinite f nan (inf t) (inr h) = absurd (h.1 refl)
mul_infinite f (inf s) (inf t) (inr h) = refl
mul_infinite f (fin s zero e) (inf t) (inr h) = absurd (h.0.1 refl)
mul_infinite f (fin s (suc m) e) (inf t) (inr h) = other m (inf (unlike s t))

pub mul_nearest : (f : Format) (x y : Float) → T (finite x) → T (finite y) → Nearest f (top x *ℤ top y) (bottom x * bottom y) (mul f x y)
unfolding mul
mul_nearest f nan y p q = absurd p
mul_nearest f (inf s) y p q = absurd p
mul_nearest f (fin s m e) nan p q = absurd q
mul_nearest f (fin s m e) (inf t) p q = absurd q
mul_nearest f (fin s m e) (fin t n d) p q =
    rw (signed_product s t (m * up e) (n * up d)) (round_nearest f (unlike s t) (m * up e * (n * up d)) (down e * down d) (mul-pos (down_pos e) (down_pos d)))

finite_sign : (f : Format) (x y : Float) → T (finite x) → T (finite y) → is_sign_negative (mul f x y) ≡ product_sign x y
unfolding mul is_sign_negative
finite_sign f nan y p q = absurd p
finite_sign f (inf s) y p q = absurd p
finite_sign f (fin s m e) nan p q = absurd q
finite_sign f (fin s m e) (inf t) p q = absurd q
finite_sign f (fin s m e) (fin t n d) p q = round_sign f (unlike s t) (m * up e * (n * up d)) (down e * down d) (mul-pos (down_pos e) (down_pos d))

pub mul_is : (f : Format) (x y r : Float) → r ≡ mul f x y → IsProduct f x y r
mul_is f x y r e =
    subst (IsProduct f x y) (sym e)
    (record { nearest = mul_nearest f x y; sign = finite_sign f x y; none = mul_none f x y; infinite = mul_infinite f x y })

pub square_is : (x r : Float) → r ≡ square x → IsProduct binary32 x x r
unfolding square
square_is x r e = mul_is binary32 x x r e

-- ---- the fused product
pub finite_fused : (f : Format) (a b c : Float) → T (finite a) → T (finite b) → T (finite c)
    → RoundedSum f (fused_top a b c) (fused_bottom a b c) (product_sign a b) (is_sign_negative c) (fused_at f a b c)
unfolding fused_at is_sign_negative
finite_fused f nan b c p q r = absurd p
finite_fused f (inf s) b c p q r = absurd p
finite_fused f (fin s m e) nan c p q r = absurd q
finite_fused f (fin s m e) (inf t) c p q r = absurd q
finite_fused f (fin s m e) (fin t n d) nan p q r = absurd r
finite_fused f (fin s m e) (fin t n d) (inf u) p q r = absurd r
finite_fused f (fin s m e) (fin t n d) (fin u k g) p q r =
    let a = fin s m e in
    let b = fin t n d in
    let c = fin u k g in
    let ab = m * up e * (n * up d) in
    let bottoms = down e * down d in
    let C : 0 < bottoms * down g = mul-pos (mul-pos (down_pos e) (down_pos d)) (down_pos g) in
    let left = rescale (product a b) (unlike s t) ab bottoms (down g) (product_value a b s t (m * up e) (n * up d) (down e) (down d) (refl, refl) (refl, refl)) in
    let right : HasValue c u (k * up g * bottoms) (bottoms * down g) = subst (λ (z : ℕ). HasValue c u (k * up g * bottoms) z) (mul_comm (down g) bottoms) (rescale c u (k * up g) (down g) bottoms (refl, refl)) in
    rw (signed_product s t (m * up e) (n * up d), signed_times (unlike s t) ab (down g), signed_times u (k * up g) bottoms, add_value f (product a b) c (unlike s t) u (ab * down g) (k * up g * bottoms) (bottoms * down g) C left right)
    (sum_rounded f (ab * down g) (k * up g * bottoms) (bottoms * down g) C (unlike s t) u)

finite_product : (x y : Float) → T (finite x) → T (finite y) → finite (product x y) ≡ true
unfolding product
finite_product nan y p q = absurd p
finite_product (inf s) y p q = absurd p
finite_product (fin s m e) nan p q = absurd q
finite_product (fin s m e) (inf t) p q = absurd q
finite_product (fin s m e) (fin t n d) p q = refl

no-nan : (x : Float) → finite x ≡ true → x ≢ nan
no-nan x p h = true≢false (sym p ∙ ap finite h)

no-inf : (x : Float) (s : Bool) → finite x ≡ true → x ≢ inf s
no-inf x s p h = true≢false (sym p ∙ ap finite h)

pub fused_at_is : (f : Format) (a b c r : Float) → r ≡ fused_at f a b c → IsFused f a b c r
unfolding fused_at
fused_at_is f a b c r eq =
    subst (IsFused f a b c) (sym eq)
    (record {
      rounded = finite_fused f a b c;
      none = λ h. ap (λ (z : Float). add f z c) (product_none a b h) ∙ nan_add f c;
      nan_last = λ h. ap (add f (product a b)) h ∙ add_nan f (product a b);
      opposed = λ i h. ap₂ (add f) (product_infinite a b i) h ∙ unlike_infinite f (product_sign a b);
      infinite = λ i n o. ap (λ (z : Float). add f z c) (product_infinite a b i) ∙ inf_add f (product_sign a b) c n o;
      last = λ s p q h. ap (add f (product a b)) h ∙ add_inf f s (product a b) (no-nan (product a b) (finite_product a b p q)) (no-inf (product a b) (not s) (finite_product a b p q));
    })

-- `f32::mul_add`
pub fused_is : (a b c r : Float) → r ≡ fused a b c → IsFused binary32 a b c r
unfolding fused
fused_is = fused_at_is binary32

-- ---- the midpoint
pub finite_midpoint : (a b : Float) → T (finite a) → T (finite b) → RoundedSum binary32 (sum_top a b) (2 * sum_bottom a b) (is_sign_negative a) (is_sign_negative b) (midpoint a b)
unfolding midpoint is_sign_negative
finite_midpoint nan b p q = absurd p
finite_midpoint (inf s) b p q = absurd p
finite_midpoint (fin s m e) nan p q = absurd q
finite_midpoint (fin s m e) (inf t) p q = absurd q
finite_midpoint (fin s m e) (fin t n d) p q =
    let a = fin s m e in
    let b = fin t n d in
    let C : 0 < 2 * (down e * down d) = mul-pos (lit< tt) (mul-pos (down_pos e) (down_pos d)) in
    let left : HasValue (half a) s (m * up e * down d) (2 * (down e * down d)) = subst (λ (z : ℕ). HasValue (half a) s (m * up e * down d) z) (turn (down e) (down d)) (rescale (half a) s (m * up e) (down e * 2) (down d) (half_value a s (m * up e) (down e) (refl, refl))) in
    let right : HasValue (half b) t (n * up d * down e) (2 * (down e * down d)) = subst (λ (z : ℕ). HasValue (half b) t (n * up d * down e) z) (turn (down d) (down e) ∙ ap (λ (z : ℕ). 2 * z) (mul_comm (down d) (down e))) (rescale (half b) t (n * up d) (down d * 2) (down e) (half_value b t (n * up d) (down d) (refl, refl))) in
    rw (signed_times s (m * up e) (down d), signed_times t (n * up d) (down e), add_value binary32 (half a) (half b) s t (m * up e * down d) (n * up d * down e) (2 * (down e * down d)) C left right)
    (sum_rounded binary32 (m * up e * down d) (n * up d * down e) (2 * (down e * down d)) C s t)
  where
    turn : (x y : ℕ) → x * 2 * y ≡ 2 * (x * y)
    turn x y = simp (mul_assoc, mul_comm, mul_left_comm)

half_nan : (x : Float) → half x ≡ nan → x ≡ nan
unfolding half
half_nan nan h = refl
half_nan (inf s) h = h
half_nan (fin s m e) h = absurd (true≢false (ap finite h))

half_inf : (x : Float) (t : Bool) → half x ≡ inf t → x ≡ inf t
unfolding half
half_inf nan t h = h
half_inf (inf s) t h = h
half_inf (fin s m e) t h = absurd (true≢false (ap finite h))

special_midpoint : (a b : Float) → SpecialSum a b (midpoint a b)
unfolding midpoint half
special_midpoint a b =
    let w = special_sum binary32 (half a) (half b) in
    record {
      nan_first = λ h. w.nan_first (ap half h);
      nan_second = λ h. w.nan_second (ap half h);
      opposed = λ s h k. w.opposed s (ap half h) (ap half k);
      first = λ s h n o. w.first s (ap half h) (λ e. n (half_nan b e)) (λ e. o (half_inf b (not s) e));
      second = λ s h n o. w.second s (ap half h) (λ e. n (half_nan a e)) (λ e. o (half_inf a (not s) e));
    }

pub midpoint_is : (a b r : Float) → r ≡ midpoint a b → IsMidpoint binary32 a b r
midpoint_is a b r e = subst (IsMidpoint binary32 a b) (sym e) (record { rounded = finite_midpoint a b; special = special_midpoint a b })

-- ---- the root
root_near : (x : Float) → T (fits binary32 x) → IsAboveZero x → NearestRoot binary32 (nat_abs (top x)) (bottom x) (root x)
root_near nan t h = absurd h
root_near (inf s) t h = absurd h
root_near (fin true m e) t h = absurd (true≢false h.0)
root_near (fin false zero e) t h = absurd (lt_irrefl 0 h.1)
root_near (fin false (suc m) e) t h = root_nearest (fin false (suc m) e) t (subst T (sym (lt-ltb 0 (suc m) h.1)) tt)

root_zero : (x : Float) → IsZero x → root x ≡ x
unfolding root
root_zero nan h = absurd h
root_zero (inf s) h = absurd h
root_zero (fin s zero e) h = refl
root_zero (fin s (suc m) e) h = absurd (suc-zero m h)

root_below : (x : Float) → IsBelowZero x → root x ≡ nan
unfolding root
root_below nan h = absurd h
root_below (inf true) h = refl
root_below (inf false) h = absurd (false≢true h)
root_below (fin false m e) h = absurd (false≢true h.0)
root_below (fin true zero e) h = absurd (lt_irrefl 0 h.1)
root_below (fin true (suc m) e) h = refl

pub root_is : (x r : Float) → T (fits binary32 x) → r ≡ root x → IsSquareRoot binary32 x r
unfolding root
root_is x r t e =
    subst (IsSquareRoot binary32 x) (sym e)
    (record {
      nearest = root_near x t;
      zero = root_zero x;
      below = root_below x;
      none = λ h. ap root h;
      infinite = λ h. ap root h;
    })
