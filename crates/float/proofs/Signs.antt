-- Whole numbers by sign and size: sums, products and distances. Assumes nothing.
use Rattle.std.proofs.Common.{◌≡◌, ℕ, zero, suc, ◌+◌, ◌-◌, ◌*◌, ◌<◌, ◌≤◌, Bool, true, false, cond, not, T, ltb, ℤ, pos, negsuc, ◌+ℤ◌, ◌-ℤ◌, ◌*ℤ◌, neg_ℤ, nat_abs, sym, refl, ap, ◌∙◌, mul-zero, zero-mul, arith, ltb→lt, nltb→le}
use lib.IntN.{sub_ℕ}
use lib.Ieee.{unlike}
use Rattle.float.specs.Nearest.{signed, gap}

pub size_signed : (s : Bool) (n : ℕ) → nat_abs (signed s n) ≡ n
size_signed false n = refl
size_signed true zero = refl
size_signed true (suc n) = refl

-- either zero is 0
pub signed_zero : (s : Bool) → signed s 0 ≡ pos 0
signed_zero false = refl
signed_zero true = refl

-- -n by an equal n, as 0 - n and the like leave it
minus : {a b : ℕ} → a ≡ b → neg_ℤ (pos a) ≡ neg_ℤ (pos b)
minus e = ap (λ (z : ℕ). neg_ℤ (pos z)) e

pub signed_times : (s : Bool) (n c : ℕ) → signed s n *ℤ pos c ≡ signed s (n * c)
signed_times false n c = refl
signed_times true zero c = ap pos (zero-mul c) ∙ minus (sym (zero-mul c))
signed_times true (suc n) c = refl

pub signed_product : (s t : Bool) (a b : ℕ) → signed s a *ℤ signed t b ≡ signed (unlike s t) (a * b)
signed_product false false a b = refl
signed_product true false a b = signed_times true a b
signed_product false true a zero = ap pos (mul-zero a) ∙ minus (sym (mul-zero a))
signed_product false true a (suc b) = refl
signed_product true true zero zero = refl
signed_product true true zero (suc b) = minus (zero-mul (suc b)) ∙ ap pos (sym (zero-mul (suc b)))
signed_product true true (suc a) zero = minus (mul-zero (suc a)) ∙ ap pos (sym (mul-zero (suc a)))
signed_product true true (suc a) (suc b) = refl

-- ---- sums
pub sub_more : (a b : ℕ) → b ≤ a → sub_ℕ a b ≡ pos (a - b)
sub_more a b h = go (ltb a b) (ltb→lt a b)
  where
    go : (x : Bool) → (T x → a < b) → cond x (negsuc (b - suc a)) (pos (a - b)) ≡ pos (a - b)
    go true y = absurd (let l = y tt in omega arith)
    go false y = refl

pub sub_less : (a b : ℕ) → a ≤ b → sub_ℕ a b ≡ neg_ℤ (pos (b - a))
sub_less a b h = go (ltb a b) (ltb→lt a b) (nltb→le a b)
  where
    go : (x : Bool) → (T x → a < b) → (T (not x) → b ≤ a) → cond x (negsuc (b - suc a)) (pos (a - b)) ≡ neg_ℤ (pos (b - a))
    go true y n = let l = y tt in let e : suc (b - suc a) ≡ b - a = omega arith in minus e
    go false y n = let l = n tt in let z : a - b ≡ 0 = omega arith in let w : 0 ≡ b - a = omega arith in ap pos z ∙ minus w

pub add_like : (s : Bool) (a b : ℕ) → signed s a +ℤ signed s b ≡ signed s (a + b)
add_like false a b = refl
add_like true zero zero = refl
add_like true zero (suc b) = let e : suc b - 0 ≡ 0 + suc b = omega arith in sub_less 0 (suc b) (omega arith) ∙ minus e
add_like true (suc a) zero = let e : suc a - 0 ≡ suc a + 0 = omega arith in sub_less 0 (suc a) (omega arith) ∙ minus e
add_like true (suc a) (suc b) = let e : suc (suc (a + b)) ≡ suc a + suc b = omega arith in minus e

-- a - b, whatever the order
less_is : (a b : ℕ) → pos a +ℤ neg_ℤ (pos b) ≡ sub_ℕ a b
less_is a zero = ap pos (omega arith) ∙ sym (sub_more a 0 (omega arith))
less_is a (suc b) = refl

more-is : (a b : ℕ) → neg_ℤ (pos a) +ℤ pos b ≡ sub_ℕ b a
more-is zero b = ap pos (omega arith) ∙ sym (sub_more b 0 (omega arith))
more-is (suc a) b = refl

pub add_unlike : (s : Bool) (a b : ℕ) → b ≤ a → signed s a +ℤ signed (not s) b ≡ signed s (a - b)
add_unlike false a b h = less_is a b ∙ sub_more a b h
add_unlike true a b h = more-is a b ∙ sub_less b a h

pub add_unlike_less : (s : Bool) (a b : ℕ) → a ≤ b → signed s a +ℤ signed (not s) b ≡ signed (not s) (b - a)
add_unlike_less false a b h = less_is a b ∙ sub_less a b h
add_unlike_less true a b h = more-is a b ∙ sub_more b a h

-- ---- distances
neg_signed : (s : Bool) (n : ℕ) → neg_ℤ (signed s n) ≡ signed (not s) n
neg_signed false n = refl
neg_signed true zero = refl
neg_signed true (suc n) = refl

pub gap_like : (s : Bool) (a b : ℕ) → nat_abs (signed s a -ℤ signed s b) ≡ gap a b
gap_like s a b = ap (λ (z : ℤ). nat_abs (signed s a +ℤ z)) (neg_signed s b) ∙ go (ltb a b) (ltb→lt a b) (nltb→le a b)
  where
    go : (x : Bool) → (T x → a < b) → (T (not x) → b ≤ a) → nat_abs (signed s a +ℤ signed (not s) b) ≡ gap a b
    go true y n = let l = y tt in ap nat_abs (add_unlike_less s a b (omega arith)) ∙ size_signed (not s) (b - a) ∙ omega arith
    go false y n = let l = n tt in ap nat_abs (add_unlike s a b l) ∙ size_signed s (a - b) ∙ omega arith

pub gap_unlike : (s : Bool) (a b : ℕ) → nat_abs (signed s a -ℤ signed (not s) b) ≡ a + b
gap_unlike s a b = ap (λ (z : ℤ). nat_abs (signed s a +ℤ z)) (neg_signed (not s) b ∙ ap (λ (u : Bool). signed u b) (twice s)) ∙ ap nat_abs (add_like s a b) ∙ size_signed s (a + b)
  where
    twice : (s : Bool) → not (not s) ≡ s
    twice true = refl
    twice false = refl
