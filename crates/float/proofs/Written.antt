-- A kept number q and how many digits k were dropped, as a bit pattern of either format: k * 2 ^ d + q, for d digits below the leading one, and the sign's bit above it.
-- The leading one of q adds one to the exponent's field, and so does the carry of a q that was rounded up to 2 ^ (d + 1). Assumes nothing.
use Rattle.std.proofs.Common.{◌≡◌, ℕ, suc, ◌+◌, ◌-◌, ◌*◌, ◌/◌, ◌^◌, ◌<◌, ◌≤◌, Bool, true, false, cond, not, T, ltb, leb, ◌⊎◌, sym, refl, ap, ◌∙◌, subst, inl, inr, le_trans, le_of_eq, lt_irrefl, lt_of_le_of_lt, add_assoc, suc-add, eq-or-lt_of_le, mul-le-mul_right, mul-one, div-one, mul-div_cancel, arith, ltb→lt, leb→le, pow_pos, pow-add, shl_lt}
use native.Mathlib.Nat.{lt-suc_self, suc-mul, pow-suc}
use lib.Dec.{nleb→lt}
use lib.Pow.{pow-lt}
use lib.Ieee.{Float, nan, inf, fin, Format, binary32, binary64, up, down, size, odd, units, to_bits, prec, emax, low, hid, top}
use lib.Ieee.Digits.{size-le}
use lib.Ieee.Fits.{down_pos}
use lib.Ieee.Exact.{HasValue, units_val}
use Rattle.float.proofs.Size.{size_exact}

-- ---- the three places of q, in a format with d digits below the leading one and the sign's bit t
module _ (d t : ℕ) where
  -- the pattern of a value of a units of the format's smallest
  abbrev pub written : Bool → ℕ → ℕ
  written s a = cond s t 0 + (size a - suc d) * 2 ^ d + a / 2 ^ (size a - suc d)

  -- `written` at a known number of digits
  written_at : (s : Bool) (a j r : ℕ) → size a - suc d ≡ j → a / 2 ^ j ≡ r → written s a ≡ cond s t 0 + (j * 2 ^ d + r)
  written_at s a j r e f =
      ap (λ (z : ℕ). cond s t 0 + z * 2 ^ d + a / 2 ^ z) e
      ∙ ap (λ (z : ℕ). cond s t 0 + j * 2 ^ d + z) f
      ∙ add_assoc (cond s t 0) (j * 2 ^ d) r

  none : (z : ℕ) → z ≤ d → z - suc d ≡ 0
  none z h = omega arith

  over : (z k : ℕ) → z ≡ suc (d + k) → z - suc d ≡ k
  over z k h = omega arith

  over-one : (z k : ℕ) → z ≡ suc (suc d + k) → z - suc d ≡ suc k
  over-one z k h = omega arith

  small : (s : Bool) (q : ℕ) → q < 2 ^ d → written s (q * 2 ^ 0) ≡ cond s t 0 + (0 * 2 ^ d + q)
  small s q h = written_at s (q * 2 ^ 0) 0 q (none (size (q * 2 ^ 0)) (size-le (q * 2 ^ 0) d (subst (λ (z : ℕ). z < 2 ^ d) (sym (mul-one q)) h))) (div-one (q * 1) ∙ mul-one q)

  normal : (s : Bool) (q k : ℕ) → 2 ^ d ≤ q → q < 2 ^ suc d → written s (q * 2 ^ k) ≡ cond s t 0 + (k * 2 ^ d + q)
  normal s q k lo hi =
      written_at s (q * 2 ^ k) k q
      (over (size (q * 2 ^ k)) k (size_exact (d + k) (q * 2 ^ k) (le_trans (le_of_eq (pow-add 2 d k)) (mul-le-mul_right (2 ^ k) lo)) (subst (λ (z : ℕ). q * 2 ^ k < 2 ^ z) (suc-add d k) (shl_lt (suc d) k hi))))
      (mul-div_cancel q (pow_pos k))

  carry : (k : ℕ) → suc k * 2 ^ d + 2 ^ d ≡ k * 2 ^ d + 2 ^ suc d
  carry k = double (suc k * 2 ^ d) (k * 2 ^ d) (2 ^ d) (suc-mul k (2 ^ d)) ∙ ap (λ (z : ℕ). k * 2 ^ d + z) (sym (pow-suc 2 d))
    where
      double : (x y u : ℕ) → x ≡ y + u → x + u ≡ y + u * 2
      double x y u e = omega arith

  full : (s : Bool) (k : ℕ) → written s (2 ^ suc d * 2 ^ k) ≡ cond s t 0 + (k * 2 ^ d + 2 ^ suc d)
  full s k =
      written_at s (2 ^ suc d * 2 ^ k) (suc k) (2 ^ d)
      (over-one (size (2 ^ suc d * 2 ^ k)) k (size_exact (suc d + k) (2 ^ suc d * 2 ^ k) (le_of_eq (pow-add 2 (suc d) k)) (subst (λ (z : ℕ). 2 ^ suc d * 2 ^ k < 2 ^ z) (suc-add (suc d) k) (shl_lt (suc (suc d)) k (pow-lt (lt-suc_self (suc d)))))))
      (ap (λ (z : ℕ). z / 2 ^ suc k) whole ∙ mul-div_cancel (2 ^ d) (pow_pos (suc k)))
      ∙ ap (λ (z : ℕ). cond s t 0 + z) (carry k)
    where
      whole : 2 ^ suc d * 2 ^ k ≡ 2 ^ d * 2 ^ suc k
      whole = sym (pow-add 2 (suc d) k) ∙ ap (λ (z : ℕ). 2 ^ z) shift ∙ pow-add 2 d (suc k)
        where
          shift : suc d + k ≡ d + suc k
          shift = omega arith

  kept : (s : Bool) (q k : ℕ) → q ≤ 2 ^ suc d → (k ≡ 0) ⊎ (2 ^ d ≤ q) → written s (q * 2 ^ k) ≡ cond s t 0 + (k * 2 ^ d + q)
  kept s q k m h = at_top (eq-or-lt_of_le m)
    where
      below : q < 2 ^ suc d → (k ≡ 0) ⊎ (2 ^ d ≤ q) → (b : Bool) → (T b → 2 ^ d ≤ q) → (T (not b) → q < 2 ^ d) → written s (q * 2 ^ k) ≡ cond s t 0 + (k * 2 ^ d + q)
      below u w true y n = normal s q k (y tt) u
      below u (inl z) false y n = subst (λ (j : ℕ). written s (q * 2 ^ j) ≡ cond s t 0 + (j * 2 ^ d + q)) (sym z) (small s q (n tt))
      below u (inr z) false y n = normal s q k z u

      at_top : (q ≡ 2 ^ suc d) ⊎ (q < 2 ^ suc d) → written s (q * 2 ^ k) ≡ cond s t 0 + (k * 2 ^ d + q)
      at_top (inl e) = subst (λ (z : ℕ). written s (z * 2 ^ k) ≡ cond s t 0 + (k * 2 ^ d + z)) (sym e) (full s k)
      at_top (inr l) = below l h (leb (2 ^ d) q) (leb→le (2 ^ d) q) (nleb→lt (2 ^ d) q)

-- ---- either format

-- what a rounded result is: q is at most 2 ^ (d + 1), and has its leading one in place d or d + 1 where digits were dropped
pub record Kept (f : Format) (q k : ℕ) : Type 0 where
  pub most : q ≤ 2 ^ prec f
  pub lead : (k ≡ 0) ⊎ (hid f ≤ q)

-- the pattern of the format f's value of a units of its smallest
abbrev pub pattern : Format → Bool → ℕ → ℕ
pattern f s a = cond s (top f) 0 + (size a - prec f) * hid f + a / 2 ^ (size a - prec f)

fin_bits : (f : Format) (s : Bool) (m : ℕ) (e : _) → to_bits f (fin s m e) ≡ pattern f s (m * up e * 2 ^ low f / down e)
unfolding to_bits
fin_bits f s m e = refl

pub to_bits_value : (f : Format) (x : Float) (s : Bool) (a : ℕ) → HasValue x s a (2 ^ low f) → to_bits f x ≡ pattern f s a
to_bits_value f nan s a h = absurd h
to_bits_value f (inf t) s a h = absurd h
to_bits_value f (fin t m e) s a h =
    fin_bits f t m e
    ∙ ap (λ (z : Bool). pattern f z (m * up e * 2 ^ low f / down e)) h.0
    ∙ ap (pattern f s) (ap (λ (z : ℕ). z / down e) h.1 ∙ mul-div_cancel a (down_pos e))

pub pattern_kept : (f : Format) (s : Bool) (q k : ℕ) → Kept f q k → pattern f s (q * 2 ^ k) ≡ cond s (top f) 0 + (k * hid f + q)
pattern_kept binary32 s q k h = kept 23 2147483648 s q k h.most h.lead
pattern_kept binary64 s q k h = kept 52 9223372036854775808 s q k h.most h.lead

-- units at or above 2 ^ (low + emax + 1) is an infinity
pub units_over : (f : Format) (s : Bool) (q k : ℕ) → 2 ^ (low f + suc (emax f)) ≤ q * 2 ^ k → units f s q k ≡ inf s
unfolding units
units_over f s q k h = go (ltb (q * 2 ^ k) (2 ^ (low f + suc (emax f)))) (ltb→lt (q * 2 ^ k) (2 ^ (low f + suc (emax f))))
  where
    go : (b : Bool) → (T b → q * 2 ^ k < 2 ^ (low f + suc (emax f))) → cond b (odd (suc (prec f)) s q k (low f)) (inf s) ≡ inf s
    go true l = absurd (lt_irrefl (2 ^ (low f + suc (emax f))) (lt_of_le_of_lt h (l tt)))
    go false l = refl

-- and below it is written so
pub units_written : (f : Format) (s : Bool) (q k : ℕ) → Kept f q k → q * 2 ^ k < 2 ^ (low f + suc (emax f)) → to_bits f (units f s q k) ≡ cond s (top f) 0 + (k * hid f + q)
units_written f s q k h l = to_bits_value f (units f s q k) s (q * 2 ^ k) (units_val f s q k l) ∙ pattern_kept f s q k h
