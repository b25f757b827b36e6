-- Weights, one byte further, and by the tests that the code makes.
use Rattle.std.proofs.Common.{Some, None}
use Prim.Native.Nat.{ℕ, ◌-◌, ◌^◌, ◌<◌, ◌≤◌}
use mathlib.Core.Path.{◌≡◌, refl}
use mathlib.Core.List.{List, [], ◌∷◌}
use mathlib.Core.Bool.{Bool, true, false, cond, ◌&&◌}
use native.Mathlib.Nat.{pow-le-pow_right}
use native.Mathlib.Omega.{arith}
use lib.ListN.{length, get_or, drop}
use lib.Dec.{eqb, leb}
use borrow.Author.Tests.{leb-true, eq-eqb, ne_eqb}
use Rattle.text.specs.Weights.{hex_digit, after_letter, bit_form}

-- one hexadecimal digit
pub hex_below : (b d : ℕ) → hex_digit b ≡ Some d → d < 16
hex_below b d e = four (leb 48 b) (leb b 57) (leb 97 b) (leb b 102) refl refl e
  where
    four : (p q r s : Bool) → leb b 57 ≡ q → leb b 102 ≡ s → cond (p && q) (Some (b - 48)) (cond (r && s) (Some (b - 87)) None) ≡ Some d → d < 16
    four true true r s i j o = let k : b - 48 ≡ d = cc in omega (arith, leb-true b 57 i)
    four true false true true i j o = let k : b - 87 ≡ d = cc in omega (arith, leb-true b 102 j)
    four true false true false i j o = cc
    four true false false s i j o = cc
    four false q true true i j o = let k : b - 87 ≡ d = cc in omega (arith, leb-true b 102 j)
    four false q true false i j o = cc
    four false q false s i j o = cc

-- the bit form
pub hex_small : (v i : ℕ) → v < 16 ^ i → i ≤ 7 → v < 268435456
hex_small v i h k = omega (arith, pow-le-pow_right {n = 16} (omega arith) k)

pub after_other : (t : ℕ) (s : List ℕ) → (get_or s 0 0 ≡ t → ⊥) → after_letter t s ≡ []
after_other t [] h = refl
after_other t (b ∷ l) h = rw (ne_eqb b t h)

pub after_same : (t : ℕ) (s : List ℕ) → 0 < length s → get_or s 0 0 ≡ t → after_letter t s ≡ drop 1 s
after_same t [] h e = let z : ⊥ = omega arith in absurd z
after_same t (b ∷ l) h e = rw (eq-eqb b t e)

after_length : (t : ℕ) (s : List ℕ) → length (after_letter t s) ≡ 8 → length s ≡ 9
after_length t [] h = omega arith
after_length t (b ∷ l) h = two (eqb b t) h
  where
    two : (u : Bool) → length (cond u l []) ≡ 8 → length (b ∷ l) ≡ 9
    two true k = omega arith
    two false k = let z : ⊥ = omega arith in absurd z

pub bits_letter : (s : List ℕ) → (get_or s 0 0 ≡ 104 → ⊥) → bit_form s ≡ None
unfolding bit_form
bits_letter s h = rw (after_other 104 s h)
