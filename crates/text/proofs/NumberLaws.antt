-- Numbers, one byte further, and by the tests that the code makes.
use Rattle.std.proofs.Common.{Some, None}
use Prim.Native.Nat.{ℕ, ◌+◌, ◌-◌, ◌*◌, ◌^◌, ◌<◌, ◌≤◌}
use mathlib.Core.Path.{◌≡◌, refl, ◌∙◌}
use mathlib.Core.List.{List, [], ◌∷◌}
use mathlib.Core.Bool.{false}
use native.Mathlib.Numerals.{add-one}
use native.Mathlib.Nat.{pow-succ', pow-le-pow_right}
use native.Mathlib.Omega.{arith}
use lib.ListN.{length, get_or, drop, drop_of_length-le}
use lib.Dec.{eqb}
use borrow.Author.Tests.{ne_eqb, le-leb, lt-leb}
use Rattle.text.specs.Numbers.{digits, padded, number_of}
use Rattle.text.proofs.PieceLaws.{drop_step}

module _ (s : List ℕ) (v i : ℕ) where
  pub digits_more : i < length s → 48 ≤ get_or s i 0 → get_or s i 0 ≤ 57 → digits v (drop i s) ≡ digits (v * 10 + (get_or s i 0 - 48)) (drop (i + 1) s)
  digits_more h l u = rw (drop_step s i h, le-leb _ _ l, le-leb _ _ u)

  pub digits_low : i < length s → get_or s i 0 < 48 → digits v (drop i s) ≡ None
  digits_low h l = rw (drop_step s i h, lt-leb _ _ l)

  pub digits_high : i < length s → 48 ≤ get_or s i 0 → 57 < get_or s i 0 → digits v (drop i s) ≡ None
  digits_high h l u = rw (drop_step s i h, le-leb _ _ l, lt-leb _ _ u)

  pub digits_end : length s ≤ i → digits v (drop i s) ≡ Some v
  digits_end h = rw (drop_of_length-le s h)

pub digits_bound : (v i d : ℕ) → v < 10 ^ i → d ≤ 9 → v * 10 + d < 10 ^ (i + 1)
digits_bound v i d h k = rw (add-one i, pow-succ' 10 i) (omega arith)

pub digits_small : (v i : ℕ) → v < 10 ^ i → i ≤ 6 → v < 1000000
digits_small v i h k = omega (arith, pow-le-pow_right {n = 10} (omega arith) k)

padded_is : (s : List ℕ) → 1 < length s → padded s ≡ eqb (get_or s 0 0) 48
padded_is [] h = let z : ⊥ = omega arith in absurd z
padded_is (b ∷ []) h = let z : ⊥ = omega arith in absurd z
padded_is (b ∷ (d ∷ l)) h = refl

not_padded : (s : List ℕ) → length s ≤ 1 → padded s ≡ false
not_padded [] h = refl
not_padded (b ∷ []) h = refl
not_padded (b ∷ (d ∷ l)) h = let z : ⊥ = omega arith in absurd z

pub number_digits : (s : List ℕ) → 1 ≤ length s → length s ≤ 6 → padded s ≡ false → digits 0 s ≡ number_of s
unfolding number_of
number_digits s l u p = rw (le-leb 1 (length s) l, le-leb (length s) 6 u, p)

pub number_two : (s : List ℕ) → 1 < length s → length s ≤ 6 → (get_or s 0 0 ≡ 48 → ⊥) → digits 0 s ≡ number_of s
number_two s h u p = number_digits s (omega arith) u (padded_is s h ∙ ne_eqb _ _ p)

pub number_one : (s : List ℕ) → 1 ≤ length s → length s ≤ 1 → digits 0 s ≡ number_of s
number_one s l u = number_digits s l (omega arith) (not_padded s u)
