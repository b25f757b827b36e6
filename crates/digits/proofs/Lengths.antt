-- How many digits a number has, and that none is a zero before another.
use Prim.Native.Nat.{ℕ, zero, suc, ◌+◌, ◌/◌, ◌%◌, ◌^◌, ◌<◌, ◌≤◌}
use mathlib.Core.Path.{◌≡◌, refl, ◌∙◌}
use mathlib.Core.List.{[], ◌∷◌, ◌++◌}
use mathlib.Core.Bool.{Bool, true, false, cond}
use native.Mathlib.Nat.{pow-succ'}
use native.Mathlib.Omega.{arith}
use lib.ListN.{length, get_or, length-append, get_or-append}
use lib.Dec.{ltb}
use borrow.Author.Tests.{lt-ltb, le-ltb, ltb-false}
use Rattle.digits.specs.Written.{digits_of, decimal, hex_byte, hex_of}

pub some_digits : (k n : ℕ) → 1 ≤ length (digits_of (suc k) n)
some_digits k n = two (ltb n 10)
  where
    two : (t : Bool) → 1 ≤ length (cond t ((48 + n) ∷ []) (digits_of k (n / 10) ++ (48 + n % 10) ∷ []))
    two true = omega arith
    two false = omega (arith, length-append (digits_of k (n / 10)) ((48 + n % 10) ∷ []))

-- a number below 10 ^ (k + 1) has at most k + 1 digits
pub digits_fit : (K k n : ℕ) → n < 10 ^ suc k → length (digits_of K n) ≤ suc k
digits_fit zero k n h = omega arith
digits_fit (suc K) zero n h = rw (lt-ltb n 10 h) (omega arith)
digits_fit (suc K) (suc k) n h = two (ltb n 10) (digits_fit K k (n / 10) (omega (arith, pow-succ' 10 (suc k))))
  where
    two : (t : Bool) → length (digits_of K (n / 10)) ≤ suc k → length (cond t ((48 + n) ∷ []) (digits_of K (n / 10) ++ (48 + n % 10) ∷ [])) ≤ suc (suc k)
    two true ih = omega arith
    two false ih = omega (arith, length-append (digits_of K (n / 10)) ((48 + n % 10) ∷ []))

-- no zero before another digit
pub head_digit : (k n : ℕ) → 1 ≤ n → n < 10 ^ suc k → get_or (digits_of (suc k) n) 0 0 ≡ 48 → ⊥
head_digit zero n l h = rw (lt-ltb n 10 h) (λ e. omega arith)
head_digit (suc k) n l h = two (ltb n 10) refl (λ g. head_digit k (n / 10) g (omega (arith, pow-succ' 10 (suc k))))
  where
    two : (t : Bool) → ltb n 10 ≡ t → (1 ≤ n / 10 → get_or (digits_of (suc k) (n / 10)) 0 0 ≡ 48 → ⊥)
        → get_or (cond t ((48 + n) ∷ []) (digits_of (suc k) (n / 10) ++ (48 + n % 10) ∷ [])) 0 0 ≡ 48 → ⊥
    two true p ih = λ e. omega arith
    two false p ih = rw (get_or-append (digits_of (suc k) (n / 10)) ((48 + n % 10) ∷ []) 0 0 (some_digits k (n / 10))) (ih (omega (arith, ltb-false n 10 p)))

pub two_digits : (k n : ℕ) → 10 ≤ n → 1 < length (digits_of (suc (suc k)) n)
two_digits k n h = rw (le-ltb n 10 h) (omega (arith, length-append (digits_of (suc k) (n / 10)) ((48 + n % 10) ∷ []), some_digits k (n / 10)))

pub decimal_length : (k n : ℕ) → n < 10 ^ suc k → length (decimal n) ≤ suc k
unfolding decimal
decimal_length k n h = digits_fit 6 k n h

pub decimal_some : (n : ℕ) → 1 ≤ length (decimal n)
unfolding decimal
decimal_some n = some_digits 5 n

pub decimal_head : (n : ℕ) → 1 ≤ n → n < 10 ^ 6 → get_or (decimal n) 0 0 ≡ 48 → ⊥
unfolding decimal
decimal_head n l h = head_digit 5 n l h

pub hex_length : (k n : ℕ) → length (hex_of k n) ≡ k
hex_length zero n = refl
hex_length (suc k) n = length-append (hex_of k (n / 16)) (hex_byte (n % 16) ∷ []) ∙ omega (arith, hex_length k (n / 16))
