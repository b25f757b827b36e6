-- Numbers, fields and lines: one digit more, one field more, one line more.
use mathlib.Core.Path.{◌≡◌, refl, sym, ap, ◌∙◌}
use mathlib.Core.List.{List, [], ◌∷◌, ◌++◌, append_assoc, append-nil}
use Prim.Native.Nat.{ℕ, zero, suc, ◌+◌, ◌-◌, ◌/◌, ◌%◌}
use native.Mathlib.Numerals.{add-one}
use native.Mathlib.Omega.{arith}
use Rattle.digits.specs.Written.{decimal, hex_byte, hex_of, joined, ended}
use Rattle.output.specs.Output.{each, numbers_line}

-- ---- numbers

-- a hexadecimal digit more
pub hex_step : (k n : ℕ) → (k ≡ 0 → ⊥) → hex_of k n ≡ hex_of (k - 1) (n / 16) ++ hex_byte (n % 16) ∷ []
hex_step zero n h = absurd (h refl)
hex_step (suc k) n h = let e : suc k - 1 ≡ k = omega arith in rw e

-- ---- fields and lines

module _ {A : Type 0} where
  pub each_more : (f : ℕ → A) (k : ℕ) → each f (k + 1) ≡ each f k ++ f k ∷ []
  unfolding each
  each_more f k = rw add-one

-- each field with a tab before it
abbrev pub tabbed : List (List ℕ) → List ℕ
tabbed [] = []
tabbed (f ∷ fs) = 9 ∷ (f ++ tabbed fs)

joined_tabbed : (f : List ℕ) (fs : List (List ℕ)) → joined (f ∷ fs) ≡ f ++ tabbed fs
joined_tabbed f [] = sym (append-nil f)
joined_tabbed f (g ∷ fs) = ap (λ l. f ++ 9 ∷ l) (joined_tabbed g fs)

pub tabbed_more : (fs : List (List ℕ)) (g : List ℕ) → tabbed (fs ++ g ∷ []) ≡ tabbed fs ++ 9 ∷ g
tabbed_more [] g = ap (λ l. 9 ∷ l) (append-nil g)
tabbed_more (f ∷ fs) g = ap (λ l. 9 ∷ (f ++ l)) (tabbed_more fs g) ∙ ap (λ l. 9 ∷ l) (sym (append_assoc f (tabbed fs) (9 ∷ g)))

-- in a loop over the fields
pub fields_more : (f : ℕ → List ℕ) (x : ℕ) → tabbed (each f x) ++ 9 ∷ f x ≡ tabbed (each f (x + 1))
fields_more f x = sym (ap tabbed (each_more f x) ∙ tabbed_more (each f x) (f x))

-- a letter, the fields and the line's end
pub row_text : (letter : ℕ) (fs : List (List ℕ)) → ((letter ∷ []) ++ tabbed fs) ++ 10 ∷ [] ≡ ended (joined ((letter ∷ []) ∷ fs) ∷ [])
row_text letter fs = rw (joined_tabbed (letter ∷ []) fs)

pub totals-text : (a b : ℕ) (s t : List ℕ)
    → ((numbers_line 84 a b ++ 9 ∷ s) ++ 9 ∷ t) ++ 10 ∷ [] ≡ ended (joined ((84 ∷ []) ∷ decimal a ∷ decimal b ∷ s ∷ t ∷ []) ∷ [])
totals-text a b s t =
    ap (λ l. 84 ∷ (9 ∷ (l ++ 10 ∷ [])))
    (append_assoc (decimal a ++ 9 ∷ decimal b) (9 ∷ s) (9 ∷ t) ∙ append_assoc (decimal a) (9 ∷ decimal b) (9 ∷ (s ++ 9 ∷ t)))

-- at the end of the loop
pub row_done : (f : ℕ → List ℕ) (x n : ℕ) → x ≡ n → ((82 ∷ []) ++ tabbed (each f x)) ++ 10 ∷ [] ≡ ended (joined ((82 ∷ []) ∷ each f n) ∷ [])
row_done f x n e = rw e (row_text 82 (each f n))

pub ended_more : (ls : List (List ℕ)) (l : List ℕ) → ended (ls ++ l ∷ []) ≡ ended ls ++ ended (l ∷ [])
ended_more [] l = refl
ended_more (k ∷ ls) l = ap (λ t. k ++ 10 ∷ t) (ended_more ls l) ∙ sym (append_assoc k (10 ∷ ended ls) (ended (l ∷ [])))

-- in a loop over the lines
pub lines_more : (f : ℕ → List ℕ) (y : ℕ) → ended (each f y) ++ ended (f y ∷ []) ≡ ended (each f (y + 1))
lines_more f y = sym (ap ended (each_more f y) ∙ ended_more (each f y) (f y))

-- at the end of the loop
pub lines_done : (l : List ℕ) (f : ℕ → List ℕ) (y n : ℕ) → y ≡ n → ended (l ∷ []) ++ ended (each f y) ≡ ended (l ∷ each f n)
lines_done l f y n e = rw e (append_assoc l (10 ∷ []) (ended (each f n)))
