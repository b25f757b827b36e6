-- A chain's test of every value of a list, and of any, as a test of the places below a count.
use mathlib.Core.Path.{◌≡◌, refl, sym, ap, ◌∙◌}
use mathlib.Core.Bool.{Bool, true, false, ◌&&◌, ◌||◌}
use mathlib.Core.List.{List, [], ◌∷◌}
use Prim.Native.Nat.{ℕ, zero, suc, ◌<◌, ◌≤◌}
use native.Mathlib.Nat.{le_of_suc-le-suc, not-suc-le-zero}
use native.Mathlib.Numerals.{add-one}
use native.Mathlib.Omega.{arith}
use lib.ListN.{length, get_or, take}
use Rattle.std.specs.List.{list_all, list_any}
use Rattle.calls.specs.Run.{every, among}
use Rattle.calls.specs.Calls.{all}
use Rattle.answers.proofs.Tests.{all_more}

pub every_same : (k : ℕ) {f g : ℕ → Bool} → ((c : ℕ) → c < k → f c ≡ g c) → every k f ≡ every k g
every_same zero h = refl
every_same (suc k) h = λ i. every_same k (λ c l. h c (omega arith)) i && h k (omega arith) i

pub among_same : (k : ℕ) {f g : ℕ → Bool} → ((c : ℕ) → c < k → f c ≡ g c) → among k f ≡ among k g
among_same zero h = refl
among_same (suc k) h = λ i. among_same k (λ c l. h c (omega arith)) i || h k (omega arith) i

or-false : (a : Bool) → (a || false) ≡ a
or-false true = refl
or-false false = refl

or_assoc : (a b c : Bool) → (a || (b || c)) ≡ (a || b || c)
or_assoc true b c = refl
or_assoc false b c = refl

module _ {A : Type 0} (f : A → Bool) where
  module _ (d : A) where
    one_more : (xs : List A) (k : ℕ) → k < length xs → list_any f (take (suc k) xs) ≡ (list_any f (take k xs) || f (get_or xs k d))
    one_more [] k h = absurd (not-suc-le-zero h)
    one_more (x ∷ xs) zero h = or-false (f x)
    one_more (x ∷ xs) (suc k) h = ap (λ (b : Bool). f x || b) (one_more xs k (le_of_suc-le-suc h)) ∙ or_assoc (f x) (list_any f (take k xs)) (f (get_or xs k d))

    -- of the first n values
    pub all_first : (xs : List A) (n : ℕ) → n ≤ length xs → list_all f (take n xs) ≡ every n (λ c. f (get_or xs c d))
    all_first xs n h = sym (go n h)
      where
        go : (n : ℕ) → n ≤ length xs → every n (λ c. f (get_or xs c d)) ≡ all f (take n xs)
        go zero h = refl
        go (suc n) h = all_more f d xs n (omega arith) (go n (omega arith)) refl ∙ ap (λ (m : ℕ). all f (take m xs)) (add-one n)

    pub any_first : (xs : List A) (n : ℕ) → n ≤ length xs → list_any f (take n xs) ≡ among n (λ c. f (get_or xs c d))
    any_first xs zero h = refl
    any_first xs (suc n) h = one_more xs n (omega arith) ∙ ap (λ (b : Bool). b || f (get_or xs n d)) (any_first xs n (omega arith))
