-- A test of every value of a list, one value more at a time; what tests have told; the first of tests listed by places; and a level's range.
use mathlib.Core.Path.{◌≡◌, refl, sym, ap, ◌∙◌, subst}
use mathlib.Core.Bool.{Bool, true, false, not, ◌&&◌}
use mathlib.Core.List.{List, [], ◌∷◌}
use Prim.Native.Nat.{ℕ, zero, suc, ◌+◌, ◌<◌, ◌≤◌, zero-le, suc-le-suc}
use native.Mathlib.Nat.{le_of_suc-le-suc, not-suc-le-zero}
use native.Mathlib.Omega.{arith}
use lib.Dec.{T, leb, leb-suc-suc}
use lib.IntN.{ℤ, pos, negsuc}
use lib.ListN.{length, get_or, take}
use lib.Seq.{take_all}
use Rattle.std.proofs.lemmas.List.Folds.{list_all_more}
use Rattle.std.proofs.Math.Bool.{and-true, and_assoc}
use Rattle.std.specs.List.{fold}
use lib.Signed.{le_z}
use Rattle.answers.specs.Tests.{Tests, first, test, all, level_ok}
use Rattle.answers.specs.Lists.{listed}

pub and_left : (a b : Bool) → (a && b) ≡ true → a ≡ true
and_left true b e = refl
and_left false b e = e

pub and_right : (a b : Bool) → (a && b) ≡ true → b ≡ true
and_right true b e = e
and_right false b e = absurd (subst T (sym e) tt)

module _ {A : Type 0} (f : A → Bool) (d : A) where
  -- one value more, at the code's `k + 1`
  pub all_more : (xs : List A) (k : ℕ) {b t : Bool} → k < length xs → b ≡ all f (take k xs) → t ≡ f (get_or xs k d) → (b && t) ≡ all f (take (k + 1) xs)
  all_more xs k h e g = rw (e, g) (sym (list_all_more f xs k d h))

  -- all of them
  pub all_end : (xs : List A) (k : ℕ) {b : Bool} → length xs ≤ k → b ≡ all f (take k xs) → b ≡ all f xs
  all_end xs k h e = e ∙ ap (all f) (take_all k xs h)

  -- what passed everywhere passed at k
  pub all-at : (xs : List A) → all f xs ≡ true → (k : ℕ) → k < length xs → f (get_or xs k d) ≡ true
  all-at [] t k h = absurd (not-suc-le-zero h)
  all-at (x ∷ xs) t zero h = and_left (f x) (all f xs) t
  all-at (x ∷ xs) t (suc k) h = all-at xs (and_right (f x) (all f xs) t) k (le_of_suc-le-suc h)

  -- and back
  pub all_of : (xs : List A) → ((k : ℕ) → k < length xs → f (get_or xs k d) ≡ true) → all f xs ≡ true
  all_of [] h = refl
  all_of (x ∷ xs) h = rw (h zero (suc-le-suc zero-le)) (all_of xs (λ k l. h (suc k) (suc-le-suc l)))

module _ {A : Type 0} (f : A → Bool) where
  -- all of them, by a fold that looks at every value
  pub all_fold : (b : Bool) (xs : List A) → fold (λ c x. c && f x) b xs ≡ (b && all f xs)
  all_fold b [] = sym (and-true b)
  all_fold b (x ∷ xs) = all_fold (b && f x) xs ∙ and_assoc b (f x) (all f xs)

-- ---- refusals that were not given

pub holds : (n : ℕ) (b : Bool) → test (suc n) (not b) ≡ 0 → b ≡ true
holds n true e = refl
holds n false e = absurd (omega arith)

abbrev pub Passed : Tests → Type 0
Passed [] = Unit {0}
Passed (t ∷ ts) = (t ≡ 0) × Passed ts

pub passed_of : (ts : Tests) → first ts ≡ 0 → Passed ts
passed_of [] e = tt
passed_of (zero ∷ ts) e = (refl, passed_of ts e)
passed_of (suc n ∷ ts) e = absurd (omega arith)

-- ---- tests listed by their places

pub first_one : (t : ℕ) → first (t ∷ []) ≡ t
first_one zero = refl
first_one (suc t) = refl

given : (v : ℕ) (ts : Tests) → 1 ≤ v → first (v ∷ ts) ≡ v
given zero ts h = absurd (omega arith)
given (suc v) ts h = refl

-- the first that gives a number
pub first_listed : (f : ℕ → ℕ) (n t : ℕ) → t < n → ((k : ℕ) → k < t → f k ≡ 0) → 1 ≤ f t → first (listed f n) ≡ f t
unfolding listed
first_listed f zero t h e g = absurd (not-suc-le-zero h)
first_listed f (suc n) zero h e g = given (f zero) (listed (λ k. f (suc k)) n) g
first_listed f (suc n) (suc t) h e g =
    rw (e zero (suc-le-suc zero-le)) (first_listed (λ k. f (suc k)) n t (le_of_suc-le-suc h) (λ k l. e (suc k) (suc-le-suc l)) g)

-- no test of them gives a number
pub each_listed : (f : ℕ → ℕ) (n : ℕ) → Passed (listed f n) → (k : ℕ) → k < n → f k ≡ 0
unfolding listed
each_listed f zero p k h = absurd (not-suc-le-zero h)
each_listed f (suc n) p zero h = p.0
each_listed f (suc n) p (suc k) h = each_listed (λ j. f (suc j)) n p.1 k (le_of_suc-le-suc h)

pub none_listed : (f : ℕ → ℕ) (n : ℕ) → ((k : ℕ) → k < n → f k ≡ 0) → first (listed f n) ≡ 0
unfolding listed
none_listed f zero h = refl
none_listed f (suc n) h = rw (h zero (suc-le-suc zero-le)) (none_listed (λ j. f (suc j)) n (λ k l. h (suc k) (suc-le-suc l)))

-- ---- a level's range, as the code tests it

pub level_range : (d : ℤ) → (le_z (negsuc 2046) d && le_z d (pos 2047)) ≡ level_ok d
level_range (pos n) = refl
level_range (negsuc n) = whole (leb n 2046) ∙ sym (leb-suc-suc n 2046)
  where
    whole : (a : Bool) → (a && true) ≡ a
    whole true = refl
    whole false = refl
