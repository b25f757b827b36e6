-- A level's range, and which sums and differences fit.
use mathlib.Core.Path.{◌≡◌, refl, sym}
use mathlib.Core.Bool.{Bool, true, false, cond}
use mathlib.Core.List.{List}
use Prim.Native.Nat.{ℕ, zero, suc, ◌+◌, ◌-◌, ◌%◌, ◌<◌, ◌≤◌}
use native.Mathlib.Omega.{arith}
use lib.Dec.{ltb, eqb}
use lib.IntN.{ℤ, pos, negsuc, neg_ℤ, ◌+ℤ◌, ◌-ℤ◌}
use lib.ListN.{length}
use lib.Signed.{mag}
use mir.Syntax.{w16}
use mir.Val.{SFits}
use borrow.Author.Rules.{sfits_of}
use borrow.Author.Tests.{leb-true, eqb-true}
use Rattle.answers.specs.Tests.{all, level_ok}
use Rattle.answers.proofs.Tests.{all-at, and_left, and_right}
use Rattle.archive.specs.Archive.{before, fitting, val}

level_mag : (d : ℤ) → level_ok d ≡ true → mag d < 2048
level_mag (pos n) h = omega (arith, leb-true n 2047 h)
level_mag (negsuc n) h = omega (arith, leb-true (suc n) 2047 h)

neg_ok : (d : ℤ) → level_ok d ≡ true → level_ok (neg_ℤ d) ≡ true
neg_ok (pos zero) h = h
neg_ok (pos (suc n)) h = h
neg_ok (negsuc n) h = h

sub_mag : (t : Bool) (a b n : ℕ) → a < n → b ≤ n → mag (cond t (negsuc (b - suc a)) (pos (a - b))) < n
sub_mag true a b n h k = omega arith
sub_mag false a b n h k = omega arith

sum_mag : (a b : ℤ) {m n : ℕ} → mag a < m → mag b < n → mag (a +ℤ b) < m + n
sum_mag (pos a) (pos b) h k = omega arith
sum_mag (pos a) (negsuc b) {m} {n} h k = sub_mag (ltb a (suc b)) a (suc b) (m + n) (omega arith) (omega arith)
sum_mag (negsuc a) (pos b) {m} {n} h k = sub_mag (ltb b (suc a)) b (suc a) (m + n) (omega arith) (omega arith)
sum_mag (negsuc a) (negsuc b) h k = omega arith

pub level_fits : (d : ℤ) → level_ok d ≡ true → SFits w16 d
level_fits d h = sfits_of (omega (arith, level_mag d h))

-- the difference of two levels
pub difference_fits : (a b : ℤ) → level_ok a ≡ true → level_ok b ≡ true → SFits w16 (a -ℤ b)
difference_fits a b h k = sfits_of (omega (arith, sum_mag a (neg_ℤ b) (level_mag a h) (level_mag (neg_ℤ b) (neg_ok b k))))

-- the level that a difference is taken from is a level
pub before_ok : (levels : List ℤ) (k : ℕ) → all level_ok levels ≡ true → k < length levels → level_ok (before levels k) ≡ true
before_ok levels k h l = either (ltb k 64)
  where
    either : (t : Bool) → level_ok (cond t (pos 0) (val levels (k - 64))) ≡ true
    either true = refl
    either false = all-at level_ok (pos 0) levels h (k - 64) (omega arith)

-- of two levels either is one
pub after_ok : (t : Bool) (a b : ℤ) → level_ok a ≡ true → level_ok b ≡ true → level_ok (cond t a b) ≡ true
after_ok true a b h k = h
after_ok false a b h k = k

-- what the test of the lengths has told
pub fits : (n m : ℕ) → fitting n m ≡ true → (m ≡ n) × (n % 64 ≡ 0)
fits n m e =
    (sym (eqb-true n m (and_left (eqb n m) (eqb (n % 64) 0) e)), eqb-true (n % 64) 0 (and_right (eqb n m) (eqb (n % 64) 0) e))

-- what the archive has at the first place of a block
pub stored_fits : (levels : List ℤ) (k : ℕ) → all level_ok levels ≡ true → k < length levels → SFits w16 (val levels k -ℤ before levels k)
stored_fits levels k h l = difference_fits (val levels k) (before levels k) (all-at level_ok (pos 0) levels h k l) (before_ok levels k h l)
