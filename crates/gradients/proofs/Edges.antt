-- A change unless at an edge, by what the code's tests tell: `x < w - 1` and `x != 0`, and the same of rows.
use Rattle.std.proofs.Common.{◌≡◌, ℕ, Bool, true, false, ◌||◌, List, refl}
use lib.Ieee.{Float}
use Rattle.gradients.specs.Tv.{bump, bump_unless}

module _ (alpha v norm : Float) (k : ℕ) (xs : List Float) where
  pub changed : (e : Bool) {ys : List Float} → e ≡ false → ys ≡ bump alpha v norm k xs → ys ≡ bump_unless e alpha v norm k xs
  unfolding bump_unless
  changed e h i = rw h i

  pub unchanged : (e : Bool) {ys : List Float} → e ≡ true → ys ≡ xs → ys ≡ bump_unless e alpha v norm k xs
  unfolding bump_unless
  unchanged e h i = rw h i

-- at neither of two edges, at the one, at the other
pub at_neither : (a b : Bool) → a ≡ false → b ≡ false → (a || b) ≡ false
at_neither a b h k = rw (h, k)

pub at_one : (a b : Bool) → a ≡ true → (a || b) ≡ true
at_one a b h = rw h

pub at_other : (a b : Bool) → b ≡ true → (a || b) ≡ true
at_other true b h = refl
at_other false b h = h
