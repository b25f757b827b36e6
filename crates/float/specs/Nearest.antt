-- What "rounded once" means (IEEE 754, nearest even): of the values that the format holds, the
-- one nearest to the exact one, and of two that are equally near the even one. Stated with whole numbers, over either format.
use Rattle.std.specs.Prelude.{◌≡◌, ℕ, ◌+◌, ◌-◌, ◌*◌, ◌%◌, ◌^◌, ◌<◌, ◌≤◌, Bool, true, false, ◌≢◌, ℤ, pos, ◌-ℤ◌, ◌*ℤ◌, neg_ℤ, unsigned_abs, Float}
use Rattle.std.specs.Float.{Format, nan, inf, fin}
use Rattle.std.specs.Float.Ieee.{prec, low, up, down}
use Rattle.std.specs.Float.Ieee.Exact.{HasValue}
use Rattle.std.specs.Float.Ieee.Scale.{overflow}

-- ±n
abbrev pub signed : Bool → ℕ → ℤ
signed false n = pos n
signed true n = neg_ℤ (pos n)

-- a finite value as the fraction top x / bottom x
abbrev pub top : Float → ℤ
top nan = pos 0
top (inf s) = pos 0
top (fin s m e) = signed s (m * up e)

abbrev pub bottom : Float → ℕ
bottom nan = 1
bottom (inf s) = 1
bottom (fin s m e) = down e

-- m of the format's smallest values are q * 2 ^ j of them, with a q of no more digits than a significand has. Below `overflow f` these are
-- the values that the format holds; above, those that it would hold if its exponents had no upper end.
pub record Held (f : Format) (m : ℕ) : Type 0 where
  pub q : ℕ
  pub j : ℕ
  pub few : q < 2 ^ prec f
  pub is : m ≡ q * 2 ^ j

-- c times the distance of z / c from k of the format's smallest values, counted in these
abbrev pub away : Format → ℤ → ℕ → ℤ → ℕ
away f z c k = unsigned_abs (z *ℤ pos (2 ^ low f) -ℤ k *ℤ pos c)

-- r is z / c rounded: ±m smallest values, from `overflow f` on an infinity. None that is held lies nearer, and where another lies as near,
-- m is an even multiple of the step between the two.
pub record Nearest (f : Format) (z : ℤ) (c : ℕ) (r : Float) : Type 0 where
  pub s : Bool
  pub m : ℕ
  pub held : Held f m
  pub is : m < overflow f → HasValue r s m (2 ^ low f)
  pub over : overflow f ≤ m → r ≡ inf s
  pub near : (t : Bool) (k : ℕ) → Held f k → away f z c (signed s m) ≤ away f z c (signed t k)
  pub even : (t : Bool) (k : ℕ) → Held f k → away f z c (signed s m) ≡ away f z c (signed t k) → signed s m ≢ signed t k
      → m % (2 * unsigned_abs (signed s m -ℤ signed t k)) ≡ 0

-- |a - b|
abbrev pub gap : ℕ → ℕ → ℕ
gap a b = a - b + (b - a)

-- r is √(n / c) rounded, said by squares: the middle of m and any other k that is held lies on k's side of the root, and where it is the
-- root itself, m is an even multiple of the step between the two.
pub record NearestRoot (f : Format) (n c : ℕ) (r : Float) : Type 0 where
  pub m : ℕ
  pub held : Held f m
  pub is : HasValue r false m (2 ^ low f)
  pub below : (k : ℕ) → Held f k → k < m → (m + k) * (m + k) * c ≤ 4 * n * 4 ^ low f
  pub above : (k : ℕ) → Held f k → m < k → 4 * n * 4 ^ low f ≤ (m + k) * (m + k) * c
  pub even : (k : ℕ) → Held f k → m ≢ k → (m + k) * (m + k) * c ≡ 4 * n * 4 ^ low f → m % (2 * gap m k) ≡ 0
