-- What each operation gives, in the words of IEEE 754 and over either format: where the operands are finite, the exact value
-- rounded once (`Nearest`) and the sign, which a zero has too; where one is a NaN or an infinity, which of these comes out.
use Rattle.std.specs.Prelude.{◌≡◌, ℕ, ◌*◌, ◌<◌, Bool, true, false, not, T, ◌≢◌, ⊤, ◌⊎◌, ℤ, pos, ◌+ℤ◌, ◌*ℤ◌, unsigned_abs, IsTrue, Float}
use Rattle.std.specs.Float.{Format, nan, inf, fin, is_sign_negative}
use Rattle.std.specs.Float.Ieee.{unlike}
use Rattle.std.specs.Float.Ieee.Scale.{finite}
use Rattle.std.specs.Int.{is_positive, is_negative}
use Rattle.float.specs.Nearest.{Nearest, NearestRoot, top, bottom}

-- neither a NaN nor an infinity
abbrev pub IsFinite : Float → Type 0
IsFinite x = T (finite x)

-- an infinity, of either sign
abbrev pub IsInfinite : Float → Type 0
IsInfinite nan = ⊥
IsInfinite (inf s) = ⊤
IsInfinite (fin s m e) = ⊥

-- a zero, of either sign
abbrev pub IsZero : Float → Type 0
IsZero nan = ⊥
IsZero (inf s) = ⊥
IsZero (fin s m e) = m ≡ 0

-- finite, and above 0
abbrev pub IsAboveZero : Float → Type 0
IsAboveZero nan = ⊥
IsAboveZero (inf s) = ⊥
IsAboveZero (fin s m e) = (s ≡ false) × (0 < m)

-- finite or not, and below 0
abbrev pub IsBelowZero : Float → Type 0
IsBelowZero nan = ⊥
IsBelowZero (inf s) = s ≡ true
IsBelowZero (fin s m e) = (s ≡ true) × (0 < m)

-- the exact x + y as a fraction
abbrev pub sum_top : Float → Float → ℤ
sum_top x y = top x *ℤ pos (bottom y) +ℤ top y *ℤ pos (bottom x)

abbrev pub sum_bottom : Float → Float → ℕ
sum_bottom x y = bottom x * bottom y

-- the exact a * b + c as a fraction
abbrev pub fused_top : Float → Float → Float → ℤ
fused_top a b c = top a *ℤ top b *ℤ pos (bottom c) +ℤ top c *ℤ pos (bottom a * bottom b)

abbrev pub fused_bottom : Float → Float → Float → ℕ
fused_bottom a b c = bottom a * bottom b * bottom c

-- the sign of an exact product
abbrev pub product_sign : Float → Float → Bool
product_sign x y = unlike (is_sign_negative x) (is_sign_negative y)

-- r is z / c rounded once, z / c being the sum of a term with the sign s and one with the sign t (true is minus). r has the sign
-- of the exact value, also where it is rounded to a zero; an exact sum of 0 is +0, but for two zeros of one sign, which keep it.
pub record RoundedSum (f : Format) (z : ℤ) (c : ℕ) (s t : Bool) (r : Float) : Type 0 where
  pub nearest : Nearest f z c r
  pub above : IsTrue (is_positive z) → is_sign_negative r ≡ false
  pub below : IsTrue (is_negative z) → is_sign_negative r ≡ true
  pub alike : z ≡ pos 0 → s ≡ t → is_sign_negative r ≡ s
  pub opposed : z ≡ pos 0 → s ≢ t → is_sign_negative r ≡ false

-- x + y where an operand is a NaN or an infinity: a NaN stays, infinities of unlike sign give the NaN, any other infinity stays
pub record SpecialSum (x y r : Float) : Type 0 where
  pub nan_first : x ≡ nan → r ≡ nan
  pub nan_second : y ≡ nan → r ≡ nan
  pub opposed : (s : Bool) → x ≡ inf s → y ≡ inf (not s) → r ≡ nan
  pub first : (s : Bool) → x ≡ inf s → y ≢ nan → y ≢ inf (not s) → r ≡ inf s
  pub second : (s : Bool) → y ≡ inf s → x ≢ nan → x ≢ inf (not s) → r ≡ inf s

-- r is x + y, rounded once
pub record IsSum (f : Format) (x y r : Float) : Type 0 where
  pub rounded : IsFinite x → IsFinite y → RoundedSum f (sum_top x y) (sum_bottom x y) (is_sign_negative x) (is_sign_negative y) r
  pub special : SpecialSum x y r

-- r is (a + b) / 2, rounded once
pub record IsMidpoint (f : Format) (a b r : Float) : Type 0 where
  pub rounded : IsFinite a → IsFinite b → RoundedSum f (sum_top a b) (2 * sum_bottom a b) (is_sign_negative a) (is_sign_negative b) r
  pub special : SpecialSum a b r

-- x * y is no number: a NaN times anything, or an infinity times 0
abbrev pub NoProduct : Float → Float → Type 0
NoProduct x y = ((x ≡ nan) ⊎ (y ≡ nan)) ⊎ ((IsInfinite x × IsZero y) ⊎ (IsZero x × IsInfinite y))

-- x * y is infinite: an infinity times what is neither 0 nor a NaN
abbrev pub InfiniteProduct : Float → Float → Type 0
InfiniteProduct x y = ((IsInfinite x × ¬ IsZero y) × (y ≢ nan)) ⊎ ((IsInfinite y × ¬ IsZero x) × (x ≢ nan))

-- r is x * y, rounded once; a zero has the sign of the exact product
pub record IsProduct (f : Format) (x y r : Float) : Type 0 where
  pub nearest : IsFinite x → IsFinite y → Nearest f (top x *ℤ top y) (bottom x * bottom y) r
  pub sign : IsFinite x → IsFinite y → is_sign_negative r ≡ product_sign x y
  pub none : NoProduct x y → r ≡ nan
  pub infinite : InfiniteProduct x y → r ≡ inf (product_sign x y)

-- r is a * b + c, rounded once
pub record IsFused (f : Format) (a b c r : Float) : Type 0 where
  pub rounded : IsFinite a → IsFinite b → IsFinite c → RoundedSum f (fused_top a b c) (fused_bottom a b c) (product_sign a b) (is_sign_negative c) r
  pub none : NoProduct a b → r ≡ nan
  pub nan_last : c ≡ nan → r ≡ nan
  pub opposed : InfiniteProduct a b → c ≡ inf (not (product_sign a b)) → r ≡ nan
  pub infinite : InfiniteProduct a b → c ≢ nan → c ≢ inf (not (product_sign a b)) → r ≡ inf (product_sign a b)
  pub last : (s : Bool) → IsFinite a → IsFinite b → c ≡ inf s → r ≡ inf s

-- r is √x, rounded once; the root of a zero is itself, and that of a value below 0 no number
pub record IsSquareRoot (f : Format) (x r : Float) : Type 0 where
  pub nearest : IsAboveZero x → NearestRoot f (unsigned_abs (top x)) (bottom x) r
  pub zero : IsZero x → r ≡ x
  pub below : IsBelowZero x → r ≡ nan
  pub none : x ≡ nan → r ≡ nan
  pub infinite : x ≡ inf false → r ≡ inf false
