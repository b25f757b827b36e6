-- The held counts channel by channel, as the code goes over them.
use Prim.Native.Nat.{ℕ, zero, suc, ◌+◌}
use mathlib.Core.Path.{◌≡◌, refl, ap, ◌∙◌}
use mathlib.Core.Bool.{Bool, true, false, ◌&&◌}
use native.Mathlib.Omega.{arith}
use lib.Dec.{eqb}
use Rattle.std.specs.List.{list_all, range_with_len}
use Rattle.contents.specs.declared.Sheet.{Sheet}
use Rattle.contents.specs.Hold.{hold_at}
use Rattle.seam.specs.Seam.{same_holds}

-- one number more at the end
more : (f : ℕ → Bool) (a n m : ℕ) → a + n ≡ m → list_all f (range_with_len a (suc n)) ≡ (list_all f (range_with_len a n) && f m)
more f a zero m e = only (f a) ∙ ap f {x = a} {y = m} (omega arith)
  where
    only : (b : Bool) → (b && true) ≡ b
    only true = refl
    only false = refl
more f a (suc n) m e = ap (λ (b : Bool). f a && b) (more f (a + 1) n m (omega arith)) ∙ and_assoc (f a) (list_all f (range_with_len (a + 1) n)) (f m)
  where
    and_assoc : (b c d : Bool) → (b && (c && d)) ≡ ((b && c) && d)
    and_assoc true c d = refl
    and_assoc false c d = refl

pub holds_are : (s t : Sheet) (n : ℕ) → list_all (λ c. eqb (hold_at s c) (hold_at t c)) (range_with_len 0 n) ≡ same_holds n s t
holds_are s t zero = refl
holds_are s t (suc n) = more (λ c. eqb (hold_at s c) (hold_at t c)) 0 n n (omega arith) ∙ ap (λ (b : Bool). b && eqb (hold_at s n) (hold_at t n)) (holds_are s t n)
