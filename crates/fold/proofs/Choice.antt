-- Laws of flags, and of what they choose.
use mathlib.Core.Path.{◌≡◌, refl}
use mathlib.Core.Bool.{Bool, true, false, cond, ◌||◌, true≢false}
use mathlib.Core.List.{List}
use Prim.Native.Nat.{ℕ}
use lib.ListN.{length}

pub neither : (a b : Bool) → (a || b) ≡ false → (a ≡ false) × (b ≡ false)
neither true b e = absurd (true≢false e)
neither false b e = (refl, e)

-- the length of either of two lists
pub length-cond {ℓ} : {A : Type ℓ} (b : Bool) (x y : List A) (n : ℕ) → length x ≡ n → length y ≡ n → length (cond b x y) ≡ n
length-cond true x y n h k = h
length-cond false x y n h k = k
