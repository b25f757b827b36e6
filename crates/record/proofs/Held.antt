-- When a channel of the struct is held (M-108).
use mathlib.Core.Path.{◌≡◌, sym}
use mathlib.Core.Bool.{Bool, false, ◌&&◌}
use mathlib.Core.List.{[], ◌∷◌}
use Prim.Native.Nat.{ℕ, zero, suc, ◌≤◌}
use native.Mathlib.Omega.{arith}
use lib.Dec.{leb}
use lib.ListN.{get_or}
use borrow.Author.Tests.{le-ltb}
use Rattle.calls.specs.Run.{own, held}
use Rattle.record.specs.Model.{sheet_of}
use Rattle.record.specs.declared.Run.{Run}

pub held_absent : (r : Run) (c step : ℕ) → r.count ≤ c → false ≡ held (sheet_of r) c step
held_absent r c step h = λ i. sym (le-ltb c r.count h) i && leb (own (sheet_of r) c).held step

-- three flags tell of every channel
pub flags_are : (r : Run) → r.count ≤ 3 → (step : ℕ) (x y z : Bool) → x ≡ held (sheet_of r) 0 step → y ≡ held (sheet_of r) 1 step → z ≡ held (sheet_of r) 2 step
    → (c : ℕ) → get_or (x ∷ y ∷ z ∷ []) c false ≡ held (sheet_of r) c step
flags_are r small step x y z a b d zero = a
flags_are r small step x y z a b d (suc zero) = b
flags_are r small step x y z a b d (suc (suc zero)) = d
flags_are r small step x y z a b d (suc (suc (suc c))) = held_absent r (suc (suc (suc c))) step (omega (arith, small))
