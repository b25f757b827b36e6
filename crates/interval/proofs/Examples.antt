-- Document 01's fixed examples of intervals, computed. Assumes nothing.
use mathlib.Core.Path.{◌≡◌, refl}
use mathlib.Core.Bool.{true, false}
use lib.IntN.{pos, negsuc}
use lib.Ieee.{Float, fin, mul, add, sub, of_int, lt}
use lib.Signed.{le_z_yes}
use Rattle.interval.specs.Interval.{InInterval, low_end, high_end, lowest, highest}
use Rattle.float.specs.Ops.{clamp}

-- the float ±m × 2 ^ e in its one way of writing
abbrev eight : Float
eight = fin false 1 (pos 3)

-- the f32 ends, and what the clamp makes of 8 and 8.5
pub ends : (lowest (pos 0) 16 ≡ fin true 1 (pos 3))
    × (highest (pos 0) 16 ≡ eight)
    × (clamp eight (lowest (pos 0) 16) (highest (pos 0) 16) ≡ eight)
    × (clamp (fin false 17 (negsuc 0)) (lowest (pos 0) 16) (highest (pos 0) 16) ≡ eight)
    × (lowest (negsuc 2) 10 ≡ fin true 35 (pos 0))
    × (highest (negsuc 2) 10 ≡ fin true 25 (pos 0))
    × (lowest (pos 2047) 255 ≡ fin false 1043715 (negsuc 0))
    × (highest (pos 2047) 255 ≡ fin false 1044225 (negsuc 0))
unfolding lowest highest clamp mul add sub of_int lt
ends = (refl, refl, refl, refl, refl, refl, refl, refl)

-- twice the exact ends
pub exact : (low_end (pos 0) 16 ≡ negsuc 15)
    × (high_end (pos 0) 16 ≡ pos 16)
    × (low_end (negsuc 2) 10 ≡ negsuc 69)
    × (high_end (negsuc 2) 10 ≡ negsuc 49)
    × (low_end (pos 2047) 255 ≡ pos 1043715)
    × (high_end (pos 2047) 255 ≡ pos 1044225)
exact = (refl, refl, refl, refl, refl, refl)

-- the exact interval of d 0 and q 16 holds −8 and 8, and not 8.5
pub holds : InInterval (pos 0) (pos 0) 16 (fin true 1 (pos 3))
    × InInterval (pos 0) (pos 0) 16 eight
    × (InInterval (pos 0) (pos 0) 16 (fin false 17 (negsuc 0)) → ⊥)
unfolding InInterval
holds = ((le_z_yes tt, le_z_yes tt), (le_z_yes tt, le_z_yes tt), λ h. h.1.le)
