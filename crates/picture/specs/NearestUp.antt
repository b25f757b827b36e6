-- What "the nearest whole number, halves upward" means, in whole numbers alone.
use Rattle.std.specs.Prelude.{◌≡◌, ◌≢◌, ℕ, ◌*◌, ◌^◌, ◌≤◌, Bool, IsTrue, Float}
use Rattle.std.specs.Float.{nan, binary32}
use Rattle.std.specs.Float.Ieee.{fits}
use Rattle.std.specs.Float.Ieee.Exact.{HasValue}
use Rattle.float.specs.Names.{f0, f255}
use Rattle.float.specs.Nearest.{gap}
use Rattle.float.specs.Ops.{clamp}
use Rattle.picture.specs.declared.Rounding.TheVariants as rounding
use Rattle.picture.specs.Finish.{to_byte, shade}

-- v is n of f32's smallest values, of which 2 ^ 149 make 1; where it is no number below 0, its sign s can be that of -0 only.
-- No whole number lies nearer to v than r does, and none above r lies as near.
pub record NearestUp (v : Float) (r : ℕ) : Type 0 where
  pub s : Bool
  pub n : ℕ
  pub is : HasValue v s n (2 ^ 149)
  pub near : (k : ℕ) → gap n (r * 2 ^ 149) ≤ gap n (k * 2 ^ 149)
  pub upward : (k : ℕ) → gap n (r * 2 ^ 149) ≡ gap n (k * 2 ^ 149) → k ≤ r

-- A rounded colour is the nearest whole number of its value clamped to 0 to 255: of every f32, the infinities included, but NaN.
abbrev pub ShadesAreNearest : Type 0
ShadesAreNearest = (x : Float) → IsTrue (fits binary32 x) → x ≢ nan → NearestUp (clamp x f0 f255) (shade (to_byte rounding.Nearest) x)
