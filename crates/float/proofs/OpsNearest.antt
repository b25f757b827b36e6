-- A sum, the fused product and the midpoint are the nearest values to the exact ones: what specs/Results.antt says at finite operands, and no more. Assumes nothing.
use Rattle.std.proofs.Common.{◌*◌, T, pos, ◌+ℤ◌, ◌*ℤ◌}
use lib.Ieee.{Float, Format, binary32, binary64, add}
use lib.Ieee.Scale.{finite}
use Rattle.float.specs.Ops.{fused_at, fused, midpoint}
use Rattle.float.specs.Nearest.{Nearest, top, bottom}
use Rattle.float.proofs.ResultLaws.{finite_add, finite_fused, finite_midpoint}

pub add_nearest : (f : Format) (x y : Float) → T (finite x) → T (finite y)
    → Nearest f (top x *ℤ pos (bottom y) +ℤ top y *ℤ pos (bottom x)) (bottom x * bottom y) (add f x y)
add_nearest f x y p q = (finite_add f x y p q).nearest

-- the product of two finite values and a third, added exactly and rounded once
pub fused_at_nearest : (f : Format) (a b c : Float) → T (finite a) → T (finite b) → T (finite c)
    → Nearest f (top a *ℤ top b *ℤ pos (bottom c) +ℤ top c *ℤ pos (bottom a * bottom b)) (bottom a * bottom b * bottom c) (fused_at f a b c)
fused_at_nearest f a b c p q r = (finite_fused f a b c p q r).nearest

-- `f32::mul_add`: nothing is nearer to a * b + c
pub fused_nearest : (a b c : Float) → T (finite a) → T (finite b) → T (finite c)
    → Nearest binary32 (top a *ℤ top b *ℤ pos (bottom c) +ℤ top c *ℤ pos (bottom a * bottom b)) (bottom a * bottom b * bottom c) (fused a b c)
unfolding fused
fused_nearest = fused_at_nearest binary32

-- the f64 operations of the totals: `f64::mul_add` and `+`
pub fused_nearest_64 : (a b c : Float) → T (finite a) → T (finite b) → T (finite c)
    → Nearest binary64 (top a *ℤ top b *ℤ pos (bottom c) +ℤ top c *ℤ pos (bottom a * bottom b)) (bottom a * bottom b * bottom c) (fused_at binary64 a b c)
fused_nearest_64 = fused_at_nearest binary64

pub add_nearest_64 : (x y : Float) → T (finite x) → T (finite y)
    → Nearest binary64 (top x *ℤ pos (bottom y) +ℤ top y *ℤ pos (bottom x)) (bottom x * bottom y) (add binary64 x y)
add_nearest_64 = add_nearest binary64

-- `f32::midpoint`: nothing is nearer to (a + b) / 2
pub midpoint_nearest : (a b : Float) → T (finite a) → T (finite b)
    → Nearest binary32 (top a *ℤ pos (bottom b) +ℤ top b *ℤ pos (bottom a)) (2 * (bottom a * bottom b)) (midpoint a b)
midpoint_nearest a b p q = (finite_midpoint a b p q).nearest
