-- Each operation's result is a value that its format holds. Assumes nothing.
use Rattle.std.proofs.Common.{zero, suc, ◌*◌, ◌/◌, ◌^◌, true, false, T}
use lib.Ieee.{Float, Format, nan, inf, fin, binary32, up, down, mul, fits, lt}
use lib.Ieee.Fits.{add-fits, mul-fits, round-fits, nan-fits, cond-fits}
use Rattle.float.specs.Ops.{mul_add, square, product, fused_at, fused, half, midpoint, halves, root, clamp, at_least}

pub mul_add_fits : (a b c : Float) → T (fits binary32 (mul_add a b c))
unfolding mul_add
mul_add_fits a b c = add-fits binary32 (mul binary32 a b) c

pub square_fits : (x : Float) → T (fits binary32 (square x))
unfolding square
square_fits x = mul-fits binary32 x x

pub fused_at_fits : (f : Format) (a b c : Float) → T (fits f (fused_at f a b c))
unfolding fused_at
fused_at_fits f a b c = add-fits f (product a b) c

pub fused_fits : (a b c : Float) → T (fits binary32 (fused a b c))
unfolding fused
fused_fits = fused_at_fits binary32

pub midpoint_fits : (a b : Float) → T (fits binary32 (midpoint a b))
unfolding midpoint
midpoint_fits a b = add-fits binary32 (half a) (half b)

-- a zero comes back as it is
pub root_fits : (x : Float) → T (fits binary32 x) → T (fits binary32 (root x))
unfolding root
root_fits nan t = t
root_fits (inf false) t = t
root_fits (inf true) t = nan-fits binary32
root_fits (fin s zero e) t = t
root_fits (fin true (suc m) e) t = nan-fits binary32
root_fits (fin false (suc m) e) t = round-fits binary32 false (halves (2 * (suc m * up e * 2 ^ 149 / down e) * 4 ^ 32)) (2 * 2 ^ 107)

pub clamp_fits : (x low high : Float) → T (fits binary32 x) → T (fits binary32 low) → T (fits binary32 high) → T (fits binary32 (clamp x low high))
unfolding clamp
clamp_fits x low high t l h = cond-fits binary32 (lt high (at_least x low)) high (at_least x low) h (cond-fits binary32 (lt x low) low x l t)
