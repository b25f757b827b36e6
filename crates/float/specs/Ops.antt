-- The operations that the Rust calls, over lib.Ieee, and the f64 ones of the totals. Definitions only.
-- Each works out its result exactly and rounds it once, but `mul_add`, which rounds twice. What names no format is of f32.
use Rattle.std.specs.Prelude.{ℕ, zero, suc, ◌+◌, ◌*◌, ◌/◌, ◌^◌, true, false, cond, negsuc, ◌+ℤ◌, ◌==◌, nat_le, Float}
use Rattle.std.specs.Float.{Format, nan, inf, fin, binary32}
use Rattle.std.specs.Float.Ieee.{unlike, up, down, size, round, add, mul, lt}

-- the macro `mul_add!`: the product is rounded, then the sum
unfoldable pub mul_add : Float → Float → Float → Float
unfolding add mul
mul_add a b c = add binary32 (mul binary32 a b) c

-- `powi(2)`
unfoldable pub square : Float → Float
unfolding mul
square x = mul binary32 x x

-- a * b exactly, in no format: NaN, infinities and signs as `mul` has them
unfoldable pub product : Float → Float → Float
product nan y = nan
product (inf s) nan = nan
product (inf s) (inf t) = inf (unlike s t)
product (inf s) (fin t n d) = cond (n == 0) nan (inf (unlike s t))
product (fin s m e) nan = nan
product (fin s m e) (inf t) = cond (m == 0) nan (inf (unlike s t))
product (fin s m e) (fin t n d) = fin (unlike s t) (m * n) (e +ℤ d)

-- the method `mul_add` of f32 or f64: a * b + c, rounded once
unfoldable pub fused_at : Format → Float → Float → Float → Float
unfolding product add
fused_at f a b c = add f (product a b) c

-- `f32::mul_add`
unfoldable pub fused : Float → Float → Float → Float
unfolding fused_at
fused a b c = fused_at binary32 a b c

-- x / 2 exactly, in no format
unfoldable pub half : Float → Float
half nan = nan
half (inf s) = inf s
half (fin s m e) = fin s m (e +ℤ negsuc 0)

-- `f32::midpoint`: a / 2 + b / 2, rounded once
unfoldable pub midpoint : Float → Float → Float
unfolding half add
midpoint a b = add binary32 (half a) (half b)

-- the whole part of √n, for an n below 4 ^ k, digit by digit
unfoldable pub isqrt : ℕ → ℕ → ℕ
isqrt zero n = 0
isqrt (suc k) n = let r = 2 * isqrt k (n / 4) in cond (nat_le ((r + 1) * (r + 1)) n) (r + 1) r

-- √n in halves: twice its whole part, and one more where that is not all of it
unfoldable pub halves : ℕ → ℕ
unfolding isqrt size
halves n = let r = isqrt (size n) n in 2 * r + cond (r * r == n) 0 1

-- `f32::sqrt`: the exact root, rounded once. x is n * 2 ^ -150 for a whole number n, so √x is √(n * 4 ^ 32) * 2 ^ -107.
-- Of that root `halves` has 33 digits and a half at least. What it changes below them lies between two neighbours of that
-- length, where neither a value of the format nor a tie between two of them lies, so it changes nothing.
unfoldable pub root : Float → Float
unfolding halves round
root nan = nan
root (inf false) = inf false
root (inf true) = nan
root (fin s zero e) = fin s zero e
root (fin true (suc m) e) = nan
root (fin false (suc m) e) =
    let n = 2 * (suc m * up e * 2 ^ 149 / down e) in
    round binary32 false (halves (n * 4 ^ 32)) (2 * 2 ^ 107)

-- the root of m * 2 ^ k of the format's smallest values, rounded
abbrev pub root_of : ℕ → ℕ → Float
root_of m k = round binary32 false (halves (2 * (m * 2 ^ k) * 4 ^ 32)) (2 ^ 108)

-- `f32::clamp`: the lower end where x is below it, then the upper end where that is above it; a NaN is neither, and stays
abbrev pub at_least : Float → Float → Float
at_least x low = cond (lt x low) low x

abbrev pub at_most : Float → Float → Float
at_most x high = cond (lt high x) high x

unfoldable pub clamp : Float → Float → Float → Float
unfolding lt
clamp x low high = at_most (at_least x low) high
