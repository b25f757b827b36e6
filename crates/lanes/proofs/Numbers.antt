-- A sum of a product of finite values is no NaN. Assumes nothing.
use mathlib.Core.Bool.{Bool, true, false, not, cond, beq, ◌&&◌}
use Prim.Native.Nat.{ℕ, zero, suc, ◌^◌, ◌+◌, ◌-◌, ◌*◌, ◌/◌, ◌%◌, compare}
use lib.Dec.{T, ltb}
use lib.Ieee.{Float, Format, nan, inf, fin, prec, low, emax, up, down, unlike, odd, size, nearest, units, round, add, mul, sum, is_nan}
use lib.Ieee.Scale.{finite}

abbrev Number : Float → Type 0
Number x = T (not (is_nan x))

cond_number : (b : Bool) (x y : Float) → Number x → Number y → Number (cond b x y)
cond_number true x y h k = h
cond_number false x y h k = k

odd_number : (d : ℕ) (s : Bool) (q k l : ℕ) → Number (odd d s q k l)
unfolding odd is_nan
odd_number d s zero k l = tt
odd_number d s (suc q) k l = tt

inf_number : (s : Bool) → Number (inf s)
unfolding is_nan
inf_number s = tt

units_number : (f : Format) (s : Bool) (q k : ℕ) → Number (units f s q k)
unfolding units
units_number f s q k = cond_number (ltb (q * 2 ^ k) (2 ^ (low f + suc (emax f)))) (odd (suc (prec f)) s q k (low f)) (inf s) (odd_number (suc (prec f)) s q k (low f)) (inf_number s)

round_number : (f : Format) (s : Bool) (n d : ℕ) → Number (round f s n d)
unfolding round
round_number f s n d =
    let w = n * 2 ^ low f in
    let k = size (w / d) - prec f in
    let u = d * 2 ^ k in
    units_number f s (nearest (w / u) (compare (w % u * 2) u)) k

sum_number : (f : Format) (s : Bool) (a : ℕ) (t : Bool) (b c : ℕ) → Number (sum f s a t b c)
unfolding sum
sum_number f s a t b c =
    cond_number (beq s t) (round f s (a + b) c) _ (round_number f s (a + b) c)
    (cond_number (ltb a b) (round f t (b - a) c) (round f (s && ltb b a) (a - b) c) (round_number f t (b - a) c) (round_number f (s && ltb b a) (a - b) c))

add_number : (f : Format) (x y : Float) → Number x → T (finite y) → Number (add f x y)
unfolding add is_nan
add_number f nan y h k = h
add_number f (inf s) nan h k = k
add_number f (inf s) (inf t) h k = absurd k
add_number f (inf s) (fin t n d) h k = tt
add_number f (fin s m e) nan h k = k
add_number f (fin s m e) (inf t) h k = tt
add_number f (fin s m e) (fin t n d) h k = sum_number f s (m * up e * down d) t (n * up d * down e) (down e * down d)

mul_number : (f : Format) (x y : Float) → T (finite x) → T (finite y) → Number (mul f x y)
unfolding mul
mul_number f nan y h k = absurd h
mul_number f (inf s) y h k = absurd h
mul_number f (fin s m e) nan h k = absurd k
mul_number f (fin s m e) (inf t) h k = absurd k
mul_number f (fin s m e) (fin t n d) h k = round_number f (unlike s t) (m * up e * (n * up d)) (down e * down d)

pub fused_number : (f : Format) (a b c : Float) → T (finite a) → T (finite b) → T (finite c) → Number (add f (mul f a b) c)
fused_number f a b c h k l = add_number f (mul f a b) c (mul_number f a b h k) l
