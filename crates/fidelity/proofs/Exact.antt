-- The half sum of two levels of 16 bits times a quantiser of 8 bits has at most 24 digits. So that product is exact in f32, and the fused
-- product with a summand is the product and then the sum.
use mathlib.Core.Path.{◌≡◌, ap, subst}
use mathlib.Core.Bool.{Bool, true, false, not}
use Prim.Native.Nat.{ℕ, ◌*◌, ◌^◌, ◌≤◌, ◌<◌}
use native.Mathlib.Nat.{mul-le-mul_right, mul-le-mul_left}
use native.Mathlib.Omega.{arith}
use lib.Dec.{lit<}
use lib.IntN.{ℤ, pos, nat_abs, ◌+ℤ◌}
use lib.Ieee.{Float, nan, inf, fin, binary32, unlike, neg, add, mul, div, of_bits, of_int}
use lib.Ieee.Exact.{HasValue}
use Rattle.float.specs.Ops.{product, fused, fused_at, square}
use Rattle.float.specs.Names.{float}
use Rattle.float.proofs.Values.{product_value, rescale}
use Rattle.float.proofs.Wider.{add_same, mul_value}
use Rattle.interval.specs.Interval.{mid}
use Rattle.interval.proofs.Ends.{Halves, exact_f½, half_bits, int_halves, is_neg}
use Rattle.fidelity.specs.DctGradient.{cosb_of}
use Rattle.interval.proofs.HalfSum.{mid_halves, size_most}

neg_value : (x : Float) (s : Bool) (a c : ℕ) → HasValue x s a c → HasValue (neg x) (not s) a c
unfolding neg
neg_value nan s a c h = h
neg_value (inf t) s a c h = h
neg_value (fin t m e) s a c h = (ap not h.0, h.1)

-- a product of ±k / 2 and ±q that has at most 24 digits
module _ (x y c : Float) (s t : Bool) (k q : ℕ) (v : Halves x s k) (w : Halves y t (q * 2)) (few : k * q < 2 ^ 24) where
  by_halves : HasValue (product x y) (unlike s t) (k * (q * 2)) 4
  by_halves = product_value x y s t k (q * 2) 2 2 v w

  rounded : Halves (mul binary32 x y) (unlike s t) (k * q)
  rounded =
      rw (mul_value binary32 x y s t k (q * 2) 2 2 (lit< tt) (lit< tt) v w) (exact_f½ (unlike s t) (k * (q * 2)) 4 (k * q) (lit< tt) few (omega arith))

  pub fused_exact : fused x y c ≡ add binary32 (mul binary32 x y) c
  unfolding fused fused_at
  fused_exact =
      let e : k * q * 2 ≡ k * (q * 2) = omega arith in
      add_same binary32 (product x y) (mul binary32 x y) c (unlike s t) (k * (q * 2)) 4 (lit< tt) by_halves
      (subst (λ (n : ℕ). HasValue (mul binary32 x y) (unlike s t) n 4) e (rescale (mul binary32 x y) (unlike s t) (k * q) 2 2 rounded))

pub mid_fused : (low high : ℤ) (q : ℕ) (c : Float) → nat_abs low ≤ 32768 → nat_abs high ≤ 32768 → q ≤ 255
    → fused (mid low high) (neg (float q)) c ≡ add binary32 (mul binary32 (mid low high) (neg (float q))) c
mid_fused low high q c h g l =
    let k = nat_abs (low +ℤ high) in
    let most : k ≤ 65536 = omega (arith, size_most low high) in
    let few : k * q < 2 ^ 24 = omega (arith, mul-le-mul_right q most, mul-le-mul_left 65536 l) in
    fused_exact (mid low high) (neg (float q)) c (is_neg (low +ℤ high)) true k q (mid_halves low high h g)
    (neg_value (float q) false (q * 2) 2 (int_halves (pos q) (omega arith))) few

-- one lane of `cosb_lanes`
pub cosb_lane : (low high : ℤ) (q : ℕ) (c : Float) → nat_abs low ≤ 32768 → nat_abs high ≤ 32768 → q ≤ 255
    → div binary32 (add binary32 (mul binary32 (mul binary32 (add binary32 (of_int binary32 low) (of_int binary32 high)) (of_bits binary32 1056964608)) (neg (float q))) c) (mul binary32 (float q) (float q))
    ≡ cosb_of (mid low high) q c
unfolding cosb_of square mid
cosb_lane low high q c h g l = rw (half_bits, mid_fused low high q c h g l)
