-- The clamp and the count of eight lanes, by what a mask holds of each.
use mathlib.Core.Path.{◌≡◌, refl, ap}
use mathlib.Core.Bool.{Bool, true, false, cond, ◌||◌}
use Prim.Native.Nat.{ℕ, ◌+◌, ◌%◌, ◌≤◌}
use native.Mathlib.Omega.{arith}
use Rattle.std.specs.Int.Bits.{bit_or}
use lib.Count.{ones}
use lib.Dec.{lit≤}
use lib.Ieee.{Float, lt}
use lib.Lanes.{mask_l, top}
use Rattle.std.specs.List.{range_with_len}
use Rattle.std.proofs.lemmas.Simd.{mask_l-mod, ones-mask_l}
use Rattle.fold.specs.Fold.{upto}
use Rattle.float.specs.Ops.{clamp}
use Rattle.utils.specs.Lanes.{eight}
use Rattle.projection.specs.Projection.{tally}

-- a lane of a mask: all ones or 0
abbrev pub lane : Bool → ℕ
lane b = cond b 4294967295 0

top_of : (b : Bool) → top 31 (lane b) ≡ b
top_of true = refl
top_of false = refl

pub either : (a b : Bool) → top 31 (bit_or (lane a) (lane b)) ≡ a || b
either true true = refl
either true false = refl
either false true = refl
either false false = refl

pub clamp_lane : (x least most : Float)
    → cond (top 31 (lane (lt most (cond (top 31 (lane (lt x least))) least x)))) most (cond (top 31 (lane (lt x least))) least x) ≡ clamp x least most
unfolding clamp
clamp_lane x least most = rw (top_of (lt x least), top_of (lt most (cond (lt x least) least x)))

one_more : (b : Bool) (n : ℕ) → (tally b n ≡ n + cond b 1 0) × (cond b 1 0 ≤ 1)
one_more true n = (refl, omega arith)
one_more false n = (omega arith, omega arith)

module _ (p : ℕ → Bool) (n : ℕ) where
  abbrev so_far : ℕ → ℕ
  so_far k = upto (λ j m. tally (p j) m) k n

  -- turn by turn
  sums : (so_far 8 ≡ n + (cond (p 0) 1 0 + (cond (p 1) 1 0 + (cond (p 2) 1 0 + (cond (p 3) 1 0 + (cond (p 4) 1 0 + (cond (p 5) 1 0 + (cond (p 6) 1 0 + cond (p 7) 1 0)))))))) × (so_far 8 ≤ n + 8)
  unfolding upto
  sums =
      let a = one_more (p 0) n in
      let b = one_more (p 1) (so_far 1) in
      let c = one_more (p 2) (so_far 2) in
      let d = one_more (p 3) (so_far 3) in
      let e = one_more (p 4) (so_far 4) in
      let f = one_more (p 5) (so_far 5) in
      let g = one_more (p 6) (so_far 6) in
      let h = one_more (p 7) (so_far 7) in
      (omega (arith, a, b, c, d, e, f, g, h), omega (arith, a, b, c, d, e, f, g, h))

  pub few : so_far 8 ≤ n + 8
  few = sums.1

  pub counted : n + ones (mask_l (eight p) % 18446744073709551616) ≡ so_far 8
  counted =
      let mask = mask_l-mod (eight p) 64 (lit≤ tt) in
      let all = ones-mask_l p (range_with_len 0 8) in
      omega (arith, ap ones mask, all, sums.0)
