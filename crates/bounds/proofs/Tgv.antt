-- The tgv_differences differences of a pixel, and that all three of a channel stand near the norm.
use mathlib.Core.Path.{◌≡◌, refl, sym}
use mathlib.Core.Bool.{Bool, true, false}
use mathlib.Core.List.{List}
use Prim.Native.Nat.{ℕ, suc, ◌+◌, ◌-◌, ◌*◌, ◌^◌, ◌≤◌, ◌<◌}
use native.Mathlib.Nat.{le_of_eq, le_refl, lt_of_lt_of_le, pow-suc}
use native.Mathlib.Omega.{arith}
use lib.Dec.{lit<}
use lib.ListN.{length, replicate, length-set, length-replicate}
use lib.Ieee.{Float, binary32, ne}
use lib.Ieee.Fits.{add-fits}
use Rattle.fold.specs.Fold.{upto}
use Rattle.float.specs.Names.{◌⊗◌, f0, f2}
use Rattle.float.specs.Ops.{mul_add, square, midpoint}
use Rattle.float.proofs.Fit.{midpoint_fits}
use Rattle.gradients.specs.declared.tgv.ChannelSecond.{ChannelSecond}
use Rattle.gradients.specs.Held.{live}
use Rattle.gradients.specs.Tv.{difference, px_idx}
use Rattle.gradients.specs.Tgv.{second_of, tgv_difference, left_edge, top_edge, g2_norm_at, g2_norm_of, tgv_differences, tgv_differences_at}
use Rattle.bounds.proofs.Magnitude.{midpoint_most}
use Rattle.bounds.proofs.Ratio.{Floor, Short}
use Rattle.bounds.proofs.Near.{Near, Over, Twice, near, near_both, twice_more, floor_one, square_zero, sum-zero, over_left, over_right}
use Rattle.bounds.proofs.Good.{Good, AllGood, set_each, replicate_each, zero-good, upto_inv}
use Rattle.bounds.proofs.Powers.{held, twice}
use Rattle.bounds.proofs.Bumps.{live_ok, live_floor, live_over, live_fits, px_in, difference_good, double_floor}

-- ---- the tgv_differences differences at a pixel

abbrev pub ThreeGood : ℕ → ChannelSecond → Type 0
ThreeGood m s = Good (2 ^ m) s.g_xx × Good (2 ^ m) s.g_xy_sym × Good (2 ^ m) s.g_yy

pub record SecondGood (m : ℕ) (d : List ChannelSecond) : Type 0 where
  pub long : length d ≡ 3
  pub good : (c : ℕ) → c < length d → ThreeGood m (second_of d c)

middle_good : (n : ℕ) (x y : Float) → suc n < 277 → Good (2 ^ suc n) x → Good (2 ^ suc n) y → Good (2 ^ suc n) (midpoint x y)
middle_good n x y h g k = (
  midpoint_fits x y,
  midpoint_most (2 ^ suc n) (2 ^ suc n) (2 ^ n) (2 ^ n) (2 ^ suc n) x y (held (suc n) h) (omega (arith, pow-suc 2 n)) (omega (arith, pow-suc 2 n)) (twice n) g.1 k.1,
)

module _ (W H n m : ℕ) (held : ℕ → Bool) (small : m + 8 < 277) (across down : List Float) (across_long : length across ≡ n * (W * H)) (down_long : length down ≡ n * (W * H))
    (a : AllGood (2 ^ m) across) (d : AllGood (2 ^ m) down) (y x : ℕ) (y-in : y < H) (x_in : x < W) where
  -- a difference of two places of pixel columns and rows within the plane
  apart : (xs : List Float) → length xs ≡ n * (W * H) → AllGood (2 ^ m) xs → (edge : Bool) (c i j : ℕ) → c < n → i ≤ y → j ≤ x → Good (2 ^ suc m) (difference edge xs (px_idx W H c y x) (px_idx W H c i j))
  apart xs long g edge c i j l p q =
      difference_good m edge xs (px_idx W H c y x) (px_idx W H c i j) (omega arith) g
      (λ e. lt_of_lt_of_le (px_in W H n c y x l y-in x_in) (le_of_eq (sym long)))
      (λ e. lt_of_lt_of_le (px_in W H n c i j l (omega arith) (omega arith)) (le_of_eq (sym long)))

  second_at : (c : ℕ) (s : List ChannelSecond) → c < n → SecondGood (suc m) s → SecondGood (suc m) (tgv_differences_at W H across down y x c s)
  unfolding tgv_differences_at
  second_at c s l r =
      let left : x - 1 ≤ x = omega arith in
      let above : y - 1 ≤ y = omega arith in
      record {
        long = simp length-set r.long;
        good =
            set_each (λ k. ThreeGood (suc m)) _ s c (tgv_difference W H across down y x c) r.good (
              apart across across_long a (left_edge x) c y (x - 1) l (le_refl y) left,
              middle_good m _ _ (omega arith) (apart across across_long a (top_edge y) c (y - 1) x l above (le_refl x)) (apart down down_long d (left_edge x) c y (x - 1) l (le_refl y) left),
              apart down down_long d (top_edge y) c (y - 1) x l above (le_refl x),
            );
      }

  pub second_good : SecondGood (suc m) (tgv_differences W H n held across down y x)
  unfolding tgv_differences
  second_good =
      let z = zero-good (2 ^ suc m) in
      upto_inv (λ c. SecondGood (suc m)) (live held (tgv_differences_at W H across down y x)) n
      (λ c s l r. live_ok (SecondGood (suc m)) held (tgv_differences_at W H across down y x) c s r (λ e. second_at c s l r)) (replicate 3 zero)
      (record { long = length-replicate 3 zero; good = replicate_each (ThreeGood (suc m)) _ zero 3 (z, z, z) })
    where
      zero : ChannelSecond
      zero = record { g_xx = f0; g_xy_sym = f0; g_yy = f0 }

-- ---- the norm

-- what a channel adds: yy² + (2 xy² + xx²)
abbrev inner : Float → Float → Float
inner xx xy = mul_add f2 (square xy) (square xx)

abbrev added : Float → Float → Float → Float
added xx xy yy = mul_add yy yy (inner xx xy)

zero_short : Short 0
zero_short = record { j = 0; i = 0; is = refl; few = lit< tt }

module _ (m : ℕ) (xx xy yy : Float) (gxx : Good (2 ^ m) xx) (gxy : Good (2 ^ m) xy) (gyy : Good (2 ^ m) yy) where
  doubled_zero : Floor 0 (f2 ⊗ square xy)
  unfolding square
  doubled_zero = double_floor 0 (square xy) zero_short (square_zero (2 ^ m) xy gxy.1)

  inner_zero : Floor 0 (inner xx xy)
  unfolding mul_add square
  inner_zero = sum-zero (f2 ⊗ square xy) (square xx) doubled_zero (square_zero (2 ^ m) xx gxx.1)

  added_zero : Floor 0 (added xx xy yy)
  unfolding mul_add
  added_zero = sum-zero (yy ⊗ yy) (inner xx xy) (square_zero (2 ^ m) yy gyy.1) inner_zero

  over_yy : Over (added xx xy yy) yy
  unfolding mul_add
  over_yy = over_left (yy ⊗ yy) (inner xx xy) yy (λ c S f. f) inner_zero

  over_xx : Over (added xx xy yy) xx
  unfolding mul_add square
  over_xx =
      over_right (yy ⊗ yy) (inner xx xy) xx (square_zero (2 ^ m) yy gyy.1)
      (over_right (f2 ⊗ square xy) (square xx) xx doubled_zero (λ c S f. f))

  over_xy : Over (added xx xy yy) xy
  unfolding mul_add square
  over_xy = over_right (yy ⊗ yy) (inner xx xy) xy (square_zero (2 ^ m) yy gyy.1) (over_left (f2 ⊗ square xy) (square xx) xy (λ c S f. double_floor c (square xy) S f) (square_zero (2 ^ m) xx gxx.1))

-- all three components are at most 2 ^ (p + 1)
abbrev pub Three : Float → Float → Float → ℕ → Type 0
Three xx xy yy p = (Twice xx p × Twice xy p) × Twice yy p

module _ (n m : ℕ) (held : ℕ → Bool) (few : n ≤ 3) (big : 74 ≤ m) (d : List ChannelSecond) (r : SecondGood m d) where
  xx_at : (c : ℕ) → c < n → Good (2 ^ m) (second_of d c).g_xx
  xx_at c l = (r.good c (omega (arith, r.long))).0

  xy_at : (c : ℕ) → c < n → Good (2 ^ m) (second_of d c).g_xy_sym
  xy_at c l = (r.good c (omega (arith, r.long))).1

  yy_at : (c : ℕ) → c < n → Good (2 ^ m) (second_of d c).g_yy
  yy_at c l = (r.good c (omega (arith, r.long))).2

  abbrev part : ℕ → Float
  part c = added (second_of d c).g_xx (second_of d c).g_xy_sym (second_of d c).g_yy

  part_zero : (c : ℕ) → c < n → Floor 0 (part c)
  part_zero c l = added_zero m (second_of d c).g_xx (second_of d c).g_xy_sym (second_of d c).g_yy (xx_at c l) (xy_at c l) (yy_at c l)

  floor : (c : ℕ) (t : Float) → c < n → Floor 0 t → Floor 0 (g2_norm_at d c t)
  floor c t l z = sum-zero t (part c) z (part_zero c l)

  keeps : (c : ℕ) (t v : Float) → c < n → Over t v → Over (g2_norm_at d c t) v
  keeps c t v l o = over_left t (part c) v o (part_zero c l)

  -- a component that the channel's part is over stands near a norm that isn't 0
  near_one : ne (g2_norm_of n held d) f0 ≡ true → (c : ℕ) → c < n → held c ≡ false → (v : Float) → Good (2 ^ m) v → Over (part c) v → Near m (g2_norm_of n held d) (Twice v)
  unfolding g2_norm_of
  near_one q c l e v good over =
      let S = upto (live held (g2_norm_at d)) n f0 in
      near m v S big good
      (live_over held (g2_norm_at d) n floor keeps c v l e (λ t z. over_right t (part c) v z over))
      (floor_one S (live_fits held (g2_norm_at d) (λ c t. add-fits binary32 t (part c)) n) (live_floor held (g2_norm_at d) n floor keeps) q)

  pub near_norm2 : ne (g2_norm_of n held d) f0 ≡ true → (c : ℕ) → c < n → held c ≡ false → Near m (g2_norm_of n held d) (Three (second_of d c).g_xx (second_of d c).g_xy_sym (second_of d c).g_yy)
  near_norm2 q c l e =
      let xx = (second_of d c).g_xx in
      let xy = (second_of d c).g_xy_sym in
      let yy = (second_of d c).g_yy in
      let norm = g2_norm_of n held d in
      let gxx = xx_at c l in
      let gxy = xy_at c l in
      let gyy = yy_at c l in
      near_both m norm (λ p. Twice xx p × Twice xy p) (Twice yy) (λ p q h t. (twice_more xx p q h t.0, twice_more xy p q h t.1)) (twice_more yy)
      (near_both m norm (Twice xx) (Twice xy) (twice_more xx) (twice_more xy)
      (near_one q c l e xx gxx (over_xx m xx xy yy gxx gxy gyy)) (near_one q c l e xy gxy (over_xy m xx xy yy gxx gxy gyy)))
      (near_one q c l e yy gyy (over_yy m xx xy yy gxx gxy gyy))
