-- The first-order gradient: its differences are at most twice the plane's values, and each pixel adds at most 2 ^ 4 to a place, three times a channel.
use mathlib.Core.Path.{◌≡◌, refl, sym, ap, ◌∙◌, subst}
use mathlib.Core.Bool.{Bool, true, false, cond}
use mathlib.Core.List.{List}
use Prim.Native.Nat.{ℕ, suc, ◌+◌, ◌-◌, ◌*◌, ◌^◌, ◌≤◌, ◌<◌}
use native.Mathlib.Nat.{le_of_eq, lt_of_lt_of_le, add_assoc, suc-mul, add-zero, zero-mul}
use native.Mathlib.Omega.{arith}
use borrow.Author.Tests.{leb-false}
use lib.Dec.{lit≤}
use lib.ListN.{length, replicate, length-set, length-replicate}
use lib.Ieee.{Float, binary32, neg, ne}
use lib.Ieee.Fits.{add-fits}
use Rattle.fold.specs.Fold.{upto}
use Rattle.float.specs.Names.{◌⊕◌, f0}
use Rattle.float.specs.Ops.{square, root}
use Rattle.gradients.specs.declared.tv.ChannelForward.{ChannelForward}
use Rattle.gradients.specs.Held.{live}
use Rattle.gradients.specs.Tv.{Terms, forward_of, tv_difference, bump, bump_unless, bottom_edge, tv_differences, tv_differences_at, g_norm_at, g_norm_of, px_idx, right_edge, store, store_at, tv_alpha, tv_channel_derivatives, tv_gradient, tv_gradient_px, tv_derivatives, tv_derivatives_at}
use Rattle.bounds.proofs.Magnitude.{Most, neg_most}
use Rattle.bounds.proofs.Ratio.{Floor}
use Rattle.bounds.proofs.Near.{Near, Over, Twice, near, near_both, twice_more, floor_one, square_zero, sum-zero, over_left, over_right}
use Rattle.bounds.proofs.Good.{Good, AllGood, set_each, replicate_each, set_good, zero-good, upto_inv, nest_inv}
use Rattle.bounds.proofs.Constants.{tv_alpha_most}
use Rattle.bounds.proofs.Counted.{Counted, counted_more, counted_loop}
use Rattle.bounds.proofs.Bumps.{Scale, live_ok, live_floor, live_over, live_fits, px_in, difference_good, sum_most, bump_counted, unless_counted, as_component}

-- ---- the differences at a pixel

-- three channels', both at most 2 ^ m
abbrev pub BothGood : ℕ → ChannelForward → Type 0
BothGood m s = Good (2 ^ m) s.g_x × Good (2 ^ m) s.g_y

pub record ForwardGood (m : ℕ) (d : List ChannelForward) : Type 0 where
  pub long : length d ≡ 3
  pub good : (c : ℕ) → c < length d → BothGood m (forward_of d c)

module _ (W H n m : ℕ) (held : ℕ → Bool) (small : m + 8 < 277) (plane : List Float) (long : length plane ≡ n * (W * H)) (g : AllGood (2 ^ m) plane) (y x : ℕ) (y-in : y < H) (x_in : x < W) where
  right_in : right_edge W x ≡ false → x + 1 < W
  right_in e = omega (arith, leb-false (W - 1) x e)

  below_in : bottom_edge H y ≡ false → y + 1 < H
  below_in e = omega (arith, leb-false (H - 1) y e)

  place : (c a b : ℕ) → c < n → a < H → b < W → px_idx W H c a b < length plane
  place c a b k l m = lt_of_lt_of_le (px_in W H n c a b k l m) (le_of_eq (sym long))

  forward_at : (c : ℕ) (d : List ChannelForward) → c < n → ForwardGood (suc m) d → ForwardGood (suc m) (tv_differences_at W H plane y x c d)
  unfolding tv_differences_at
  forward_at c d l r =
      record {
        long = simp length-set r.long;
        good =
            set_each (λ k. BothGood (suc m)) _ d c (tv_difference W H plane y x c) r.good (
              difference_good m (right_edge W x) plane (px_idx W H c y (x + 1)) (px_idx W H c y x) (omega arith) g (λ e. place c y (x + 1) l y-in (right_in e)) (λ e. place c y x l y-in x_in),
              difference_good m (bottom_edge H y) plane (px_idx W H c (y + 1) x) (px_idx W H c y x) (omega arith) g (λ e. place c (y + 1) x l (below_in e) x_in) (λ e. place c y x l y-in x_in),
            );
      }

  pub forward_good : ForwardGood (suc m) (tv_differences W H n held plane y x)
  unfolding tv_differences
  forward_good =
      upto_inv (λ c. ForwardGood (suc m)) (live held (tv_differences_at W H plane y x)) n
      (λ c d l r. live_ok (ForwardGood (suc m)) held (tv_differences_at W H plane y x) c d r (λ e. forward_at c d l r)) (replicate 3 zero)
      (record { long = length-replicate 3 zero; good = replicate_each (BothGood (suc m)) _ zero 3 (zero-good (2 ^ suc m), zero-good (2 ^ suc m)) })
    where
      zero : ChannelForward
      zero = record { g_x = f0; g_y = f0 }

-- ---- the norm

module _ (n m : ℕ) (held : ℕ → Bool) (few : n ≤ 3) (big : 74 ≤ m) (d : List ChannelForward) (r : ForwardGood m d) where
  x_at : (c : ℕ) → c < n → Good (2 ^ m) (forward_of d c).g_x
  x_at c l = (r.good c (omega (arith, r.long))).0

  y_at : (c : ℕ) → c < n → Good (2 ^ m) (forward_of d c).g_y
  y_at c l = (r.good c (omega (arith, r.long))).1

  x_zero : (c : ℕ) → c < n → Floor 0 (square (forward_of d c).g_x)
  unfolding square
  x_zero c l = square_zero (2 ^ m) (forward_of d c).g_x (x_at c l).1

  y_zero : (c : ℕ) → c < n → Floor 0 (square (forward_of d c).g_y)
  unfolding square
  y_zero c l = square_zero (2 ^ m) (forward_of d c).g_y (y_at c l).1

  floor : (c : ℕ) (t : Float) → c < n → Floor 0 t → Floor 0 (g_norm_at d c t)
  floor c t l z = sum-zero (t ⊕ square (forward_of d c).g_x) (square (forward_of d c).g_y) (sum-zero t (square (forward_of d c).g_x) z (x_zero c l)) (y_zero c l)

  keeps : (c : ℕ) (t v : Float) → c < n → Over t v → Over (g_norm_at d c t) v
  keeps c t v l o = over_left (t ⊕ square (forward_of d c).g_x) (square (forward_of d c).g_y) v (over_left t (square (forward_of d c).g_x) v o (x_zero c l)) (y_zero c l)

  x_own : (c : ℕ) (t : Float) → c < n → Floor 0 t → Over (g_norm_at d c t) (forward_of d c).g_x
  unfolding square
  x_own c t l z =
      let v = (forward_of d c).g_x in
      over_left (t ⊕ square v) (square (forward_of d c).g_y) v (over_right t (square v) v z (λ i S f. f)) (y_zero c l)

  y_own : (c : ℕ) (t : Float) → c < n → Floor 0 t → Over (g_norm_at d c t) (forward_of d c).g_y
  unfolding square
  y_own c t l z = over_right (t ⊕ square (forward_of d c).g_x) (square (forward_of d c).g_y) (forward_of d c).g_y (sum-zero t (square (forward_of d c).g_x) z (x_zero c l)) (λ i S f. f)

  -- both differences of a channel that isn't held stand near a norm that isn't 0
  near_norm : ne (g_norm_of n held d) f0 ≡ true → (c : ℕ) → c < n → held c ≡ false → Near m (g_norm_of n held d) (λ p. Twice (forward_of d c).g_x p × Twice (forward_of d c).g_y p)
  unfolding g_norm_of
  near_norm q c l e =
      let S = upto (live held (g_norm_at d)) n f0 in
      let f = live_fits held (g_norm_at d) (λ c t. add-fits binary32 (t ⊕ square (forward_of d c).g_x) (square (forward_of d c).g_y)) n in
      let one = floor_one S f (live_floor held (g_norm_at d) n floor keeps) q in
      near_both m (root S) (Twice (forward_of d c).g_x) (Twice (forward_of d c).g_y) (twice_more (forward_of d c).g_x) (twice_more (forward_of d c).g_y)
      (near m (forward_of d c).g_x S big (x_at c l) (live_over held (g_norm_at d) n floor keeps c (forward_of d c).g_x l e (λ t z. x_own c t l z)) one)
      (near m (forward_of d c).g_y S big (y_at c l) (live_over held (g_norm_at d) n floor keeps c (forward_of d c).g_y l e (λ t z. y_own c t l z)) one)

  -- ---- three changes a channel

  module _ (i : ℕ) (u : Scale i) (W H : ℕ) (small : m + 6 < 277) (alpha : Float) (light : Most (2 ^ 149) alpha) (y x : ℕ) where
    changes_counted : (norm gx gy : Float) → Near m norm (λ p. Twice gx p × Twice gy p) → (c t : ℕ) (g : List Float) → Counted i t g → Counted i (t + 3) (tv_channel_derivatives W H alpha norm gx gy y x c g)
    unfolding tv_channel_derivatives
    changes_counted norm gx gy k c t g o =
        let p = k.p in
        let s : Most (2 ^ (2 + p)) (neg (gx ⊕ gy)) = neg_most (2 ^ (2 + p)) (gx ⊕ gy) (sub2 p gx gy (omega (arith, k.p_most)) k.all.0 k.all.1) in
        let g1 = bump alpha (neg (gx ⊕ gy)) norm (px_idx W H c y x) g in
        let g2 = bump_unless (right_edge W x) alpha gx norm (px_idx W H c y (x + 1)) g1 in
        let a = bump_counted i u alpha norm p light k.below (neg (gx ⊕ gy)) (as_component 2 p _ (lit≤ tt) s) t (px_idx W H c y x) g o in
        let b = unless_counted i u alpha norm p light k.below (right_edge W x) gx (as_component 1 p gx (lit≤ tt) (one_more p gx k.all.0)) (t + 1) (px_idx W H c y (x + 1)) g1 a in
        subst (λ (z : ℕ). Counted i z (bump_unless (bottom_edge H y) alpha gy norm (px_idx W H c (y + 1) x) g2)) (three t)
        (unless_counted i u alpha norm p light k.below (bottom_edge H y) gy (as_component 1 p gy (lit≤ tt) (one_more p gy k.all.1)) (t + 1 + 1) (px_idx W H c (y + 1) x) g2 b)
      where
        one_more : (p : ℕ) (v : Float) → Twice v p → Most (2 ^ (1 + p)) v
        one_more p v h = let e : suc p ≡ 1 + p = omega arith in subst (λ (z : ℕ). Most (2 ^ z) v) e h

        sub2 : (p : ℕ) (u v : Float) → suc (suc p) < 277 → Twice u p → Twice v p → Most (2 ^ (2 + p)) (u ⊕ v)
        sub2 p u v h a b = let e : suc (suc p) ≡ 2 + p = omega arith in subst (λ (z : ℕ). Most (2 ^ z) (u ⊕ v)) e (sum_most (suc p) u v h a b)

        three : (t : ℕ) → t + 1 + 1 + 1 ≡ t + 3
        three t = omega arith

    spread_counted : (t : ℕ) (g : List Float) → Counted i t g → Counted i (t + n * 3) (tv_derivatives W H n held alpha (g_norm_of n held d) d y x g)
    unfolding tv_derivatives
    spread_counted t g o = go (ne (g_norm_of n held d) f0) refl
      where
        go : (q : Bool) → ne (g_norm_of n held d) f0 ≡ q → Counted i (t + n * 3) (cond q (upto (live held (tv_derivatives_at W H alpha (g_norm_of n held d) d y x)) n g) g)
        go true e =
            counted_loop i 3 (live held (tv_derivatives_at W H alpha (g_norm_of n held d) d y x)) n
            (λ c t g l o.
            live_ok (Counted i (t + 3)) held (tv_derivatives_at W H alpha (g_norm_of n held d) d y x) c g (counted_more i t (t + 3) g (omega arith) o)
            (λ live. changes_counted (g_norm_of n held d) (forward_of d c).g_x (forward_of d c).g_y (near_norm e c l live) c t g o)) t g o
        go false e = counted_more i t (t + n * 3) g (omega arith) o

  -- the differences stored
  store_good : (v : ℕ → Float) → ((c : ℕ) → c < n → Good (2 ^ m) (v c)) → (W H y x : ℕ) (b : List Float) → AllGood (2 ^ m) b → AllGood (2 ^ m) (store W H n held v y x b)
  unfolding store
  store_good v h W H y x b o = upto_inv (λ c. AllGood (2 ^ m)) (live held (store_at W H v y x)) n
      (λ c a l r. live_ok (AllGood (2 ^ m)) held (store_at W H v y x) c a r (λ e. set_good (2 ^ m) a (px_idx W H c y x) (v c) r (h c l))) b o

-- ---- the whole

module _ (i : ℕ) (u : Scale i) (W H n m : ℕ) (held : ℕ → Bool) (some : 1 ≤ n) (few : n ≤ 3) (big : 74 ≤ m) (small : m + 8 < 277) (plane : List Float) (long : length plane ≡ n * (W * H)) (g : AllGood (2 ^ m) plane) (t : ℕ) where
  -- after q pixels
  pub record Terms-good (q : ℕ) (b : Terms) : Type 0 where
    pub gradient_good : Counted i (t + q * (n * 3)) b.gradient
    pub across_good : AllGood (2 ^ suc m) b.across
    pub down_good : AllGood (2 ^ suc m) b.down

  pixel : (y x : ℕ) (b : Terms) → y < H → x < W → Terms-good (y * W + x) b → Terms-good (suc (y * W + x)) (tv_gradient_px W H n held (tv_alpha n) plane y x b)
  unfolding tv_gradient_px
  pixel y x b l k r =
      let d = tv_differences W H n held plane y x in
      let f = forward_good W H n m held small plane long g y x l k in
      let q = y * W + x in
      let big' : 74 ≤ suc m = omega arith in
      record {
        gradient_good =
            subst (λ (z : ℕ). Counted i z (tv_derivatives W H n held (tv_alpha n) (g_norm_of n held d) d y x b.gradient)) (add_assoc t (q * (n * 3)) (n * 3) ∙ ap (λ (z : ℕ). t + z) (sym (suc-mul q (n * 3))))
            (spread_counted n (suc m) held few big' d f i u W H (omega arith) (tv_alpha n) (tv_alpha_most n some) y x (t + q * (n * 3)) b.gradient r.gradient_good);
        across_good = store_good n (suc m) held few big' d f (λ c. (forward_of d c).g_x) (x_at n (suc m) held few big' d f) W H y x b.across r.across_good;
        down_good = store_good n (suc m) held few big' d f (λ c. (forward_of d c).g_y) (y_at n (suc m) held few big' d f) W H y x b.down r.down_good;
      }

  pub tv_good : (b : Terms) → Counted i t b.gradient → AllGood (2 ^ suc m) b.across → AllGood (2 ^ suc m) b.down → Terms-good (H * W) (tv_gradient W H n held plane b)
  unfolding tv_gradient
  tv_good b o a d =
      nest_inv Terms-good (tv_gradient_px W H n held (tv_alpha n) plane) H W (λ y x b l k r. pixel y x b l k r) b
      (record { gradient_good = subst (λ (z : ℕ). Counted i z b.gradient) (sym (ap (λ (z : ℕ). t + z) (zero-mul (n * 3)) ∙ add-zero t)) o; across_good = a; down_good = d })
