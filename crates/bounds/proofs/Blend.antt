-- Blend leaves differences of at most twice the plane's values, and a gradient of at most twice what it was lent.
use mathlib.Core.Path.{◌≡◌, refl, sym, ap, ◌∙◌, subst}
use mathlib.Core.Bool.{Bool, true, false, not, ◌||◌, cond}
use mathlib.Core.List.{List}
use Prim.Native.Nat.{ℕ, suc, ◌+◌, ◌-◌, ◌*◌, ◌^◌, ◌≤◌, ◌<◌}
use native.Mathlib.Nat.{le_refl, le_of_lt, lt_of_le_of_lt, add_assoc, suc-mul, add-zero, zero-mul, mul-le-mul, mul-le-mul_right, add-le-add}
use native.Mathlib.Omega.{arith}
use lib.Dec.{lit≤, lit<}
use lib.Pow.{pow_mono}
use lib.ListN.{length}
use lib.Ieee.{Float, neg, eq, ne}
use Rattle.fold.specs.Fold.{upto}
use Rattle.float.specs.Names.{◌⊕◌, ◌⊗◌, f0, f2}
use Rattle.float.specs.Ops.{mul_add}
use Rattle.gradients.specs.declared.tgv.ChannelSecond.{ChannelSecond}
use Rattle.gradients.specs.Held.{live}
use Rattle.gradients.specs.Tv.{Terms, bump, bump_unless, bottom_edge, px_idx, right_edge, tv_gradient}
use Rattle.gradients.specs.Tgv.{second_of, left_edge, top_edge, g2_norm_of, tgv_differences, tgv_alpha, tgv_beside, tgv_channel_derivatives, tgv_corners, tgv_gradient, tgv_gradient_px, tgv_derivatives, tgv_derivatives_at, tgv_up_down}
use Rattle.gradients.specs.Blend.{blended}
use Rattle.gradients.proofs.Laws.{tv_across_length, tv_down_length}
use Rattle.bounds.proofs.Magnitude.{Most, neg_most, most_more}
use Rattle.bounds.proofs.Near.{Near, Twice}
use Rattle.bounds.proofs.Good.{AllGood, all_more, nest_inv}
use Rattle.bounds.proofs.Constants.{tgv_alpha_most}
use Rattle.bounds.proofs.Counted.{Counted, counted_more, counted_loop}
use Rattle.bounds.proofs.Bumps.{Scale, live_ok, sum_most, double_most, bump_counted, unless_counted, as_component}
use Rattle.bounds.proofs.Tv.{tv_good}
use Rattle.bounds.proofs.Tgv.{SecondGood, Three, second_good, near_norm2}

-- ---- seven changes a channel

module _ (i : ℕ) (u : Scale i) (W H m : ℕ) (small : m + 6 < 277) (alpha : Float) (light : Most (2 ^ 149) alpha) (y x c : ℕ) (norm xx xy yy : Float) (k : Near m norm (Three xx xy yy)) where
  abbrev p : ℕ
  p = k.p

  room : p + 6 < 277
  room = omega (arith, k.p_most)

  abbrev own : Float
  own = neg (mul_add f2 yy (mul_add f2 xx (f2 ⊗ xy)))

  own_most : Most (2 ^ (4 + p)) own
  unfolding mul_add
  own_most =
      let r = room in
      let a : Most (2 ^ suc (suc p)) (f2 ⊗ xy) = double_most (suc p) xy (omega arith) k.all.0.1 in
      let b : Most (2 ^ suc (suc p)) (f2 ⊗ xx) = double_most (suc p) xx (omega arith) k.all.0.0 in
      let d : Most (2 ^ suc (suc p)) (f2 ⊗ yy) = double_most (suc p) yy (omega arith) k.all.1 in
      let s : Most (2 ^ suc (suc (suc p))) (f2 ⊗ xx ⊕ f2 ⊗ xy) = sum_most (suc (suc p)) (f2 ⊗ xx) (f2 ⊗ xy) (omega arith) b a in
      let e : suc (suc (suc (suc p))) ≡ 4 + p = omega arith in
      let up : suc (suc p) ≤ suc (suc (suc p)) = omega arith in
      let whole = sum_most (suc (suc (suc p))) (f2 ⊗ yy) (f2 ⊗ xx ⊕ f2 ⊗ xy) (omega arith) (most_more (2 ^ suc (suc p)) (2 ^ suc (suc (suc p))) (f2 ⊗ yy) (pow_mono up) d) s in
      neg_most (2 ^ (4 + p)) (f2 ⊗ yy ⊕ (f2 ⊗ xx ⊕ f2 ⊗ xy)) (subst (λ (z : ℕ). Most (2 ^ z) (f2 ⊗ yy ⊕ (f2 ⊗ xx ⊕ f2 ⊗ xy))) e whole)

  pair_most : (u v : Float) → Twice u p → Twice v p → Most (2 ^ (4 + p)) (u ⊕ v)
  pair_most u v a b =
      let r = room in
      let e : suc (suc p) ≡ 2 + p = omega arith in
      as_component 2 p (u ⊕ v) (lit≤ tt) (subst (λ (z : ℕ). Most (2 ^ z) (u ⊕ v)) e (sum_most (suc p) u v (omega arith) a b))

  neg_xy : Most (2 ^ (4 + p)) (neg xy)
  neg_xy =
      let e : suc p ≡ 1 + p = omega arith in
      neg_most (2 ^ (4 + p)) xy (as_component 1 p xy (lit≤ tt) (subst (λ (z : ℕ). Most (2 ^ z) xy) e k.all.0.1))

  -- one change at any place, behind an edge or not
  one : (edge : Bool) (v : Float) → Most (2 ^ (4 + p)) v → (t at : ℕ) (g : List Float) → Counted i t g → Counted i (t + 1) (bump_unless edge alpha v norm at g)
  one edge v h t at g o = unless_counted i u alpha norm p light k.below edge v h t at g o

  beside_counted : (t : ℕ) (g : List Float) → Counted i t g → Counted i (t + 1 + 1 + 1) (tgv_beside W H alpha norm xx xy yy y x c g)
  unfolding tgv_beside
  beside_counted t g o =
      let g1 = bump alpha own norm (px_idx W H c y x) g in
      let g2 = bump_unless (left_edge x) alpha (xy ⊕ xx) norm (px_idx W H c y (x - 1)) g1 in
      let v = pair_most xy xx k.all.0.1 k.all.0.0 in
      one (right_edge W x) (xy ⊕ xx) v (t + 1 + 1) (px_idx W H c y (x + 1)) g2
      (one (left_edge x) (xy ⊕ xx) v (t + 1) (px_idx W H c y (x - 1)) g1 (bump_counted i u alpha norm p light k.below own own_most t (px_idx W H c y x) g o))

  updown_counted : (t : ℕ) (g : List Float) → Counted i t g → Counted i (t + 1 + 1) (tgv_up_down W H alpha norm xy yy y x c g)
  unfolding tgv_up_down
  updown_counted t g o =
      let g1 = bump_unless (top_edge y) alpha (yy ⊕ xy) norm (px_idx W H c (y - 1) x) g in
      let v = pair_most yy xy k.all.1 k.all.0.1 in
      one (bottom_edge H y) (yy ⊕ xy) v (t + 1) (px_idx W H c (y + 1) x) g1 (one (top_edge y) (yy ⊕ xy) v t (px_idx W H c (y - 1) x) g o)

  corners_counted : (t : ℕ) (g : List Float) → Counted i t g → Counted i (t + 1 + 1) (tgv_corners W H alpha norm xy y x c g)
  unfolding tgv_corners
  corners_counted t g o =
      let g1 = bump_unless (right_edge W x || top_edge y) alpha (neg xy) norm (px_idx W H c (y - 1) (x + 1)) g in
      one (left_edge x || bottom_edge H y) (neg xy) neg_xy (t + 1) (px_idx W H c (y + 1) (x - 1)) g1
      (one (right_edge W x || top_edge y) (neg xy) neg_xy t (px_idx W H c (y - 1) (x + 1)) g o)

  changes_counted : (t : ℕ) (g : List Float) → Counted i t g → Counted i (t + 7) (tgv_channel_derivatives W H alpha norm xx xy yy y x c g)
  unfolding tgv_channel_derivatives
  changes_counted t g o =
      let a = tgv_beside W H alpha norm xx xy yy y x c g in
      let b = tgv_up_down W H alpha norm xy yy y x c a in
      let e : t + 1 + 1 + 1 + 1 + 1 + 1 + 1 ≡ t + 7 = omega arith in
      subst (λ (z : ℕ). Counted i z (tgv_corners W H alpha norm xy y x c b)) e
      (corners_counted (t + 1 + 1 + 1 + 1 + 1) b (updown_counted (t + 1 + 1 + 1) a (beside_counted t g o)))

spread_counted : (i : ℕ) → Scale i → (W H n m : ℕ) (held : ℕ → Bool) → n ≤ 3 → 74 ≤ m → m + 6 < 277 → (alpha : Float) → Most (2 ^ 149) alpha → (d : List ChannelSecond) → SecondGood m d → (y x t : ℕ) (g : List Float)
    → Counted i t g → Counted i (t + n * 7) (tgv_derivatives W H n held alpha (g2_norm_of n held d) d y x g)
unfolding tgv_derivatives ne
spread_counted i u W H n m held few big small alpha light d r y x t g o = go (eq (g2_norm_of n held d) f0) refl
  where
    go : (q : Bool) → eq (g2_norm_of n held d) f0 ≡ q → Counted i (t + n * 7) (cond q g (upto (live held (tgv_derivatives_at W H alpha (g2_norm_of n held d) d y x)) n g))
    go true e = counted_more i t (t + n * 7) g (omega arith) o
    go false e =
        counted_loop i 7 (live held (tgv_derivatives_at W H alpha (g2_norm_of n held d) d y x)) n
        (λ c t g l o.
        live_ok (Counted i (t + 7)) held (tgv_derivatives_at W H alpha (g2_norm_of n held d) d y x) c g (counted_more i t (t + 7) g (omega arith) o)
        (λ live.
        changes_counted i u W H m small alpha light y x c (g2_norm_of n held d) (second_of d c).g_xx (second_of d c).g_xy_sym (second_of d c).g_yy
        (near_norm2 n m held few big d r (ap not e) c l live) t g o)) t g o

-- ---- all pixels

module _ (i : ℕ) (u : Scale i) (W H n m : ℕ) (held : ℕ → Bool) (some : 1 ≤ n) (few : n ≤ 3) (big : 74 ≤ m) (small : m + 8 < 277) (across down : List Float)
    (across_long : length across ≡ n * (W * H)) (down_long : length down ≡ n * (W * H)) (a : AllGood (2 ^ m) across) (d : AllGood (2 ^ m) down)
    (alpha : Float) (light : Most (2 ^ 149) alpha) (t : ℕ) where
  abbrev After : ℕ → List Float → Type 0
  After q g = Counted i (t + q * (n * 7)) g

  pixel : (y x : ℕ) (g : List Float) → y < H → x < W → After (y * W + x) g → After (suc (y * W + x)) (tgv_gradient_px W H n held (tgv_alpha n alpha) across down y x g)
  unfolding tgv_gradient_px
  pixel y x g l k r =
      let s = tgv_differences W H n held across down y x in
      let q = y * W + x in
      subst (λ (z : ℕ). Counted i z (tgv_derivatives W H n held (tgv_alpha n alpha) (g2_norm_of n held s) s y x g)) (add_assoc t (q * (n * 7)) (n * 7) ∙ ap (λ (z : ℕ). t + z) (sym (suc-mul q (n * 7))))
      (spread_counted i u W H n (suc m) held few (omega arith) (omega arith) (tgv_alpha n alpha) (tgv_alpha_most n alpha some light) s
      (second_good W H n m held small across down across_long down_long a d y x l k) y x (t + q * (n * 7)) g r)

  tgv_counted : (g : List Float) → Counted i t g → Counted i (t + H * W * (n * 7)) (tgv_gradient W H n held alpha across down g)
  unfolding tgv_gradient
  tgv_counted g o =
      nest_inv After (tgv_gradient_px W H n held (tgv_alpha n alpha) across down) H W (λ y x b l k r. pixel y x b l k r) g
      (subst (λ (z : ℕ). Counted i z g) (sym (ap (λ (z : ℕ). t + z) (zero-mul (n * 7)) ∙ add-zero t)) o)

-- ---- the job

-- what it leaves, of a gradient counted in units of 2 ^ i
pub record BlendGood (i m : ℕ) (b : Terms) : Type 0 where
  pub gradient_good : AllGood (2 ^ 24 * 2 ^ i) b.gradient
  pub across_good : AllGood (2 ^ suc m) b.across
  pub down_good : AllGood (2 ^ suc m) b.down

module _ (i : ℕ) (u : Scale i) (W H n m : ℕ) (held : ℕ → Bool) (W-most : W ≤ 512) (H-most : H ≤ 512) (some : 1 ≤ n) (few : n ≤ 3) (big : 74 ≤ m) (small : m + 9 < 277)
    (plane : List Float) (b : Terms)
    (plane_long : length plane ≡ n * (W * H)) (across_long : length b.across ≡ n * (W * H)) (down_long : length b.down ≡ n * (W * H)) where
  -- 9 and 21 times 2 ^ 18 writes of the two gradients
  few_writes : 2 ^ 23 + H * W * (n * 3) + H * W * (n * 7) < 2 ^ 24
  few_writes =
      lt_of_le_of_lt
      (add-le-add (add-le-add (le_refl (2 ^ 23)) (mul-le-mul (mul-le-mul H-most W-most) (mul-le-mul few (le_refl 3)))) (mul-le-mul (mul-le-mul H-most W-most) (mul-le-mul few (le_refl 7))))
      (lit< tt)

  pub blended_good : (weight : Float) → Most (2 ^ 149) weight → AllGood (2 ^ m) plane → AllGood (2 ^ 23 * 2 ^ i) b.gradient → AllGood (2 ^ suc m) b.across → AllGood (2 ^ suc m) b.down
      → BlendGood i m (blended W H n held weight plane b)
  unfolding blended
  blended_good weight light g o a d =
      let v = tv_gradient W H n held plane b in
      let r = tv_good i u W H n m held some few big (omega arith) plane plane_long g (2 ^ 23) b (λ l. o) a d in
      let count : ℕ = 2 ^ 23 + H * W * (n * 3) in
      let s = tgv_counted i u W H n (suc m) held some few (omega arith) (omega arith) v.across v.down
      (tv_across_length W H n held plane b ∙ across_long) (tv_down_length W H n held plane b ∙ down_long) r.across_good r.down_good weight light count v.gradient r.gradient_good in
      record {
        gradient_good =
            all_more ((count + H * W * (n * 7)) * 2 ^ i) (2 ^ 24 * 2 ^ i) (tgv_gradient W H n held weight v.across v.down v.gradient) (mul-le-mul_right (2 ^ i) (le_of_lt few_writes)) (s few_writes);
        across_good = r.across_good;
        down_good = r.down_good;
      }
