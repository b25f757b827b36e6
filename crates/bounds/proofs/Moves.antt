-- The jobs push and move keep values finite and bounded.
use mathlib.Core.Path.{◌≡◌, refl, sym, subst}
use mathlib.Core.Bool.{Bool, true, false, cond}
use mathlib.Core.List.{List}
use Prim.Native.Nat.{ℕ, zero, suc, ◌+◌, ◌*◌, ◌^◌, ◌≤◌, ◌<◌}
use native.Mathlib.Nat.{le_trans, le_of_eq, le_refl, lt_of_lt_of_le, mul_comm}
use native.Mathlib.Omega.{arith}
use lib.Dec.{T, lit<, lit≤}
use lib.ListN.{length, length-set}
use lib.Ieee.{Float, nan, binary32, neg, mul, ne, fits, of_bits, of_fields, odd}
use lib.Ieee.Fits.{add-fits}
use Rattle.fold.specs.Fold.{upto}
use Rattle.fold.proofs.Loops.{upto-keeps}
use Rattle.float.specs.Names.{◌⊖◌, ◌⊗◌, ◌⊘◌, f0, val}
use Rattle.float.specs.Ops.{mul_add, fused, root}
use Rattle.float.proofs.Fit.{fused_fits, mul_add_fits}
use Rattle.steps.specs.Solve.{Planes, pushed}
use Rattle.steps.specs.Step.{square_at, gradient_norm, move_at, moved, moved_by}
use Rattle.steps.proofs.Laws.{push_plane_length, pushed_plane}
use Rattle.fold.proofs.Turned.{turned_at}
use Rattle.bounds.proofs.Magnitude.{Most, Held, neg_most, sub_most, mul_add_most, fused_most}
use Rattle.bounds.proofs.Ratio.{Floor}
use Rattle.bounds.proofs.Near.{Over, near, near_ratio, floor_one, square_zero, sum-zero, over_left, over_right, sums_floor, sums_over}
use Rattle.bounds.proofs.Good.{Good, AllGood, all_more}

-- ---- the gradient's norm

sum_fits : (g : List Float) (n : ℕ) → T (fits binary32 (upto (square_at g) n f0))
unfolding upto mul_add of_bits of_fields odd fits
sum_fits g zero = tt
sum_fits g (suc n) = add-fits binary32 (mul binary32 (val g n) (val g n)) (upto (square_at g) n f0)

module _ (m : ℕ) (big : 74 ≤ m) (g : List Float) (good : AllGood (2 ^ m) g) where
  floor : (c : ℕ) (t : Float) → c < length g → Floor 0 t → Floor 0 (square_at g c t)
  unfolding mul_add
  floor c t l z = sum-zero (val g c ⊗ val g c) t (square_zero (2 ^ m) (val g c) (good c l).1) z

  keeps : (c : ℕ) (t v : Float) → c < length g → Over t v → Over (square_at g c t) v
  unfolding mul_add
  keeps c t v l o = over_right (val g c ⊗ val g c) t v (square_zero (2 ^ m) (val g c) (good c l).1) o

  own : (c : ℕ) (t : Float) → c < length g → Floor 0 t → Over (square_at g c t) (val g c)
  unfolding mul_add
  own c t l z = over_left (val g c ⊗ val g c) t (val g c) (λ i S f. f) z

  -- each value of the gradient over its norm is at most 2
  pub norm_ratio : ne (gradient_norm g) f0 ≡ true → (k : ℕ) → k < length g → Most (2 ^ 150) (val g k ⊘ gradient_norm g)
  unfolding gradient_norm
  norm_ratio q k l =
      let S = upto (square_at g) (length g) f0 in
      let all : length g ≤ length g = le_refl (length g) in
      let one = floor_one S (sum_fits g (length g)) (sums_floor (square_at g) (length g) floor keeps (length g) all) q in
      let n = near m (val g k) S big (good k l) (sums_over (square_at g) (length g) floor keeps k (val g k) (λ t z. own k t l z) (length g) all l) one in
      near_ratio n.p 1 (val g k) (root S) (lit< tt) n.below (subst (λ (z : ℕ). Most (2 ^ z) (val g k)) (next n.p) n.all)
    where
      next : (p : ℕ) → suc p ≡ 1 + p
      next p = omega arith

-- ---- move

module _ (a b m : ℕ) (size : Float) (g plane : List Float) (held : Held b) (room : 2 ^ 158 + a ≤ b) (small : Most (2 ^ 157) size)
    (big : 74 ≤ m) (good : AllGood (2 ^ m) g) (long : length g ≡ length plane) (p : AllGood a plane) where
  stays : AllGood b plane
  stays = all_more a b plane (le_trans (more (2 ^ 158) a) room) p
    where
      more : (x y : ℕ) → y ≤ x + y
      more x y = omega arith

  steps : ne (gradient_norm g) f0 ≡ true → AllGood b (upto (move_at size (gradient_norm g) g) (length plane) plane)
  steps q k l =
      let norm = gradient_norm g in
      let m' : k < length plane = lt_of_lt_of_le l (le_of_eq (upto-keeps length (move_at size norm g) (λ k a. simp length-set) (length plane) plane)) in
      let v = neg (val g k ⊘ norm) in
      subst (Good b) (sym (turned_at nan (λ k x. fused size (neg (val g k ⊘ norm)) x) plane (length plane) (le_refl (length plane)) k m')) (
        fused_fits size v (val plane k),
        fused_most (2 ^ 157) (2 ^ 150) (2 ^ 158) a b size v (val plane k) held (lit≤ tt) room small
            (neg_most (2 ^ 150) (val g k ⊘ norm) (norm_ratio m big g good q k (lt_of_lt_of_le m' (le_of_eq (sym long))))) (p k m').1,
      )

  -- with a step size of at most 2 ^ 8 the plane grows by at most 2 ^ 9
  pub moved_good : AllGood b (moved size g plane)
  unfolding moved moved_by
  moved_good = go (ne (gradient_norm g) f0) refl
    where
      go : (t : Bool) → ne (gradient_norm g) f0 ≡ t → AllGood b (cond t (upto (move_at size (gradient_norm g) g) (length plane) plane) plane)
      go true q = steps q
      go false q = stays

-- ---- push

-- with a factor of at most 1, four times the bound is enough for the plane; the prior is the old plane
pub pushed_good : (a : ℕ) (factor : Float) (s : Planes) → Held (2 * a) → Held (4 * a) → Most (2 ^ 149) factor → length s.plane ≡ length s.prior
    → AllGood a s.plane → AllGood a s.prior → AllGood (4 * a) (pushed factor s).plane
pushed_good a factor s H2 H4 f n p q k l =
    let m : k < length s.plane = lt_of_lt_of_le l (le_of_eq (push_plane_length factor s)) in
    let x = val s.plane k in
    let y = val s.prior k in
    let d : Most (2 * a) (x ⊖ y) = sub_most a a (2 * a) x y H2 (omega arith) (p k m).1 (q k (lt_of_lt_of_le m (le_of_eq n))).1 in
    subst (Good (4 * a)) (sym (pushed_plane factor s n k m)) (
      mul_add_fits factor (x ⊖ y) x,
      mul_add_most (2 ^ 149) (2 * a) (2 * a) a (4 * a) factor (x ⊖ y) x H2 H4 (le_of_eq (mul_comm (2 ^ 149) (2 * a))) (omega arith) f d (p k m).1,
    )
