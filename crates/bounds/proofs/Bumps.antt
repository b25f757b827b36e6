-- What the two gradients share: places, differences, sums of components over a norm, and the changes of the gradient counted.
use mathlib.Core.Path.{◌≡◌, refl, sym, ap, ◌∙◌, subst}
use mathlib.Core.Bool.{Bool, true, false, cond, true≢false}
use mathlib.Core.List.{List}
use Prim.Native.Nat.{ℕ, zero, suc, ◌+◌, ◌*◌, ◌^◌, ◌≤◌, ◌<◌}
use native.Mathlib.Nat.{le_of_eq, le_refl, le_trans, mul-pos, mul_comm, mul_assoc, mul-le-mul_right, one-mul}
use native.Mathlib.Omega.{arith}
use lib.Count.{count_trailing_zeros}
use lib.Dec.{T, lit<, lit≤}
use lib.Pow.{pow-add, pow_mono}
use lib.ListN.{length}
use lib.Ieee.{Float, nan, inf, fin, up, down, binary32, fits, mul, of_bits, of_fields, odd}
use lib.Ieee.Fits.{down_pos}
use Rattle.fold.specs.Fold.{upto}
use Rattle.fold.proofs.Grid.{in_grid, row_end}
use Rattle.float.specs.Names.{◌⊕◌, ◌⊗◌, ◌⊘◌, f0, f2, val}
use Rattle.gradients.specs.Held.{live}
use Rattle.gradients.specs.Tv.{px_idx, difference, bump, bump_unless}
use Rattle.bounds.proofs.Magnitude.{Most, most_more, add_most, mul_most}
use Rattle.bounds.proofs.Ratio.{Floor, Short, round_floor}
use Rattle.bounds.proofs.Near.{Over, near_ratio, sums_floor, sums_over}
use Rattle.bounds.proofs.Good.{Good, AllGood, zero-good}
use Rattle.bounds.proofs.Powers.{held, twice, up_sub}
use Rattle.bounds.proofs.Counted.{Counted, counted_more, counted_bump}

-- ---- places

pub px_in : (W H n c y x : ℕ) → c < n → y < H → x < W → px_idx W H c y x < n * (W * H)
px_in W H n c y x k l m = omega (arith, row_end c n (W * H) k, in_grid y H x W l m, mul_comm W H)

-- ---- a turn of a loop over the channels, which leaves out those that are held

pub live_ok : {A : Type 0} (P : A → Type 0) (held : ℕ → Bool) (f : ℕ → A → A) (c : ℕ) (a : A) → P a → (held c ≡ false → P (f c a)) → P (live held f c a)
live_ok {A} P held f c a p q = go (held c) refl
  where
    go : (b : Bool) → held c ≡ b → P (cond b a (f c a))
    go true e = p
    go false e = q e

-- sums of squares from 0, of the channels that are not held
module _ (held : ℕ → Bool) (term : ℕ → Float → Float) (n : ℕ) (floor : (c : ℕ) (t : Float) → c < n → Floor 0 t → Floor 0 (term c t))
    (keeps : (c : ℕ) (t v : Float) → c < n → Over t v → Over (term c t) v) where
  floor_live : (c : ℕ) (t : Float) → c < n → Floor 0 t → Floor 0 (live held term c t)
  floor_live c t l z = live_ok (Floor 0) held term c t z (λ e. floor c t l z)

  keeps_live : (c : ℕ) (t v : Float) → c < n → Over t v → Over (live held term c t) v
  keeps_live c t v l o = live_ok (λ s. Over s v) held term c t o (λ e. keeps c t v l o)

  pub live_floor : Floor 0 (upto (live held term) n f0)
  live_floor = sums_floor (live held term) n floor_live keeps_live n (le_refl n)

  pub live_over : (k : ℕ) (v : Float) → k < n → held k ≡ false → ((t : Float) → Floor 0 t → Over (term k t) v) → Over (upto (live held term) n f0) v
  live_over k v l e own =
      sums_over (live held term) n floor_live keeps_live k v (λ t z. subst (λ (b : Bool). Over (cond b t (term k t)) v) (sym e) (own t z)) n (le_refl n) l

-- and they are f32s where each turn's are
pub live_fits : (held : ℕ → Bool) (term : ℕ → Float → Float) → ((c : ℕ) (t : Float) → T (fits binary32 (term c t))) → (n : ℕ) → T (fits binary32 (upto (live held term) n f0))
unfolding upto of_bits of_fields odd fits
live_fits held term h zero = tt
live_fits held term h (suc n) = live_ok (λ t. T (fits binary32 t)) held term n (upto (live held term) n f0) (live_fits held term h n) (λ e. h n (upto (live held term) n f0))

-- ---- differences

pub difference_good : (m : ℕ) (edge : Bool) (xs : List Float) (to from : ℕ) → suc m < 277 → AllGood (2 ^ m) xs → (edge ≡ false → to < length xs) → (edge ≡ false → from < length xs)
    → Good (2 ^ suc m) (difference edge xs to from)
unfolding difference
difference_good m true xs to from h g a b = zero-good (2 ^ suc m)
difference_good m false xs to from h g a b = up_sub m (val xs to) (val xs from) h (g to (a refl)) (g from (b refl))

-- ---- sums of components

pub sum_most : (n : ℕ) (x y : Float) → suc n < 277 → Most (2 ^ n) x → Most (2 ^ n) y → Most (2 ^ suc n) (x ⊕ y)
sum_most n x y h g k = add_most (2 ^ n) (2 ^ n) (2 ^ suc n) x y (held (suc n) h) (twice n) g k

f2_most : Most (2 ^ 150) f2
unfolding Most odd of_bits of_fields count_trailing_zeros
f2_most = lit≤ tt

pub double_most : (n : ℕ) (x : Float) → suc n < 277 → Most (2 ^ n) x → Most (2 ^ suc n) (f2 ⊗ x)
double_most n x h g = mul_most (2 ^ 150) (2 ^ n) (2 ^ suc n) f2 x (held (suc n) h) (le_of_eq (turn n)) f2_most g
  where
    turn : (n : ℕ) → 2 ^ 150 * 2 ^ n ≡ 2 ^ suc n * 2 ^ 149
    turn n =
        let e : 150 + n ≡ suc n + 149 = omega arith in
        sym (pow-add 2 150 n) ∙ ap (λ (k : ℕ). 2 ^ k) e ∙ pow-add 2 (suc n) 149

-- twice a value is at least what the value is
pub double_floor : (c : ℕ) (x : Float) → Short c → Floor c x → Floor c (f2 ⊗ x)
unfolding Floor mul odd of_bits of_fields count_trailing_zeros
double_floor c nan S f = f
double_floor c (inf true) S f = absurd (true≢false f)
double_floor c (inf false) S f = refl
double_floor c (fin true m e) S f = absurd (true≢false f.0)
double_floor c (fin false m e) S f =
    round_floor (2 * (m * up e)) (1 * down e) c S (mul-pos (lit< tt) (down_pos e)) (bound (m * up e) (down e) (2 ^ 149) f.1)
  where
    bound : (v d u : ℕ) → c * d ≤ v * u → c * (1 * d) ≤ 2 * v * u
    bound v d u h =
        let a : c * (1 * d) ≡ c * d = ap (λ (z : ℕ). c * z) (one-mul d) in
        let b : 2 * v * u ≡ 2 * (v * u) = mul_assoc 2 v u in
        omega arith

-- ---- changes of the gradient: a weight of at most 1, and a component of at most 2 ^ (4 + p) over a norm of at least 2 ^ p

-- the gradient counted in units of 2 ^ i, of 2 ^ 39 or more
pub record Scale (i : ℕ) : Type 0 where
  pub least : 188 ≤ i
  pub most : 24 + i ≤ 277

module _ (i : ℕ) (u : Scale i) (alpha norm : Float) (p : ℕ) (small : Most (2 ^ 149) alpha) (below : Floor (2 ^ p) norm) where
  reach : 2 ^ 149 * 2 ^ 153 ≤ 2 ^ i * 2 ^ 149
  reach = let l : 153 ≤ i = omega (arith, u.least) in le_trans (le_of_eq (mul_comm (2 ^ 149) (2 ^ 153))) (mul-le-mul_right (2 ^ 149) (pow_mono l))

  pub bump_counted : (v : Float) → Most (2 ^ (4 + p)) v → (t k : ℕ) (g : List Float) → Counted i t g → Counted i (t + 1) (bump alpha v norm k g)
  unfolding bump
  bump_counted v h t k g o =
      counted_bump i (2 ^ 149) (2 ^ 153) t k alpha (v ⊘ norm) g u.most reach small (near_ratio p 4 v norm (lit< tt) below h) o

  pub unless_counted : (edge : Bool) (v : Float) → Most (2 ^ (4 + p)) v → (t k : ℕ) (g : List Float) → Counted i t g → Counted i (t + 1) (bump_unless edge alpha v norm k g)
  unfolding bump_unless
  unless_counted true v h t k g o = counted_more i t (t + 1) g (omega arith) o
  unless_counted false v h t k g o = bump_counted v h t k g o

-- a component of at most 2 ^ (i + p), i up to 4
pub as_component : (i p : ℕ) (v : Float) → i ≤ 4 → Most (2 ^ (i + p)) v → Most (2 ^ (4 + p)) v
as_component i p v h g = most_more (2 ^ (i + p)) (2 ^ (4 + p)) v (pow_mono (omega arith)) g
