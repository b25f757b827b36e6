-- Rows of stored values: what stands where after all channels' rows are stored, and the rows that the code stores with their edges.
use mathlib.Core.Path.{◌≡◌, refl, ◌∙◌, sym}
use mathlib.Core.Logic.{◌≢◌, ◌⊎◌, inl, inr}
use mathlib.Core.Bool.{Bool, true, false}
use mathlib.Core.List.{List}
use Prim.Native.Nat.{ℕ, zero, suc, ◌+◌, ◌*◌, ◌≤◌, ◌<◌}
use native.Mathlib.Nat.{le_refl, le_antisymm, mul_comm}
use native.Mathlib.Omega.{arith}
use borrow.Author.Tests.{ltb-true, ltb-false}
use lib.Dec.{ltb}
use lib.ListN.{length, set, length-set}
use lib.Seq.{get_or-set_same, get_or-set_other}
use lib.Ieee.{Float, nan}
use Rattle.fold.specs.Fold.{upto}
use Rattle.fold.proofs.Loops.{upto-keeps}
use Rattle.fold.proofs.Local.{local_at}
use Rattle.fold.proofs.Grid.{row_end}
use Rattle.float.specs.Names.{◌⊖◌, f0, val}
use Rattle.gradients.specs.Tv.{px_idx, difference}
use Rattle.rows.specs.Rows.{store_from, keep_row}
use Rattle.rows.proofs.Places.{px_before}

strict : (a b : ℕ) → b ≤ a → a ≢ b → b < a
strict a b l n = go (ltb b a) refl
  where
    go : (t : Bool) → ltb b a ≡ t → b < a
    go true e = ltb-true b a e
    go false e = absurd (n (le_antisymm (ltb-false b a e) l))

pub apart_or : (a b : ℕ) → a ≢ b → (a < b) ⊎ (b < a)
apart_or a b n = go (ltb a b) refl
  where
    go : (t : Bool) → ltb a b ≡ t → (a < b) ⊎ (b < a)
    go true e = inl (ltb-true a b e)
    go false e = inr (strict a b (ltb-false a b e) n)

-- what each turn below n leaves
upto_same : (view : List Float → Float) (f : ℕ → List Float → List Float) (n : ℕ) → ((k : ℕ) → k < n → (a : List Float) → view (f k a) ≡ view a) → (a : List Float) → view (upto f n a) ≡ view a
unfolding upto
upto_same view f zero h a = refl
upto_same view f (suc n) h a = h n (le_refl (suc n)) (upto f n a) ∙ upto_same view f n (λ k l. h k (omega arith)) a

-- X c x stored at the place p c x, row by row
module _ (p : ℕ → ℕ → ℕ) (X : ℕ → ℕ → Float) (W : ℕ) (rows : (c d x z : ℕ) → c ≢ d → x < W → z < W → p c x ≢ p d z) (cols : (c x z : ℕ) → x ≢ z → p c x ≢ p c z) where
  abbrev fill_row : ℕ → ℕ → List Float → List Float
  fill_row c x a = set a (p c x) (X c x)

  row-in : (c : ℕ) (a : List Float) → ((x : ℕ) → x < W → p c x < length a) → (x : ℕ) → x < W → val (upto (fill_row c) W a) (p c x) ≡ X c x
  row-in c a h x l =
      local_at (λ (b : List Float). length b ≡ length a) (λ b k. val b (p c k)) (fill_row c) (λ k z. X c k) W
      (λ k b o. length-set b (p c k) (X c k) ∙ o)
      (λ k b o m. get_or-set_same b (p c k) (X c k) nan (omega (arith, h k m)))
      (λ k j b n. get_or-set_other b (p c k) (p c j) (X c k) nan (cols c j k n))
      W a refl (le_refl W) x l

  row_out : (c d z : ℕ) (a : List Float) → d ≢ c → z < W → val (upto (fill_row c) W a) (p d z) ≡ val a (p d z)
  row_out c d z a n m = upto_same (λ b. val b (p d z)) (fill_row c) W (λ k l b. get_or-set_other b (p c k) (p d z) (X c k) nan (rows d c z k n m l)) a

  pub filled_at : (n : ℕ) (a : List Float) → ((c x : ℕ) → c < n → x < W → p c x < length a) → (c x : ℕ) → c < n → x < W → val (upto (λ k. upto (fill_row k) W) n a) (p c x) ≡ X c x
  filled_at n a h c x l m =
      local_at (λ (b : List Float). length b ≡ length a) (λ b k. val b (p k x)) (λ k. upto (fill_row k) W) (λ k z. X k x) n
      (λ k b o. upto-keeps length (fill_row k) (λ j t. length-set t (p k j) (X k j)) W b ∙ o)
      (λ k b o u. row-in k b (λ z v. omega (arith, h k z u v)) x m)
      (λ k j b i. row_out k j x b i m)
      n a refl (le_refl n) c l

-- in row y of each plane, and one channel's row after another
pub kept_at : (W H y : ℕ) (X : ℕ → ℕ → Float) (n : ℕ) (a : List Float) → y < H → length a ≡ n * (W * H) → (c x : ℕ) → c < n → x < W
    → val (upto (λ k. upto (keep_row W H (X k) y k) W) n a) (px_idx W H c y x) ≡ X c x
kept_at W H y X n a up e c x l m =
    filled_at (λ k j. px_idx W H k y j) X W
    (λ k d j z i u v. other k d j z (apart_or k d i) u v)
    (λ k j z i u. i (omega arith)) n a
    (λ k j u v. inside k j u v) c x l m
  where
    other : (k d j z : ℕ) → (k < d) ⊎ (d < k) → j < W → z < W → px_idx W H k y j ≢ px_idx W H d y z
    other k d j z (inl o) u v = px_before W H k d y j (px_idx W H d y z) o up u (omega arith)
    other k d j z (inr o) u v = λ i. px_before W H d k y z (px_idx W H k y j) o up v (omega arith) (sym i)

    inside : (k j : ℕ) → k < n → j < W → px_idx W H k y j < length a
    inside k j u v = omega (arith, row_end k n (W * H) u, row_end y H W up, mul_comm W H)

pub row_at : (W : ℕ) (X : ℕ → ℕ → Float) (n : ℕ) (a : List Float) → n * W ≤ length a → (c x : ℕ) → c < n → x < W
    → val (upto (λ k. upto (store_from (k * W) (X k)) W) n a) (c * W + x) ≡ X c x
row_at W X n a e c x l m =
    filled_at (λ k j. k * W + j) X W
    (λ k d j z i u v. other k d j z (apart_or k d i) u v)
    (λ k j z i u. i (omega arith)) n a
    (λ k j u v. omega (arith, row_end k n W u)) c x l m
  where
    other : (k d j z : ℕ) → (k < d) ⊎ (d < k) → j < W → z < W → k * W + j ≢ d * W + z
    other k d j z (inl o) u v i = omega (arith, row_end k d W o)
    other k d j z (inr o) u v i = omega (arith, row_end d k W o)

-- ---- the rows that the code stores
pub store_same : (t : List Float) {k j : ℕ} {u v : Float} → k ≡ j → u ≡ v → set t k u ≡ set t j v
store_same t p q = rw (p, q)

pub diff_off : (e : Bool) (xs : List Float) (to from : ℕ) → e ≡ true → difference e xs to from ≡ f0
unfolding difference
diff_off e xs to from h = rw h

pub diff_on : (e : Bool) (xs : List Float) (to from to' from' : ℕ) → e ≡ false → to' ≡ to → from' ≡ from → val xs to' ⊖ val xs from' ≡ difference e xs to from
unfolding difference
diff_on e xs to from to' from' h p q = rw (h, p, q)
