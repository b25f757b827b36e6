-- Rows of a buffer: what a loop over one leaves, and the loops of changes with their edges.
use mathlib.Core.Path.{◌≡◌, refl, ap, ◌∙◌, sym}
use mathlib.Core.Bool.{Bool, true, false, ◌||◌, true≢false}
use mathlib.Core.List.{List}
use Prim.Native.Nat.{ℕ, ◌+◌, ◌-◌, ◌≤◌, ◌<◌}
use native.Mathlib.Nat.{zero-add, le_refl}
use native.Mathlib.Omega.{arith}
use borrow.Author.Tests.{le-leb, lt-leb, ne_eqb}
use lib.ListN.{length, set, length-set}
use lib.Seq.{get_or-set_same, get_or-set_other, ext_get_or}
use lib.Ieee.{Float, nan, eq, ne}
use Rattle.fold.specs.Fold.{upto}
use Rattle.fold.proofs.Loops.{upto_ext, upto-keeps}
use Rattle.fold.proofs.Local.{local_at}
use Rattle.float.specs.Names.{f0, val}
use Rattle.gradients.specs.Tv.{px_idx, right_edge, bottom_edge}
use Rattle.gradients.specs.Tgv.{left_edge, top_edge}
use Rattle.rows.specs.Rows.{Row, Idle, store_from, store_in, hit, own_row, right_row, left_row, below_row, above_row, above_right_row, below_left_row}
use Rattle.rows.proofs.Commute.{upto_idle, upto_last, upto_first, hit_edge, hit_off}
use Rattle.std.specs.List.{list_any}
use Rattle.std.proofs.lemmas.List.Folds.{list_any_at}

-- xs[x] = F x xs[x]
abbrev pub change_row : (ℕ → Float → Float) → ℕ → List Float → List Float
change_row F x xs = set xs x (F x (val xs x))

pub changed_at : (F : ℕ → Float → Float) (t : List Float) (w : ℕ) → w ≤ length t → Row w (upto (change_row F) w t) (λ x. F x (val t x))
changed_at F t w h x l =
    local_at (λ (a : List Float). length a ≡ length t) (λ a k. val a k) (change_row F) F (length t)
    (λ k a o. length-set a k (F k (val a k)) ∙ o)
    (λ k a o b. get_or-set_same a k (F k (val a k)) nan (omega arith))
    (λ k j a n. get_or-set_other a k j (F k (val a k)) nan n)
    w t refl h x l

-- u is what a row t has become by values that P allows, at the places below n
module _ (P : ℕ → Float → Float → Type 0) (t : List Float) where
  abbrev pub Changed : ℕ → List Float → Type 0
  Changed n u = ((x : ℕ) → x < n → P x (val t x) (val u x)) × ((x : ℕ) → n ≤ x → val u x ≡ val t x)

-- a row of values, as the loop that changes them one by one
pub row_is : (F : ℕ → Float → Float) (t u : List Float) → length u ≡ length t → Row (length t) u (λ x. F x (val t x)) → u ≡ upto (change_row F) (length t) t
row_is F t u h r =
    let m : length (upto (change_row F) (length t) t) ≡ length t = upto-keeps length (change_row F) (λ k a. length-set a k (F k (val a k))) (length t) t in
    ext_get_or nan u (upto (change_row F) (length t) t) (h ∙ sym m) (λ x l. let i : x < length t = omega (arith, h) in r x i ∙ sym (changed_at F t (length t) (le_refl (length t)) x i))

pub stored_from : (at : ℕ) (v : ℕ → Float) (t : List Float) (w : ℕ) → at + w ≤ length t → (x : ℕ) → x < w → val (upto (store_from at v) w t) (at + x) ≡ v x
stored_from at v t w h x l =
    local_at (λ (a : List Float). length a ≡ length t) (λ a k. val a (at + k)) (store_from at v) (λ k z. v k) w
    (λ k a o. length-set a (at + k) (v k) ∙ o)
    (λ k a o b. get_or-set_same a (at + k) (v k) nan (omega arith))
    (λ k j a n. get_or-set_other a (at + k) (at + j) (v k) nan (λ e. n (omega arith)))
    w t refl (le_refl w) x l

pub stored_row : (v : ℕ → Float) (t : List Float) (w : ℕ) → w ≤ length t → Row w (upto (store_in v) w t) v
stored_row v t w h x l = ap (val (upto (store_in v) w t)) (sym (zero-add x)) ∙ stored_from 0 v t w (rw (zero-add w) h) x l

pub at_px : (W H c y at x : ℕ) → at ≡ px_idx W H c y 0 → at + x ≡ px_idx W H c y x
at_px W H c y at x e = omega arith

-- ---- the loops of changes
pub hit_same : (a : Float) (t : List Float) {e d : Bool} {n m q p : Float} {k j : ℕ} → e ≡ d → n ≡ m → q ≡ p → k ≡ j → hit e a n q k t ≡ hit d a m p j t
hit_same a t u v w z = rw (u, v, w, z)

-- they see only the row's values
pub hits_ext : (e : ℕ → Bool) (p : ℕ → ℕ) (alpha : Float) (W : ℕ) (ns ms qs ps : ℕ → Float) (g : List Float) → ((x : ℕ) → x < W → ns x ≡ ms x) → ((x : ℕ) → x < W → qs x ≡ ps x)
    → upto (λ x. hit (e x) alpha (ns x) (qs x) (p x)) W g ≡ upto (λ x. hit (e x) alpha (ms x) (ps x) (p x)) W g
hits_ext e p alpha W ns ms qs ps g h k =
    upto_ext (λ x. hit (e x) alpha (ns x) (qs x) (p x)) (λ x. hit (e x) alpha (ms x) (ps x) (p x)) W g (λ x t l. hit_same alpha t refl (h x l) (k x l) refl)

-- where each norm is 0 they change nothing
pub hits_idle : (e : ℕ → Bool) (p : ℕ → ℕ) (alpha : Float) (W : ℕ) (ns qs : ℕ → Float) (g : List Float) → ((x : ℕ) → x < W → eq (ns x) f0 ≡ true)
    → upto (λ x. hit (e x) alpha (ns x) (qs x) (p x)) W g ≡ g
hits_idle e p alpha W ns qs g h = upto_idle (λ x. hit (e x) alpha (ns x) (qs x) (p x)) W (λ x l t. hit_off (e x) alpha (ns x) (qs x) (p x) t (h x l)) g

pub idle_of : (ns : List Float) → list_any (λ m. ne m f0) ns ≡ false → Idle (length ns) ns
unfolding ne
idle_of ns h x l = go (eq (val ns x) f0) refl
  where
    go : (b : Bool) → eq (val ns x) f0 ≡ b → eq (val ns x) f0 ≡ true
    go true i = i
    go false i = absurd (true≢false (sym (list_any_at (λ m. ne m f0) ns x nan l (rw i)) ∙ h))

-- one loop after another
pub hits_then : (e : ℕ → Bool) (p : ℕ → ℕ) (alpha : Float) (W : ℕ) (ns ms qs ps : ℕ → Float) (g h i : List Float) → i ≡ upto (λ x. hit (e x) alpha (ns x) (qs x) (p x)) W g → g ≡ h
    → ((x : ℕ) → x < W → ns x ≡ ms x) → ((x : ℕ) → x < W → qs x ≡ ps x) → i ≡ upto (λ x. hit (e x) alpha (ms x) (ps x) (p x)) W h
hits_then e p alpha W ns ms qs ps g h i a b k l = a ∙ hits_ext e p alpha W ns ms qs ps g k l ∙ ap (upto (λ x. hit (e x) alpha (ms x) (ps x) (p x)) W) b

-- the changes of places at, at + 1, .. by the pixels lo, lo + 1, ..
abbrev pub hit_at : Float → List Float → List Float → ℕ → ℕ → ℕ → List Float → List Float
hit_at alpha ns qs lo at j = hit false alpha (val ns (lo + j)) (val qs (lo + j)) (at + j)

module _ (W H : ℕ) (alpha : Float) (ns qs : List Float) (y c at : ℕ) (g : List Float) where
  abbrev N : ℕ → Float
  N x = val ns x

  abbrev Q : ℕ → Float
  Q x = val qs x

  first : (xs : List Float) (x : ℕ) → val xs (0 + x) ≡ val xs x
  first xs x = ap (val xs) (zero-add x)

  pub own_is : at ≡ px_idx W H c y 0 → upto (hit_at alpha ns qs 0 at) W g ≡ upto (own_row W H alpha N Q y c) W g
  own_is e = upto_ext (hit_at alpha ns qs 0 at) (own_row W H alpha N Q y c) W g (λ x t l. hit_same alpha t refl (first ns x) (first qs x) (omega arith))

  pub right_is : 0 < W → at ≡ px_idx W H c y 0 + 1 → upto (hit_at alpha ns qs 0 at) (W - 1) g ≡ upto (right_row W H alpha N Q y c) W g
  right_is h e =
      upto_last (hit_at alpha ns qs 0 at) (right_row W H alpha N Q y c) (W - 1) W g (omega arith)
      (λ t. hit_edge (right_edge W (W - 1)) alpha (N (W - 1)) (Q (W - 1)) (px_idx W H c y (W - 1 + 1)) t (le-leb (W - 1) (W - 1) (le_refl (W - 1))))
      (λ x l t. hit_same alpha t (sym (lt-leb (W - 1) x l)) (first ns x) (first qs x) (omega arith))

  pub left_is : 0 < W → at ≡ px_idx W H c y 0 → upto (hit_at alpha ns qs 1 at) (W - 1) g ≡ upto (left_row W H alpha N Q y c) W g
  left_is h e =
      upto_first (hit_at alpha ns qs 1 at) (left_row W H alpha N Q y c) (W - 1) W g (omega arith)
      (λ t. hit_edge (left_edge 0) alpha (N 0) (Q 0) (px_idx W H c y (0 - 1)) t refl)
      (λ x l t. hit_same alpha t (sym (ne_eqb (1 + x) 0 (λ i. omega arith))) refl refl (omega arith))

  -- at the plane's edge nothing
  pub below_none : bottom_edge H y ≡ true → g ≡ upto (below_row W H alpha N Q y c) W g
  below_none b = sym (upto_idle (below_row W H alpha N Q y c) W (λ x l t. hit_edge (bottom_edge H y) alpha (N x) (Q x) (px_idx W H c (y + 1) x) t b) g)

  pub above_none : top_edge y ≡ true → g ≡ upto (above_row W H alpha N Q y c) W g
  above_none b = sym (upto_idle (above_row W H alpha N Q y c) W (λ x l t. hit_edge (top_edge y) alpha (N x) (Q x) (px_idx W H c (y - 1) x) t b) g)

  or-true : (b d : Bool) → d ≡ true → (b || d) ≡ true
  or-true true d e = refl
  or-true false d e = e

  pub above_right_none : top_edge y ≡ true → g ≡ upto (above_right_row W H alpha N Q y c) W g
  above_right_none b =
      sym (upto_idle (above_right_row W H alpha N Q y c) W
      (λ x l t. hit_edge (right_edge W x || top_edge y) alpha (N x) (Q x) (px_idx W H c (y - 1) (x + 1)) t (or-true (right_edge W x) (top_edge y) b)) g)

  pub below_left_none : bottom_edge H y ≡ true → g ≡ upto (below_left_row W H alpha N Q y c) W g
  below_left_none b =
      sym (upto_idle (below_left_row W H alpha N Q y c) W
      (λ x l t. hit_edge (left_edge x || bottom_edge H y) alpha (N x) (Q x) (px_idx W H c (y + 1) (x - 1)) t (or-true (left_edge x) (bottom_edge H y) b)) g)
