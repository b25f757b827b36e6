-- The first-order term's row, pixel by pixel, is its changes kind by kind: right, own place, below.
use mathlib.Core.Path.{◌≡◌, refl, ap, ◌∙◌, sym}
use mathlib.Core.Bool.{Bool, true, false, cond, not}
use mathlib.Core.List.{List}
use Prim.Native.Nat.{ℕ, ◌+◌, ◌-◌, ◌*◌, ◌≤◌, ◌<◌}
use native.Mathlib.Nat.{le_refl}
use native.Mathlib.Omega.{arith}
use borrow.Author.Tests.{leb-false}
use lib.ListN.{replicate, length-replicate}
use lib.Ieee.{Float, neg, eq, ne}
use Rattle.fold.specs.Fold.{upto}
use Rattle.fold.proofs.Loops.{upto_ext}
use Rattle.fold.proofs.Stores.{stored-at}
use Rattle.float.specs.Names.{◌⊕◌, ◌⊘◌, f0}
use Rattle.gradients.specs.declared.tv.ChannelForward.{ChannelForward}
use Rattle.gradients.specs.Tv.{forward_of, tv_difference, px_idx, right_edge, bottom_edge, bump, bump_unless, tv_differences, tv_differences_at, tv_channel_derivatives, tv_derivatives, tv_derivatives_at}
use Rattle.rows.specs.Rows.{hit, own_row, right_row, below_row, none}
use Rattle.tv_rows.specs.TvRows.{across_of, down_of, tv_turn, tv_kinds}
use Rattle.rows.proofs.Places.{next_row, px_before}
use Rattle.rows.proofs.Commute.{Comm, comm_sym, comm_then, comm_3, apart, turned, upto_idle, hit_comm, hit_off, hit_on, hit_own}

module _ (W H : ℕ) (alpha : Float) (ns : ℕ → Float) (X Y : ℕ → ℕ → Float) (y : ℕ) (up : y < H) where
  abbrev own : ℕ → ℕ → List Float → List Float
  own c = own_row W H alpha ns (λ x. neg (X c x ⊕ Y c x) ⊘ ns x) y c

  abbrev right : ℕ → ℕ → List Float → List Float
  right c = right_row W H alpha ns (λ x. X c x ⊘ ns x) y c

  abbrev below : ℕ → ℕ → List Float → List Float
  below c = below_row W H alpha ns (λ x. Y c x ⊘ ns x) y c

  abbrev turn : ℕ → ℕ → List Float → List Float
  turn = tv_turn W H alpha ns X Y y

  far : (c d x : ℕ) (e : Bool) (a n q : Float) (k : ℕ) → c < d → x < W → d * (W * H) ≤ k → Comm (hit e a n q k) (turn c x)
  far c d x e a n q k l m p =
      comm_3 (hit e a n q k) (own c x) (right c x) (below c x)
      (hit_comm e false a n q alpha (ns x) (neg (X c x ⊕ Y c x) ⊘ ns x) k (px_idx W H c y x) (λ _ _ i. px_before W H c d y x k l up m p (sym i)))
      (hit_comm e (right_edge W x) a n q alpha (ns x) (X c x ⊘ ns x) k (px_idx W H c y (x + 1))
      (λ _ f i. px_before W H c d y (x + 1) k l up (omega (arith, leb-false (W - 1) x f)) p (sym i)))
      (hit_comm e (bottom_edge H y) a n q alpha (ns x) (Y c x ⊘ ns x) k (px_idx W H c (y + 1) x)
      (λ _ f i. px_before W H c d (y + 1) x k l (omega (arith, leb-false (H - 1) y f)) m p (sym i)))

  from : (d r x : ℕ) → d * (W * H) ≤ px_idx W H d r x
  from d r x = omega arith

  channels : (n c d x z : ℕ) → c < d → d < n → x < W → z < W → Comm (turn c x) (turn d z)
  channels n c d x z l b m o =
      comm_3 (turn c x) (own d z) (right d z) (below d z)
      (comm_sym (own d z) (turn c x) (far c d x false alpha (ns z) (neg (X d z ⊕ Y d z) ⊘ ns z) (px_idx W H d y z) l m (from d y z)))
      (comm_sym (right d z) (turn c x) (far c d x (right_edge W z) alpha (ns z) (X d z ⊘ ns z) (px_idx W H d y (z + 1)) l m (from d y (z + 1))))
      (comm_sym (below d z) (turn c x) (far c d x (bottom_edge H y) alpha (ns z) (Y d z ⊘ ns z) (px_idx W H d (y + 1) z) l m (from d (y + 1) z)))

  -- own place and right, later or not earlier
  own_right : (c i j : ℕ) → i ≤ j → Comm (right c j) (own c i)
  own_right c i j l =
      hit_comm (right_edge W j) false alpha (ns j) (X c j ⊘ ns j) alpha (ns i) (neg (X c i ⊕ Y c i) ⊘ ns i) (px_idx W H c y (j + 1)) (px_idx W H c y i) (λ _ _ e. omega arith)

  kinds : (c : ℕ) (g : List Float) → upto (turn c) W g ≡ tv_kinds W H alpha ns X Y y c g
  kinds c g =
      apart (λ x t. right c x (own c x t)) (below c) W
      (λ i j l b. comm_sym (below c i) (λ t. right c j (own c j t)) (comm_then (below c i) (own c j) (right c j)
      (hit_comm (bottom_edge H y) false alpha (ns i) (Y c i ⊘ ns i) alpha (ns j) (neg (X c j ⊕ Y c j) ⊘ ns j) (px_idx W H c (y + 1) i) (px_idx W H c y j) (λ _ _ e. omega (arith, next_row y W)))
      (hit_comm (bottom_edge H y) (right_edge W j) alpha (ns i) (Y c i ⊘ ns i) alpha (ns j) (X c j ⊘ ns j) (px_idx W H c (y + 1) i) (px_idx W H c y (j + 1))
      (λ _ f e. omega (arith, next_row y W, leb-false (W - 1) j f))))) g
      ∙ ap (upto (below c) W)
      (upto_ext (λ x t. right c x (own c x t)) (λ x t. own c x (right c x t)) W g (λ x t l. own_right c x x (le_refl x) t)
      ∙ apart (right c) (own c) W (λ i j l b. own_right c i j (omega arith)) g)

  pub tv-kinds : (n : ℕ) (g : List Float) → upto (λ x. upto (λ c. turn c x) n) W g ≡ upto (tv_kinds W H alpha ns X Y y) n g
  tv-kinds n g = turned turn W n (channels n) g ∙ upto_ext (λ c. upto (turn c) W) (tv_kinds W H alpha ns X Y y) n g (λ c t l. kinds c t)

  -- ---- the pixel's changes of tv.rs
  turn_off : (c x : ℕ) (t : List Float) → eq (ns x) f0 ≡ true → turn c x t ≡ t
  turn_off c x t e =
      hit_off (bottom_edge H y) alpha (ns x) (Y c x ⊘ ns x) (px_idx W H c (y + 1) x) (right c x (own c x t)) e
      ∙ hit_off (right_edge W x) alpha (ns x) (X c x ⊘ ns x) (px_idx W H c y (x + 1)) (own c x t) e
      ∙ hit_off false alpha (ns x) (neg (X c x ⊕ Y c x) ⊘ ns x) (px_idx W H c y x) t e

  pub turn_on : (c x : ℕ) (t : List Float) → eq (ns x) f0 ≡ false → tv_channel_derivatives W H alpha (ns x) (X c x) (Y c x) y x c t ≡ turn c x t
  unfolding tv_channel_derivatives
  turn_on c x t e =
      let v = neg (X c x ⊕ Y c x) in
      let g1 = bump alpha v (ns x) (px_idx W H c y x) t in
      hit_on (bottom_edge H y) alpha (ns x) (Y c x) (px_idx W H c (y + 1) x) (bump_unless (right_edge W x) alpha (X c x) (ns x) (px_idx W H c y (x + 1)) g1) e
      ∙ ap (below c x) (hit_on (right_edge W x) alpha (ns x) (X c x) (px_idx W H c y (x + 1)) g1 e ∙ ap (right c x) (hit_own alpha (ns x) v (px_idx W H c y x) t e))

  pub pixel_idle : (n x : ℕ) (g : List Float) → eq (ns x) f0 ≡ true → g ≡ upto (λ c. turn c x) n g
  pixel_idle n x g e = sym (upto_idle (λ c. turn c x) n (λ c l t. turn_off c x t e) g)

  pub spread_is : (n x : ℕ) (d : List ChannelForward) → ((c : ℕ) → c < n → forward_of d c ≡ record { g_x = X c x; g_y = Y c x }) → (g : List Float)
      → tv_derivatives W H n none alpha (ns x) d y x g ≡ upto (λ c. turn c x) n g
  unfolding tv_derivatives ne
  spread_is n x d p g = go (eq (ns x) f0) refl
    where
      go : (b : Bool) → eq (ns x) f0 ≡ b → cond (not (eq (ns x) f0)) (upto (tv_derivatives_at W H alpha (ns x) d y x) n g) g ≡ upto (λ c. turn c x) n g
      go true e = rw e (pixel_idle n x g e)
      go false e =
          rw e
          (upto_ext (tv_derivatives_at W H alpha (ns x) d y x) (λ c. turn c x) n g
          (λ c t l. ap (λ (s : ChannelForward). tv_channel_derivatives W H alpha (ns x) s.g_x s.g_y y x c t) (p c l) ∙ turn_on c x t e))

-- ---- the differences
module _ (W H n : ℕ) (plane : List Float) (y : ℕ) (three : n ≤ 3) where
  abbrev X : ℕ → ℕ → Float
  X c x = across_of W H plane y c x

  abbrev Y : ℕ → ℕ → Float
  Y c x = down_of W H plane y c x

  pub forward_is : (x c : ℕ) → c < n → forward_of (tv_differences W H n none plane y x) c ≡ record { g_x = X c x; g_y = Y c x }
  unfolding tv_differences tv_differences_at
  forward_is x c l = stored-at _ (λ k. tv_difference W H plane y x k) (replicate 3 (record { g_x = f0; g_y = f0 })) n (rw (length-replicate {A = ChannelForward} 3 (record { g_x = f0; g_y = f0 })) three) c l
