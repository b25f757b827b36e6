-- A row of the second-order term: what the code does row by row is `tgv_gradient_row`.
use mathlib.Core.Path.{◌≡◌, refl, ap, ap₂, ◌∙◌, sym}
use mathlib.Core.Bool.{Bool, true, false, cond, ◌||◌}
use mathlib.Core.List.{List}
use Prim.Native.Nat.{ℕ, ◌+◌, ◌-◌, ◌*◌, ◌≤◌, ◌<◌}
use lib.ListN.{length, replicate, length-replicate}
use lib.Ieee.{Float, neg, eq}
use Rattle.fold.specs.Fold.{upto}
use Rattle.fold.specs.Part.{part}
use Rattle.fold.proofs.Loops.{upto_ext}
use Rattle.fold.proofs.Stores.{stored-at}
use Rattle.float.specs.Ops.{mul_add, root}
use Rattle.float.specs.Names.{◌⊕◌, ◌⊗◌, ◌⊘◌, ◌⊞◌, f0, f2, val}
use Rattle.gradients.specs.declared.tgv.ChannelSecond.{ChannelSecond}
use Rattle.gradients.specs.Tv.{px_idx, right_edge, bottom_edge, bump, bump_unless}
use Rattle.gradients.specs.Tgv.{second_of, tgv_difference, left_edge, top_edge, tgv_differences, tgv_differences_at, g2_norm_at, g2_norm_of, tgv_beside, tgv_up_down, tgv_corners, tgv_channel_derivatives, tgv_derivatives, tgv_derivatives_at, tgv_gradient_px, tgv_gradient_row, tgv_total_px, tgv_total_row}
use Rattle.rows.specs.Rows.{Row, store_from, own_row, right_row, left_row, below_row, above_row, above_right_row, below_left_row, none}
use Rattle.tgv_rows.specs.TgvRows.{xx_of, xy_of, yy_of, row_in, own_quot, side_quot, end_quot, corner_quot, tgv_squares, tgv_norms, tgv_turn, tgv_besides, tgv_aboves, tgv_belows, tgv_kinds, tgv_totals}
use Rattle.rows.proofs.Commute.{upto_idle, hit_off, hit_on, hit_own}
use Rattle.rows.proofs.Filled.{row_at}
use Rattle.rows.proofs.Lent.{in_part}
use Rattle.rows.proofs.RowLaws.{hits_idle, hits_then}
use Rattle.tgv_rows.proofs.KindByKind.{tgv-kinds}

module _ (W H : ℕ) (alpha : Float) (ns : ℕ → Float) (X M Y : ℕ → ℕ → Float) (y : ℕ) (up : y < H) where
  abbrev own : ℕ → ℕ → List Float → List Float
  own c = own_row W H alpha ns (own_quot W H alpha ns X M Y y c) y c

  abbrev left : ℕ → ℕ → List Float → List Float
  left c = left_row W H alpha ns (side_quot W H alpha ns X M Y y c) y c

  abbrev right : ℕ → ℕ → List Float → List Float
  right c = right_row W H alpha ns (side_quot W H alpha ns X M Y y c) y c

  abbrev above : ℕ → ℕ → List Float → List Float
  above c = above_row W H alpha ns (end_quot W H alpha ns X M Y y c) y c

  abbrev below : ℕ → ℕ → List Float → List Float
  below c = below_row W H alpha ns (end_quot W H alpha ns X M Y y c) y c

  abbrev corner : ℕ → ℕ → List Float → List Float
  corner c = above_right_row W H alpha ns (corner_quot W H alpha ns X M Y y c) y c

  abbrev foot : ℕ → ℕ → List Float → List Float
  foot c = below_left_row W H alpha ns (corner_quot W H alpha ns X M Y y c) y c

  abbrev turn : ℕ → ℕ → List Float → List Float
  turn c x = tgv_turn W H alpha ns X M Y y c x

  module _ (c x : ℕ) where
    abbrev o : Float
    o = neg (mul_add f2 (Y c x) (mul_add f2 (X c x) (f2 ⊗ M c x)))

    abbrev s : Float
    s = M c x ⊕ X c x

    abbrev v : Float
    v = Y c x ⊕ M c x

    abbrev d : Float
    d = neg (M c x)

    turn_off : (t : List Float) → eq (ns x) f0 ≡ true → turn c x t ≡ t
    turn_off t e =
        hit_off (left_edge x || bottom_edge H y) alpha (ns x) (d ⊘ ns x) (px_idx W H c (y + 1) (x - 1)) (corner c x (below c x (above c x (right c x (left c x (own c x t)))))) e
        ∙ hit_off (right_edge W x || top_edge y) alpha (ns x) (d ⊘ ns x) (px_idx W H c (y - 1) (x + 1)) (below c x (above c x (right c x (left c x (own c x t))))) e
        ∙ hit_off (bottom_edge H y) alpha (ns x) (v ⊘ ns x) (px_idx W H c (y + 1) x) (above c x (right c x (left c x (own c x t)))) e
        ∙ hit_off (top_edge y) alpha (ns x) (v ⊘ ns x) (px_idx W H c (y - 1) x) (right c x (left c x (own c x t))) e
        ∙ hit_off (right_edge W x) alpha (ns x) (s ⊘ ns x) (px_idx W H c y (x + 1)) (left c x (own c x t)) e
        ∙ hit_off (left_edge x) alpha (ns x) (s ⊘ ns x) (px_idx W H c y (x - 1)) (own c x t) e
        ∙ hit_off false alpha (ns x) (o ⊘ ns x) (px_idx W H c y x) t e

    beside_on : (t : List Float) → eq (ns x) f0 ≡ false → tgv_beside W H alpha (ns x) (X c x) (M c x) (Y c x) y x c t ≡ right c x (left c x (own c x t))
    unfolding tgv_beside
    beside_on t e =
        let g1 = bump alpha o (ns x) (px_idx W H c y x) t in
        hit_on (right_edge W x) alpha (ns x) s (px_idx W H c y (x + 1)) (bump_unless (left_edge x) alpha s (ns x) (px_idx W H c y (x - 1)) g1) e
        ∙ ap (right c x) (hit_on (left_edge x) alpha (ns x) s (px_idx W H c y (x - 1)) g1 e ∙ ap (left c x) (hit_own alpha (ns x) o (px_idx W H c y x) t e))

    ends_on : (t : List Float) → eq (ns x) f0 ≡ false → tgv_up_down W H alpha (ns x) (M c x) (Y c x) y x c t ≡ below c x (above c x t)
    unfolding tgv_up_down
    ends_on t e =
        hit_on (bottom_edge H y) alpha (ns x) v (px_idx W H c (y + 1) x) (bump_unless (top_edge y) alpha v (ns x) (px_idx W H c (y - 1) x) t) e
        ∙ ap (below c x) (hit_on (top_edge y) alpha (ns x) v (px_idx W H c (y - 1) x) t e)

    corners_on : (t : List Float) → eq (ns x) f0 ≡ false → tgv_corners W H alpha (ns x) (M c x) y x c t ≡ foot c x (corner c x t)
    unfolding tgv_corners
    corners_on t e =
        hit_on (left_edge x || bottom_edge H y) alpha (ns x) d (px_idx W H c (y + 1) (x - 1)) (bump_unless (right_edge W x || top_edge y) alpha d (ns x) (px_idx W H c (y - 1) (x + 1)) t) e
        ∙ ap (foot c x) (hit_on (right_edge W x || top_edge y) alpha (ns x) d (px_idx W H c (y - 1) (x + 1)) t e)

    pub turn_on : (t : List Float) → eq (ns x) f0 ≡ false → tgv_channel_derivatives W H alpha (ns x) (X c x) (M c x) (Y c x) y x c t ≡ turn c x t
    unfolding tgv_channel_derivatives
    turn_on t e =
        let b = tgv_beside W H alpha (ns x) (X c x) (M c x) (Y c x) y x c t in
        corners_on (tgv_up_down W H alpha (ns x) (M c x) (Y c x) y x c b) e
        ∙ ap (λ (u : List Float). foot c x (corner c x u)) (ends_on b e ∙ ap (λ (u : List Float). below c x (above c x u)) (beside_on t e))

  pub pixel_idle : (n x : ℕ) (g : List Float) → eq (ns x) f0 ≡ true → g ≡ upto (λ c. turn c x) n g
  pixel_idle n x g i = sym (upto_idle (λ c. turn c x) n (λ c l t. turn_off c x t i) g)

  pub by_kinds : (n : ℕ) (g : List Float) → upto (λ x. upto (λ c. turn c x) n) W g ≡ upto (tgv_kinds W H alpha ns X M Y y) n g
  by_kinds n g =
      tgv-kinds W H alpha ns (λ c. own_quot W H alpha ns X M Y y c) (λ c. side_quot W H alpha ns X M Y y c) (λ c. end_quot W H alpha ns X M Y y c) (λ c. corner_quot W H alpha ns X M Y y c) y up n g

  spread_is : (n x : ℕ) (e : List ChannelSecond) → ((c : ℕ) → c < n → second_of e c ≡ record { g_xx = X c x; g_xy_sym = M c x; g_yy = Y c x })
      → (g : List Float) → tgv_derivatives W H n none alpha (ns x) e y x g ≡ upto (λ c. turn c x) n g
  unfolding tgv_derivatives
  spread_is n x e p g = go (eq (ns x) f0) refl
    where
      values : (c : ℕ) (t : List Float) → c < n → tgv_derivatives_at W H alpha (ns x) e y x c t ≡ tgv_channel_derivatives W H alpha (ns x) (X c x) (M c x) (Y c x) y x c t
      values c t l = rw (p c l)

      go : (b : Bool) → eq (ns x) f0 ≡ b → cond (eq (ns x) f0) g (upto (tgv_derivatives_at W H alpha (ns x) e y x) n g) ≡ upto (λ c. turn c x) n g
      go true i = rw i (pixel_idle n x g i)
      go false i = rw i (upto_ext (tgv_derivatives_at W H alpha (ns x) e y x) (λ c. turn c x) n g (λ c t l. values c t l ∙ turn_on c x t i))

  pub changes : (n : ℕ) (e : ℕ → List ChannelSecond) → ((x c : ℕ) → c < n → second_of (e x) c ≡ record { g_xx = X c x; g_xy_sym = M c x; g_yy = Y c x })
      → (g : List Float) → upto (λ x t. tgv_derivatives W H n none alpha (ns x) (e x) y x t) W g ≡ upto (tgv_kinds W H alpha ns X M Y y) n g
  changes n e p g =
      upto_ext (λ x t. tgv_derivatives W H n none alpha (ns x) (e x) y x t) (λ x. upto (λ c. turn c x) n) W g (λ x t l. spread_is n x (e x) (p x) t)
      ∙ by_kinds n g

-- ---- the differences of differences
module _ (W H n : ℕ) (across down : List Float) (y : ℕ) (three : n ≤ 3) where
  pub second_is : (x c : ℕ) → c < n → second_of (tgv_differences W H n none across down y x) c ≡ record { g_xx = xx_of W H across y c x; g_xy_sym = xy_of W H across down y c x; g_yy = yy_of W H down y c x }
  unfolding tgv_differences tgv_differences_at
  second_is x c l =
      stored-at _ (λ k. tgv_difference W H across down y x k) (replicate 3 (record { g_xx = f0; g_xy_sym = f0; g_yy = f0 })) n
      (rw (length-replicate {A = ChannelSecond} 3 (record { g_xx = f0; g_xy_sym = f0; g_yy = f0 })) three) c l

-- ---- the code's quotients
module _ (W H : ℕ) (alpha : Float) (ns xx xy yy : List Float) (y c : ℕ) where
  abbrev N : ℕ → Float
  N x = val ns x

  abbrev X : ℕ → ℕ → Float
  X d x = row_in W xx d x

  abbrev M : ℕ → ℕ → Float
  M d x = row_in W xy d x

  abbrev Y : ℕ → ℕ → Float
  Y d x = row_in W yy d x

  -- as the code has them, of the channel's own values, which are a part of the row's
  abbrev own_part : List Float → List Float
  own_part xs = part xs (c * W) (c * W + W)

  module _ {l : ℕ} (q : List Float) (long : l ≡ W) where
    pub sums_in : (us vs : List Float) → c * W + W ≤ length us → c * W + W ≤ length vs → Row l q (λ x. (val (own_part us) x ⊕ val (own_part vs) x) ⊘ N x) → Row W q (λ x. (row_in W us c x ⊕ row_in W vs c x) ⊘ N x)
    sums_in us vs hu hv r x m = r x (rw long m) ∙ ap₂ (λ (u v : Float). (u ⊕ v) ⊘ N x) (in_part us (c * W) W hu x m) (in_part vs (c * W) W hv x m)

    pub negs_in : (us : List Float) → c * W + W ≤ length us → Row l q (λ x. neg (val (own_part us) x) ⊘ N x) → Row W q (λ x. neg (row_in W us c x) ⊘ N x)
    negs_in us hu r x m = r x (rw long m) ∙ ap (λ (u : Float). neg u ⊘ N x) (in_part us (c * W) W hu x m)

    pub owns_in : c * W + W ≤ length xx → c * W + W ≤ length xy → c * W + W ≤ length yy
        → Row l q (λ x. neg (mul_add f2 (val (own_part yy) x) (mul_add f2 (val (own_part xx) x) (f2 ⊗ val (own_part xy) x))) ⊘ N x) → Row W q (own_quot W H alpha N X M Y y c)
    owns_in hx hm hy r x m =
        r x (rw long m)
        ∙ ap₂ (λ (u v : Float). neg (mul_add f2 u v) ⊘ N x) (in_part yy (c * W) W hy x m)
        (ap₂ (λ (u v : Float). mul_add f2 u (f2 ⊗ v)) (in_part xx (c * W) W hx x m) (in_part xy (c * W) W hm x m))

  pub besides_by : (q1 q2 q3 : ℕ → Float) (g g1 g2 g3 : List Float)
      → ((x : ℕ) → x < W → q1 x ≡ side_quot W H alpha N X M Y y c x) → ((x : ℕ) → x < W → q2 x ≡ own_quot W H alpha N X M Y y c x) → ((x : ℕ) → x < W → q3 x ≡ side_quot W H alpha N X M Y y c x)
      → g1 ≡ upto (right_row W H alpha N q1 y c) W g → g2 ≡ upto (own_row W H alpha N q2 y c) W g1 → g3 ≡ upto (left_row W H alpha N q3 y c) W g2
      → g3 ≡ tgv_besides W H alpha N X M Y y c g
  besides_by q1 q2 q3 g g1 g2 g3 r1 r2 r3 a1 a2 a3 =
      hits_then (λ x. left_edge x) (λ x. px_idx W H c y (x - 1)) alpha W N N q3 (side_quot W H alpha N X M Y y c) g2 _ g3 a3
      (hits_then (λ x. false) (λ x. px_idx W H c y x) alpha W N N q2 (own_quot W H alpha N X M Y y c) g1 _ g2 a2
      (hits_then (λ x. right_edge W x) (λ x. px_idx W H c y (x + 1)) alpha W N N q1 (side_quot W H alpha N X M Y y c) g g g1 a1 refl (λ x l. refl) r1)
      (λ x l. refl) r2) (λ x l. refl) r3

  pub aboves_by : (q1 q2 : ℕ → Float) (g g1 g2 : List Float) → ((x : ℕ) → x < W → q1 x ≡ corner_quot W H alpha N X M Y y c x) → ((x : ℕ) → x < W → q2 x ≡ end_quot W H alpha N X M Y y c x)
      → g1 ≡ upto (above_right_row W H alpha N q1 y c) W g → g2 ≡ upto (above_row W H alpha N q2 y c) W g1
      → g2 ≡ tgv_aboves W H alpha N X M Y y c g
  aboves_by q1 q2 g g1 g2 r1 r2 a1 a2 =
      hits_then (λ x. top_edge y) (λ x. px_idx W H c (y - 1) x) alpha W N N q2 (end_quot W H alpha N X M Y y c) g1 _ g2 a2
      (hits_then (λ x. right_edge W x || top_edge y) (λ x. px_idx W H c (y - 1) (x + 1)) alpha W N N q1 (corner_quot W H alpha N X M Y y c) g g g1 a1 refl (λ x l. refl) r1)
      (λ x l. refl) r2

  pub belows_by : (q1 q2 : ℕ → Float) (g g1 g2 : List Float) → ((x : ℕ) → x < W → q1 x ≡ end_quot W H alpha N X M Y y c x) → ((x : ℕ) → x < W → q2 x ≡ corner_quot W H alpha N X M Y y c x)
      → g1 ≡ upto (below_row W H alpha N q1 y c) W g → g2 ≡ upto (below_left_row W H alpha N q2 y c) W g1
      → g2 ≡ tgv_belows W H alpha N X M Y y c g
  belows_by q1 q2 g g1 g2 r1 r2 a1 a2 =
      hits_then (λ x. left_edge x || bottom_edge H y) (λ x. px_idx W H c (y + 1) (x - 1)) alpha W N N q2 (corner_quot W H alpha N X M Y y c) g1 _ g2 a2
      (hits_then (λ x. bottom_edge H y) (λ x. px_idx W H c (y + 1) x) alpha W N N q1 (end_quot W H alpha N X M Y y c) g g g1 a1 refl (λ x l. refl) r1)
      (λ x l. refl) r2

-- ---- the changes see only the row's values
pub kinds_ext : (W H : ℕ) (alpha : Float) (ns ms : ℕ → Float) (X M Y X' M' Y' : ℕ → ℕ → Float) (y c : ℕ) (g : List Float)
    → ((x : ℕ) → x < W → ns x ≡ ms x) → ((x : ℕ) → x < W → X c x ≡ X' c x) → ((x : ℕ) → x < W → M c x ≡ M' c x) → ((x : ℕ) → x < W → Y c x ≡ Y' c x)
    → tgv_kinds W H alpha ns X M Y y c g ≡ tgv_kinds W H alpha ms X' M' Y' y c g
kinds_ext W H alpha ns ms X M Y X' M' Y' y c g p q r s =
    hits_then (λ x. left_edge x || bottom_edge H y) (λ x. px_idx W H c (y + 1) (x - 1)) alpha W ns ms (corner_quot W H alpha ns X M Y y c) (corner_quot W H alpha ms X' M' Y' y c) _ _ _ refl
    (hits_then (λ x. bottom_edge H y) (λ x. px_idx W H c (y + 1) x) alpha W ns ms (end_quot W H alpha ns X M Y y c) (end_quot W H alpha ms X' M' Y' y c) _ _ _ refl
    (hits_then (λ x. top_edge y) (λ x. px_idx W H c (y - 1) x) alpha W ns ms (end_quot W H alpha ns X M Y y c) (end_quot W H alpha ms X' M' Y' y c) _ _ _ refl
    (hits_then (λ x. right_edge W x || top_edge y) (λ x. px_idx W H c (y - 1) (x + 1)) alpha W ns ms (corner_quot W H alpha ns X M Y y c) (corner_quot W H alpha ms X' M' Y' y c) _ _ _ refl
    (hits_then (λ x. left_edge x) (λ x. px_idx W H c y (x - 1)) alpha W ns ms (side_quot W H alpha ns X M Y y c) (side_quot W H alpha ms X' M' Y' y c) _ _ _ refl
    (hits_then (λ x. false) (λ x. px_idx W H c y x) alpha W ns ms (own_quot W H alpha ns X M Y y c) (own_quot W H alpha ms X' M' Y' y c) _ _ _ refl
    (hits_then (λ x. right_edge W x) (λ x. px_idx W H c y (x + 1)) alpha W ns ms (side_quot W H alpha ns X M Y y c) (side_quot W H alpha ms X' M' Y' y c) g g _ refl refl p side)
    p own) p side) p corner) p end) p end) p corner
  where
    side : (x : ℕ) → x < W → side_quot W H alpha ns X M Y y c x ≡ side_quot W H alpha ms X' M' Y' y c x
    side x l = rw (p x l, q x l, r x l)

    own : (x : ℕ) → x < W → own_quot W H alpha ns X M Y y c x ≡ own_quot W H alpha ms X' M' Y' y c x
    own x l = rw (p x l, q x l, r x l, s x l)

    end : (x : ℕ) → x < W → end_quot W H alpha ns X M Y y c x ≡ end_quot W H alpha ms X' M' Y' y c x
    end x l = rw (p x l, r x l, s x l)

    corner : (x : ℕ) → x < W → corner_quot W H alpha ns X M Y y c x ≡ corner_quot W H alpha ms X' M' Y' y c x
    corner x l = rw (p x l, r x l)

-- ---- where each norm is 0 nothing changes
pub kinds_idle : (W H : ℕ) (alpha : Float) (ns : ℕ → Float) (X M Y : ℕ → ℕ → Float) (y n : ℕ) (g : List Float) → ((x : ℕ) → x < W → eq (ns x) f0 ≡ true) → g ≡ upto (tgv_kinds W H alpha ns X M Y y) n g
kinds_idle W H alpha ns X M Y y n g h =
    sym (upto_idle (tgv_kinds W H alpha ns X M Y y) n
    (λ c l t. hits_idle (λ x. left_edge x || bottom_edge H y) (λ x. px_idx W H c (y + 1) (x - 1)) alpha W ns (corner_quot W H alpha ns X M Y y c) _ h
    ∙ hits_idle (λ x. bottom_edge H y) (λ x. px_idx W H c (y + 1) x) alpha W ns (end_quot W H alpha ns X M Y y c) _ h
    ∙ hits_idle (λ x. top_edge y) (λ x. px_idx W H c (y - 1) x) alpha W ns (end_quot W H alpha ns X M Y y c) _ h
    ∙ hits_idle (λ x. right_edge W x || top_edge y) (λ x. px_idx W H c (y - 1) (x + 1)) alpha W ns (corner_quot W H alpha ns X M Y y c) _ h
    ∙ hits_idle (λ x. left_edge x) (λ x. px_idx W H c y (x - 1)) alpha W ns (side_quot W H alpha ns X M Y y c) _ h
    ∙ hits_idle (λ x. false) (λ x. px_idx W H c y x) alpha W ns (own_quot W H alpha ns X M Y y c) _ h
    ∙ hits_idle (λ x. right_edge W x) (λ x. px_idx W H c y (x + 1)) alpha W ns (side_quot W H alpha ns X M Y y c) t h) g)

-- ---- what stands in a channel's row after all channels' rows are stored
pub stood : (W n : ℕ) (X : ℕ → ℕ → Float) (a t : List Float) → n * W ≤ length a → t ≡ upto (λ k. upto (store_from (k * W) (X k)) W) n a
    → (c x : ℕ) → c < n → x < W → row_in W t c x ≡ X c x
stood W n X a t h e c x l m = ap (λ (i : List Float). val i (c * W + x)) e ∙ row_at W X n a h c x l m

-- ---- the row
module _ (W H n : ℕ) (alpha : Float) (across down : List Float) (y : ℕ) (up : y < H) (three : n ≤ 3) (X M Y : ℕ → ℕ → Float) (ns : ℕ → Float) (g : List Float)
    (hx : (c x : ℕ) → c < n → x < W → X c x ≡ xx_of W H across y c x)
    (hm : (c x : ℕ) → c < n → x < W → M c x ≡ xy_of W H across down y c x)
    (hy : (c x : ℕ) → c < n → x < W → Y c x ≡ yy_of W H down y c x) where
  abbrev at : ℕ → List ChannelSecond
  at x = tgv_differences W H n none across down y x

  norm_is : (x : ℕ) → x < W → g2_norm_of n none (at x) ≡ tgv_norms n X M Y x
  unfolding g2_norm_of
  norm_is x l =
      ap root (upto_ext (g2_norm_at (at x)) (tgv_squares X M Y x) n f0
      (λ c t k. rw (second_is W H n across down y three x c k, hx c x k l, hm c x k l, hy c x k l)))

  pub tgv_row : ((x : ℕ) → x < W → ns x ≡ tgv_norms n X M Y x)
      → upto (tgv_kinds W H alpha ns X M Y y) n g ≡ tgv_gradient_row W H n none alpha across down y g
  unfolding tgv_gradient_px
  tgv_row h =
      upto_ext (tgv_kinds W H alpha ns X M Y y)
      (tgv_kinds W H alpha (λ x. g2_norm_of n none (at x)) (xx_of W H across y) (xy_of W H across down y) (yy_of W H down y) y) n g
      (λ c t k. kinds_ext W H alpha ns (λ x. g2_norm_of n none (at x)) X M Y (xx_of W H across y) (xy_of W H across down y) (yy_of W H down y) y c t
      (λ x l. h x l ∙ sym (norm_is x l)) (λ x l. hx c x k l) (λ x l. hm c x k l) (λ x l. hy c x k l))
      ∙ sym (changes W H alpha (λ x. g2_norm_of n none (at x)) (xx_of W H across y) (xy_of W H across down y) (yy_of W H down y) y up n at
      (second_is W H n across down y three) g)

  pub tgv-total : ((x : ℕ) → x < W → ns x ≡ tgv_norms n X M Y x) → (tv2 : Float) → upto (tgv_totals alpha ns) W tv2 ≡ tgv_total_row W H n none alpha across down y tv2
  unfolding tgv_total_px
  tgv-total h tv2 =
      upto_ext (tgv_totals alpha ns) (tgv_total_px W H n none alpha across down y) W tv2 (λ x t l. ap (λ (z : Float). t ⊞ (alpha ⊗ z)) (h x l ∙ sym (norm_is x l)))
