-- A row of the first-order term: what the code does row by row is `tv_gradient_row`.
use mathlib.Core.Path.{◌≡◌, refl, ap, ap₂, ◌∙◌, sym}
use mathlib.Core.List.{List}
use mathlib.Core.Bool.{true, false}
use Prim.Native.Nat.{ℕ, ◌+◌, ◌*◌, ◌≤◌, ◌<◌}
use native.Mathlib.Omega.{arith}
use lib.ListN.{length, set}
use lib.Seq.{set_comm}
use lib.Ieee.{Float, binary64, neg, eq}
use Rattle.fold.specs.Fold.{upto}
use Rattle.fold.proofs.Loops.{upto_ext}
use Rattle.float.specs.Ops.{fused_at, root, square}
use Rattle.float.specs.Names.{◌⊕◌, ◌⊘◌, f0, val}
use Rattle.gradients.specs.declared.tv.ChannelForward.{ChannelForward}
use Rattle.gradients.specs.Tv.{Terms, forward_of, px_idx, right_edge, bottom_edge, tv_differences, g_norm_at, g_norm_of, store, store_at, tv_derivatives, tv_gradient_px, tv_gradient_row, tv_total_px, tv_total_row}
use Rattle.rows.specs.Rows.{keep_row, own_row, right_row, below_row, none}
use Rattle.tv_rows.specs.TvRows.{across_of, down_of, tv_squares, tv_norms, tv_turn, tv_kinds, tv_totals, kept_in}
use Rattle.rows.proofs.Commute.{turned, upto_idle}
use Rattle.rows.proofs.RowLaws.{hit_same, hits_idle, hits_then, at_px}
use Rattle.rows.proofs.Places.{upto_part, px_before}
use Rattle.tv_rows.proofs.KindByKind.{tv-kinds, spread_is, forward_is}
use Rattle.rows.proofs.Filled.{kept_at}

-- the changes see only the row's values
pub kinds_ext : (W H : ℕ) (alpha : Float) (ns ms : ℕ → Float) (X Z Y V₁ : ℕ → ℕ → Float) (y c : ℕ) (g : List Float)
    → ((x : ℕ) → x < W → ns x ≡ ms x) → ((x : ℕ) → x < W → X c x ≡ Z c x) → ((x : ℕ) → x < W → Y c x ≡ V₁ c x)
    → tv_kinds W H alpha ns X Y y c g ≡ tv_kinds W H alpha ms Z V₁ y c g
kinds_ext W H alpha ns ms X Z Y V₁ y c g p q r =
    upto_ext (below_row W H alpha ns (λ x. Y c x ⊘ ns x) y c) (below_row W H alpha ms (λ x. V₁ c x ⊘ ms x) y c) W _
    (λ x t l. hit_same alpha t refl (p x l) (ap₂ (λ (u v : Float). u ⊘ v) (r x l) (p x l)) refl)
    ∙ ap (upto (below_row W H alpha ms (λ x. V₁ c x ⊘ ms x) y c) W)
    (upto_ext (own_row W H alpha ns (λ x. neg (X c x ⊕ Y c x) ⊘ ns x) y c) (own_row W H alpha ms (λ x. neg (Z c x ⊕ V₁ c x) ⊘ ms x) y c) W _
    (λ x t l. hit_same alpha t refl (p x l) (ap₂ (λ (u v : Float). u ⊘ v) (ap₂ (λ (u v : Float). neg (u ⊕ v)) (q x l) (r x l)) (p x l)) refl)
    ∙ ap (upto (own_row W H alpha ms (λ x. neg (Z c x ⊕ V₁ c x) ⊘ ms x) y c) W)
    (upto_ext (right_row W H alpha ns (λ x. X c x ⊘ ns x) y c) (right_row W H alpha ms (λ x. Z c x ⊘ ms x) y c) W g
    (λ x t l. hit_same alpha t refl (p x l) (ap₂ (λ (u v : Float). u ⊘ v) (q x l) (p x l)) refl)))

-- where each norm is 0 nothing changes
pub kinds_idle : (W H : ℕ) (alpha : Float) (ns : ℕ → Float) (X Y : ℕ → ℕ → Float) (y n : ℕ) (g : List Float) → ((x : ℕ) → x < W → eq (ns x) f0 ≡ true) → g ≡ upto (tv_kinds W H alpha ns X Y y) n g
kinds_idle W H alpha ns X Y y n g h =
    sym (upto_idle (tv_kinds W H alpha ns X Y y) n
    (λ c l t. hits_idle (λ x. bottom_edge H y) (λ x. px_idx W H c (y + 1) x) alpha W ns (λ x. Y c x ⊘ ns x) _ h
    ∙ hits_idle (λ x. false) (λ x. px_idx W H c y x) alpha W ns (λ x. neg (X c x ⊕ Y c x) ⊘ ns x) _ h
    ∙ hits_idle (λ x. right_edge W x) (λ x. px_idx W H c y (x + 1)) alpha W ns (λ x. X c x ⊘ ns x) t h) g)

-- the code's quotients
pub kinds_by : (W H : ℕ) (alpha : Float) (ns A D : List Float) (y c at : ℕ) (q1 q2 q3 : ℕ → Float) (g g1 g2 g3 : List Float) → at ≡ px_idx W H c y 0
    → ((x : ℕ) → x < W → q1 x ≡ val A (at + x) ⊘ val ns x) → ((x : ℕ) → x < W → q2 x ≡ neg (val A (at + x) ⊕ val D (at + x)) ⊘ val ns x) → ((x : ℕ) → x < W → q3 x ≡ val D (at + x) ⊘ val ns x)
    → g1 ≡ upto (right_row W H alpha (λ x. val ns x) q1 y c) W g
    → g2 ≡ upto (own_row W H alpha (λ x. val ns x) q2 y c) W g1
    → g3 ≡ upto (below_row W H alpha (λ x. val ns x) q3 y c) W g2
    → g3 ≡ tv_kinds W H alpha (λ x. val ns x) (kept_in W H A y) (kept_in W H D y) y c g
kinds_by W H alpha ns A D y c at q1 q2 q3 g g1 g2 g3 e r1 r2 r3 a1 a2 a3 =
    hits_then (λ x. bottom_edge H y) (λ x. px_idx W H c (y + 1) x) alpha W (λ x. val ns x) (λ x. val ns x) q3 (λ x. kept_in W H D y c x ⊘ val ns x) g2 _ g3 a3
    (hits_then (λ x. false) (λ x. px_idx W H c y x) alpha W (λ x. val ns x) (λ x. val ns x) q2 (λ x. neg (kept_in W H A y c x ⊕ kept_in W H D y c x) ⊘ val ns x) g1 _ g2 a2
    (hits_then (λ x. right_edge W x) (λ x. px_idx W H c y (x + 1)) alpha W (λ x. val ns x) (λ x. val ns x) q1 (λ x. kept_in W H A y c x ⊘ val ns x) g g g1 a1 refl
    (λ x l. refl) (λ x l. r1 x l ∙ ap (λ (k : ℕ). val A k ⊘ val ns x) (at_px W H c y at x e)))
    (λ x l. refl) (λ x l. r2 x l ∙ ap (λ (k : ℕ). neg (val A k ⊕ val D k) ⊘ val ns x) (at_px W H c y at x e)))
    (λ x l. refl) (λ x l. r3 x l ∙ ap (λ (k : ℕ). val D k ⊘ val ns x) (at_px W H c y at x e))

module _ (W H n : ℕ) (alpha : Float) (plane : List Float) (y : ℕ) (up : y < H) (three : n ≤ 3) where
  abbrev fwd : ℕ → List ChannelForward
  fwd x = tv_differences W H n none plane y x

  abbrev X : ℕ → ℕ → Float
  X c x = across_of W H plane y c x

  abbrev Y : ℕ → ℕ → Float
  Y c x = down_of W H plane y c x

  store_rows : (vs : ℕ → ℕ → Float) (v : ℕ → ℕ → Float) → ((x c : ℕ) → c < n → vs x c ≡ v c x) → (a : List Float)
      → upto (λ x. store W H n none (vs x) y x) W a ≡ upto (λ c. upto (keep_row W H (v c) y c) W) n a
  unfolding store
  store_rows vs v h a =
      upto_ext (λ x. store W H n none (vs x) y x) (λ x. upto (λ c. keep_row W H (v c) y c x) n) W a
      (λ x t l. upto_ext (store_at W H (vs x) y x) (λ c. keep_row W H (v c) y c x) n t (λ c s k. ap (λ (z : Float). set s (px_idx W H c y x) z) (h x c k)))
      ∙ turned (λ c x. keep_row W H (v c) y c x) W n
      (λ c d x z l b m o s. set_comm s (px_idx W H d y z) (px_idx W H c y x) (v d z) (v c x) (λ e. px_before W H c d y x (px_idx W H d y z) l up m (omega arith) (sym e))) a

  changes : (g : List Float) → upto (λ x t. tv_derivatives W H n none alpha (g_norm_of n none (fwd x)) (fwd x) y x t) W g ≡ upto (tv_kinds W H alpha (λ x. g_norm_of n none (fwd x)) X Y y) n g
  changes g =
      upto_ext (λ x t. tv_derivatives W H n none alpha (g_norm_of n none (fwd x)) (fwd x) y x t) (λ x. upto (λ c. tv_turn W H alpha (λ x. g_norm_of n none (fwd x)) X Y y c x) n) W g
      (λ x t l. spread_is W H alpha (λ x. g_norm_of n none (fwd x)) X Y y up n x (fwd x) (forward_is W H n plane y three x) t)
      ∙ tv-kinds W H alpha (λ x. g_norm_of n none (fwd x)) X Y y up n g

  module _ (b : Terms) (ns : ℕ → Float) (la : length b.across ≡ n * (W * H)) (ld : length b.down ≡ n * (W * H)) where
    abbrev A : List Float
    A = upto (λ c. upto (keep_row W H (across_of W H plane y c) y c) W) n b.across

    abbrev D : List Float
    D = upto (λ c. upto (keep_row W H (down_of W H plane y c) y c) W) n b.down

    norm_is : (x : ℕ) → x < W → g_norm_of n none (fwd x) ≡ tv_norms n (kept_in W H A y) (kept_in W H D y) x
    unfolding g_norm_of
    norm_is x l =
        ap root (upto_ext (g_norm_at (fwd x)) (tv_squares (kept_in W H A y) (kept_in W H D y) x) n f0
        (λ c t k. ap₂ (λ (u v : Float). t ⊕ square u ⊕ square v)
        (ap (λ (s : ChannelForward). s.g_x) (forward_is W H n plane y three x c k) ∙ sym (kept_at W H y X n b.across up la c x k l))
        (ap (λ (s : ChannelForward). s.g_y) (forward_is W H n plane y three x c k) ∙ sym (kept_at W H y Y n b.down up ld c x k l))))

    gradient_is : ((x : ℕ) → x < W → ns x ≡ tv_norms n (kept_in W H A y) (kept_in W H D y) x)
        → upto (tv_kinds W H alpha ns (kept_in W H A y) (kept_in W H D y) y) n b.gradient ≡ (tv_gradient_row W H n none alpha plane y b).gradient
    unfolding tv_gradient_px
    gradient_is h =
        upto_ext (tv_kinds W H alpha ns (kept_in W H A y) (kept_in W H D y) y) (tv_kinds W H alpha (λ x. g_norm_of n none (fwd x)) X Y y) n b.gradient
        (λ c g k. kinds_ext W H alpha ns (λ x. g_norm_of n none (fwd x)) (kept_in W H A y) X (kept_in W H D y) Y y c g
        (λ x l. h x l ∙ sym (norm_is x l)) (λ x l. kept_at W H y X n b.across up la c x k l) (λ x l. kept_at W H y Y n b.down up ld c x k l))
        ∙ sym (changes b.gradient)
        ∙ sym (upto_part (λ (t : Terms). t.gradient) (tv_gradient_px W H n none alpha plane y) (λ x t. tv_derivatives W H n none alpha (g_norm_of n none (fwd x)) (fwd x) y x t) (λ k a. refl) W b)

    across_is : A ≡ (tv_gradient_row W H n none alpha plane y b).across
    unfolding tv_gradient_px
    across_is =
        sym (store_rows (λ x c. (forward_of (fwd x) c).g_x) X (λ x c k. ap (λ (s : ChannelForward). s.g_x) (forward_is W H n plane y three x c k)) b.across)
        ∙ sym (upto_part (λ (t : Terms). t.across) (tv_gradient_px W H n none alpha plane y) (λ x t. store W H n none (λ c. (forward_of (fwd x) c).g_x) y x t) (λ k a. refl) W b)

    down_is : D ≡ (tv_gradient_row W H n none alpha plane y b).down
    unfolding tv_gradient_px
    down_is =
        sym (store_rows (λ x c. (forward_of (fwd x) c).g_y) Y (λ x c k. ap (λ (s : ChannelForward). s.g_y) (forward_is W H n plane y three x c k)) b.down)
        ∙ sym (upto_part (λ (t : Terms). t.down) (tv_gradient_px W H n none alpha plane y) (λ x t. store W H n none (λ c. (forward_of (fwd x) c).g_y) y x t) (λ k a. refl) W b)

    pub tv_row : ((x : ℕ) → x < W → ns x ≡ tv_norms n (kept_in W H A y) (kept_in W H D y) x)
        → record { gradient = upto (tv_kinds W H alpha ns (kept_in W H A y) (kept_in W H D y) y) n b.gradient; across = A; down = D }
        ≡ tv_gradient_row W H n none alpha plane y b
    tv_row h = rw (gradient_is h, across_is, down_is)

    pub tv-total : ((x : ℕ) → x < W → ns x ≡ tv_norms n (kept_in W H A y) (kept_in W H D y) x) → (tv : Float) → upto (tv_totals alpha ns) W tv ≡ tv_total_row W H n none alpha plane y tv
    unfolding tv_total_px
    tv-total h tv =
        upto_ext (tv_totals alpha ns) (tv_total_px W H n none alpha plane y) W tv (λ x t l. ap (λ (z : Float). fused_at binary64 alpha z t) (h x l ∙ sym (norm_is x l)))
