-- Blend neither reads nor writes a held channel's buffers (M-108).
use mathlib.Core.Path.{◌≡◌, refl, sym, ap, ◌∙◌, subst}
use mathlib.Core.Bool.{Bool, true, false, cond, ◌||◌, true≢false}
use mathlib.Core.List.{List, [], ◌∷◌}
use Prim.Native.Nat.{ℕ, zero, suc, ◌+◌, ◌-◌, ◌*◌, ◌<◌}
use native.Mathlib.Nat.{mul_comm}
use native.Mathlib.Omega.{arith}
use native.Mathlib.Decide.{dec_lt}
use lib.ListN.{length, set, length-set}
use lib.Seq.{get_or-set_other}
use lib.Ieee.{Float, nan, binary64, neg, ne, eq}
use borrow.Author.Tests.{leb-false}
use Rattle.fold.specs.Fold.{upto}
use Rattle.fold.proofs.Grid.{row_end}
use Rattle.fold.proofs.Choice.{neither}
use Rattle.fold.proofs.Loops.{upto_ext}
use Rattle.float.specs.Ops.{fused, fused_at, mul_add, midpoint}
use Rattle.float.specs.Names.{◌⊕◌, ◌⊖◌, ◌⊗◌, ◌⊘◌, ◌⊞◌, d0, f0, f2, val}
use Rattle.gradients.specs.declared.tv.ChannelForward.{ChannelForward}
use Rattle.gradients.specs.declared.tgv.ChannelSecond.{ChannelSecond}
use Rattle.gradients.specs.Held.{live}
use Rattle.gradients.specs.Tv.{Terms, forward_of, right_edge, bottom_edge, difference, bump, bump_unless, tv_differences, tv_differences_at, g_norm_of, tv_channel_derivatives, tv_derivatives, tv_derivatives_at, store, store_at, tv_alpha, tv_gradient_px, tv_gradient_row, tv_gradient, tv_total_px, tv_total}
use Rattle.gradients.specs.Tgv.{second_of, left_edge, top_edge, tgv_differences, tgv_differences_at, g2_norm_of, tgv_beside, tgv_up_down, tgv_corners, tgv_channel_derivatives, tgv_derivatives, tgv_derivatives_at, tgv_alpha, tgv_gradient_px, tgv_gradient, tgv_total_px, tgv_total}
use Rattle.gradients.specs.Blend.{blended, totals}
use Rattle.gradients.specs.Apart.{EqualAt, Alike, AllAlike, NotWritten, NotRead}
use Rattle.gradients.proofs.Laws.{bump_length}

-- ---- lists

-- a store of the same value in two lists of one length
set_same : (xs ys : List Float) (k j : ℕ) (v : Float) → length xs ≡ length ys → val xs j ≡ val ys j → val (set xs k v) j ≡ val (set ys k v) j
set_same [] [] k j v l e = refl
set_same [] (y ∷ ys) k j v l e = absurd (omega (arith, l))
set_same (x ∷ xs) [] k j v l e = absurd (omega (arith, l))
set_same (x ∷ xs) (y ∷ ys) zero zero v l e = refl
set_same (x ∷ xs) (y ∷ ys) zero (suc j) v l e = e
set_same (x ∷ xs) (y ∷ ys) (suc k) zero v l e = e
set_same (x ∷ xs) (y ∷ ys) (suc k) (suc j) v l e = set_same xs ys k j v (omega (arith, l)) e

-- a place lies in one channel
one_channel : (area c o e p : ℕ) → o < area → p < area → c * area + o ≡ e * area + p → c ≡ e
one_channel area c o e p h k q =
    elim (dec_lt c e) [
      | yes l ↦ absurd (omega (arith, q, h, k, row_end c e area l))
      | no m ↦ elim (dec_lt e c) [ yes l ↦ absurd (omega (arith, q, h, k, row_end e c area l)) | no r ↦ omega arith ]
    ]

-- ---- functions that keep to the channels that are not held

record Apart (area : ℕ) (held : ℕ → Bool) (f : List Float → List Float) : Type 0 where
  long : (g : List Float) → length (f g) ≡ length g
  leaves : (g : List Float) → EqualAt area held true (f g) g
  blind : (g h : List Float) → Alike area held g h → EqualAt area held false (f g) (f h)

module _ {area : ℕ} {held : ℕ → Bool} where
  stay : Apart area held (λ g. g)
  stay = record { long = λ g. refl; leaves = λ g c o l e. refl; blind = λ g h a. a.same }

  alike_after : {f : List Float → List Float} → Apart area held f → (g h : List Float) → Alike area held g h → Alike area held (f g) (f h)
  alike_after p g h a = record { long = p.long g ∙ a.long ∙ sym (p.long h); same = p.blind g h a }

  after : {f k : List Float → List Float} → Apart area held f → Apart area held k → Apart area held (λ g. k (f g))
  after {f} {k} p q =
      record {
        long = λ g. q.long (f g) ∙ p.long g;
        leaves = λ g c o l e. q.leaves (f g) c o l e ∙ p.leaves g c o l e;
        blind = λ g h a. q.blind (f g) (f h) (alike_after p g h a);
      }

  -- where a flag chooses
  either_apart : (b : Bool) {f k : List Float → List Float} → Apart area held f → Apart area held k → Apart area held (λ g. cond b (f g) (k g))
  either_apart true p q = p
  either_apart false p q = q

  unless_apart : (b : Bool) {f : List Float → List Float} → (b ≡ false → Apart area held f) → Apart area held (λ g. cond b g (f g))
  unless_apart true p = stay
  unless_apart false p = p refl

  turns : (f : ℕ → List Float → List Float) (n : ℕ) → ((k : ℕ) → k < n → Apart area held (f k)) → Apart area held (λ g. upto f n g)
  unfolding upto
  turns f zero p = stay
  turns f (suc n) p = after (turns f n (λ k l. p k (omega arith))) (p n (omega arith))

  -- a loop over the channels, and one over the places of the planes
  channels : (f : ℕ → List Float → List Float) (n : ℕ) → ((c : ℕ) → held c ≡ false → Apart area held (f c)) → Apart area held (λ g. upto (live held f) n g)
  channels f n p = turns (live held f) n (λ c l. unless_apart (held c) (p c))

-- ---- a place of a channel that is not held

module _ (area : ℕ) (held : ℕ → Bool) where
  module _ (c o : ℕ) (inside : o < area) (free : held c ≡ false) where
    elsewhere : (d p : ℕ) → p < area → held d ≡ true → d * area + p ≡ c * area + o → ⊥
    elsewhere d p l e q = true≢false (sym e ∙ ap held (one_channel area d p c o l inside q) ∙ free)

    set_apart : (v : Float) → Apart area held (λ g. set g (c * area + o) v)
    set_apart v =
        record {
          long = λ g. length-set g (c * area + o) v;
          leaves = λ g d p l e. get_or-set_other g (c * area + o) (d * area + p) v nan (elsewhere d p l e);
          blind = λ g h a d p l e. set_same g h (c * area + o) (d * area + p) v a.long (a.same d p l e);
        }

    bump_apart : (alpha v norm : Float) → Apart area held (λ g. bump alpha v norm (c * area + o) g)
    unfolding bump
    bump_apart alpha v norm =
        let k : ℕ = c * area + o in
        record {
          long = λ g. bump_length alpha v norm k g;
          leaves = λ g d p l e. get_or-set_other g k (d * area + p) (fused alpha (v ⊘ norm) (val g k)) nan (elsewhere d p l e);
          blind =
              λ g h a d p l e.
              ap (λ (w : Float). val (set g k (fused alpha (v ⊘ norm) w)) (d * area + p)) (a.same c o inside free)
              ∙ set_same g h k (d * area + p) (fused alpha (v ⊘ norm) (val h k)) a.long (a.same d p l e);
        }

  bump_unless_apart : (edge : Bool) (alpha v norm : Float) (c o : ℕ) → (edge ≡ false → o < area) → held c ≡ false
      → Apart area held (λ g. bump_unless edge alpha v norm (c * area + o) g)
  unfolding bump_unless
  bump_unless_apart edge alpha v norm c o inside free = unless_apart edge (λ e. bump_apart c o (inside e) free alpha v norm)

-- ---- the places of a plane

px_in : (W H y x : ℕ) → y < H → x < W → y * W + x < W * H
px_in W H y x h k = omega (arith, row_end y H W h, mul_comm W H)

module _ (W H n : ℕ) (held : ℕ → Bool) where
  abbrev area : ℕ
  area = W * H

  -- pixel by pixel, row by row
  abbrev pass : {A : Type 0} → (ℕ → ℕ → A → A) → A → A
  pass f a = upto (λ y b. upto (f y) W b) H a

  pass_apart : (f : ℕ → ℕ → List Float → List Float) → ((y x : ℕ) → y < H → x < W → Apart area held (f y x)) → Apart area held (λ g. pass f g)
  pass_apart f p = turns (λ y b. upto (f y) W b) H (λ y l. turns (f y) W (λ x m. p y x l m))

  pass_same : {A : Type 0} (f k : ℕ → ℕ → A → A) → ((y x : ℕ) → y < H → x < W → (a : A) → f y x a ≡ k y x a) → (a : A) → pass f a ≡ pass k a
  pass_same f k e a = upto_ext (λ y b. upto (f y) W b) (λ y b. upto (k y) W b) H a (λ y b l. upto_ext (f y) (k y) W b (λ x d m. e y x l m d))

  -- a pass over a record of lists, seen in one of them
  upto_part : (π : Terms → List Float) (f : ℕ → Terms → Terms) (k : ℕ → List Float → List Float) → ((i : ℕ) (t : Terms) → π (f i t) ≡ k i (π t))
      → (m : ℕ) (t : Terms) → π (upto f m t) ≡ upto k m (π t)
  unfolding upto
  upto_part π f k e zero t = refl
  upto_part π f k e (suc m) t = e m (upto f m t) ∙ ap (k m) (upto_part π f k e m t)

  -- ---- what is read

  difference_same : (edge : Bool) (p q : List Float) (c o r : ℕ) → Alike area held p q → held c ≡ false → (edge ≡ false → r < area) → o < area
      → difference edge p (c * area + r) (c * area + o) ≡ difference edge q (c * area + r) (c * area + o)
  unfolding difference
  difference_same true p q c o r a free l m = refl
  difference_same false p q c o r a free l m = λ i. a.same c r (l refl) free i ⊖ a.same c o m free i

  -- a turn that is the same where the channel is not held
  live_same : {A : Type 0} (f k : ℕ → A → A) (c : ℕ) (t : A) → (held c ≡ false → f c t ≡ k c t) → live held f c t ≡ live held k c t
  live_same f k c t e = go (held c) refl
    where
      go : (b : Bool) → held c ≡ b → cond b t (f c t) ≡ cond b t (k c t)
      go true h = refl
      go false h = e h

  module _ (y x : ℕ) (l : y < H) (m : x < W) where
    here : y * W + x < area
    here = px_in W H y x l m

    right : right_edge W x ≡ false → y * W + (x + 1) < area
    right e = px_in W H y (x + 1) l (omega (arith, leb-false (W - 1) x e))

    below : bottom_edge H y ≡ false → (y + 1) * W + x < area
    below e = px_in W H (y + 1) x (omega (arith, leb-false (H - 1) y e)) m

    left : y * W + (x - 1) < area
    left = px_in W H y (x - 1) l (omega arith)

    above : (y - 1) * W + x < area
    above = px_in W H (y - 1) x (omega arith) m

    tv_differences_same : (p q : List Float) → Alike area held p q → tv_differences W H n held p y x ≡ tv_differences W H n held q y x
    unfolding tv_differences tv_differences_at
    tv_differences_same p q a =
        upto_ext (live held (tv_differences_at W H p y x)) (live held (tv_differences_at W H q y x)) n _
        (λ c d k.
        live_same (tv_differences_at W H p y x) (tv_differences_at W H q y x) c d
        (λ free.
        λ i.
        set d c
        (record {
          g_x = difference_same (right_edge W x) p q c (y * W + x) (y * W + (x + 1)) a free right here i;
          g_y = difference_same (bottom_edge H y) p q c (y * W + x) ((y + 1) * W + x) a free below here i;
        })))

    tgv_differences_same : (p q r s : List Float) → Alike area held p q → Alike area held r s
        → tgv_differences W H n held p r y x ≡ tgv_differences W H n held q s y x
    unfolding tgv_differences tgv_differences_at
    tgv_differences_same p q r s a b =
        upto_ext (live held (tgv_differences_at W H p r y x)) (live held (tgv_differences_at W H q s y x)) n _
        (λ c d k.
        live_same (tgv_differences_at W H p r y x) (tgv_differences_at W H q s y x) c d
        (λ free.
        λ i.
        set d c
        (record {
          g_xx = flat p q a c free (left_edge x) (y * W + (x - 1)) left i;
          g_xy_sym = midpoint (flat p q a c free (top_edge y) ((y - 1) * W + x) above i) (flat r s b c free (left_edge x) (y * W + (x - 1)) left i);
          g_yy = flat r s b c free (top_edge y) ((y - 1) * W + x) above i;
        })))
      where
        -- from a place before to here
        flat : (p q : List Float) → Alike area held p q → (c : ℕ) → held c ≡ false → (edge : Bool) (o : ℕ) → o < area
            → difference edge p (c * area + (y * W + x)) (c * area + o) ≡ difference edge q (c * area + (y * W + x)) (c * area + o)
        flat p q a c free edge o k = difference_same edge p q c o (y * W + x) a free (λ e. here) k

    -- ---- what is written

    tv_channel_apart : (alpha g-norm g-x g-y : Float) (c : ℕ) → held c ≡ false → Apart area held (λ g. tv_channel_derivatives W H alpha g-norm g-x g-y y x c g)
    unfolding tv_channel_derivatives
    tv_channel_apart alpha g-norm g-x g-y c free =
        after
        (after (bump_apart area held c (y * W + x) here free alpha (neg (g-x ⊕ g-y)) g-norm)
        (bump_unless_apart area held (right_edge W x) alpha g-x g-norm c (y * W + (x + 1)) right free))
        (bump_unless_apart area held (bottom_edge H y) alpha g-y g-norm c ((y + 1) * W + x) below free)

    tv_derivatives_apart : (alpha g-norm : Float) (d : List ChannelForward) → Apart area held (λ g. tv_derivatives W H n held alpha g-norm d y x g)
    unfolding tv_derivatives
    tv_derivatives_apart alpha g-norm d =
        either_apart (ne g-norm f0)
        (channels (tv_derivatives_at W H alpha g-norm d y x) n (λ c free. tv_channel_apart alpha g-norm (forward_of d c).g_x (forward_of d c).g_y c free))
        stay

    store_apart : (v : ℕ → Float) → Apart area held (λ b. store W H n held v y x b)
    unfolding store
    store_apart v = channels (store_at W H v y x) n (λ c free. set_apart area held c (y * W + x) here free (v c))

    above_right : (right_edge W x || top_edge y) ≡ false → (y - 1) * W + (x + 1) < area
    above_right e = px_in W H (y - 1) (x + 1) (omega arith) (omega (arith, leb-false (W - 1) x (neither (right_edge W x) (top_edge y) e).0))

    below_left : (left_edge x || bottom_edge H y) ≡ false → (y + 1) * W + (x - 1) < area
    below_left e = px_in W H (y + 1) (x - 1) (omega (arith, leb-false (H - 1) y (neither (left_edge x) (bottom_edge H y) e).1)) (omega arith)

    module _ (alpha g2-norm g-xx g-xy-sym g-yy : Float) (c : ℕ) (free : held c ≡ false) where
      beside_apart : Apart area held (λ g. tgv_beside W H alpha g2-norm g-xx g-xy-sym g-yy y x c g)
      unfolding tgv_beside
      beside_apart =
          after
          (after (bump_apart area held c (y * W + x) here free alpha (neg (mul_add f2 g-yy (mul_add f2 g-xx (f2 ⊗ g-xy-sym)))) g2-norm)
          (bump_unless_apart area held (left_edge x) alpha (g-xy-sym ⊕ g-xx) g2-norm c (y * W + (x - 1)) (λ e. left) free))
          (bump_unless_apart area held (right_edge W x) alpha (g-xy-sym ⊕ g-xx) g2-norm c (y * W + (x + 1)) right free)

      up_down_apart : Apart area held (λ g. tgv_up_down W H alpha g2-norm g-xy-sym g-yy y x c g)
      unfolding tgv_up_down
      up_down_apart =
          after (bump_unless_apart area held (top_edge y) alpha (g-yy ⊕ g-xy-sym) g2-norm c ((y - 1) * W + x) (λ e. above) free)
          (bump_unless_apart area held (bottom_edge H y) alpha (g-yy ⊕ g-xy-sym) g2-norm c ((y + 1) * W + x) below free)

      corners_apart : Apart area held (λ g. tgv_corners W H alpha g2-norm g-xy-sym y x c g)
      unfolding tgv_corners
      corners_apart =
          after (bump_unless_apart area held (right_edge W x || top_edge y) alpha (neg g-xy-sym) g2-norm c ((y - 1) * W + (x + 1)) above_right free)
          (bump_unless_apart area held (left_edge x || bottom_edge H y) alpha (neg g-xy-sym) g2-norm c ((y + 1) * W + (x - 1)) below_left free)

      tgv_channel_apart : Apart area held (λ g. tgv_channel_derivatives W H alpha g2-norm g-xx g-xy-sym g-yy y x c g)
      unfolding tgv_channel_derivatives
      tgv_channel_apart = after (after beside_apart up_down_apart) corners_apart

    tgv_derivatives_apart : (alpha g2-norm : Float) (d : List ChannelSecond) → Apart area held (λ g. tgv_derivatives W H n held alpha g2-norm d y x g)
    unfolding tgv_derivatives
    tgv_derivatives_apart alpha g2-norm d =
        either_apart (eq g2-norm f0) stay
        (channels (tgv_derivatives_at W H alpha g2-norm d y x) n
        (λ c free. tgv_channel_apart alpha g2-norm (second_of d c).g_xx (second_of d c).g_xy_sym (second_of d c).g_yy c free))

  -- ---- tv_gradient, list by list

  abbrev tv_px : List Float → ℕ → ℕ → List Float → List Float
  tv_px plane y x g = let d = tv_differences W H n held plane y x in tv_derivatives W H n held (tv_alpha n) (g_norm_of n held d) d y x g

  abbrev across_px : List Float → ℕ → ℕ → List Float → List Float
  across_px plane y x g = store W H n held (λ c. (forward_of (tv_differences W H n held plane y x) c).g_x) y x g

  abbrev down_px : List Float → ℕ → ℕ → List Float → List Float
  down_px plane y x g = store W H n held (λ c. (forward_of (tv_differences W H n held plane y x) c).g_y) y x g

  module _ (plane : List Float) (b : Terms) where
    tv_part : (π : Terms → List Float) (f : ℕ → ℕ → List Float → List Float)
        → ((y x : ℕ) (t : Terms) → π (tv_gradient_px W H n held (tv_alpha n) plane y x t) ≡ f y x (π t)) → π (tv_gradient W H n held plane b) ≡ pass f (π b)
    unfolding tv_gradient
    tv_part π f e =
        upto_part π (tv_gradient_row W H n held (tv_alpha n) plane) (λ y g. upto (f y) W g)
        (λ y t. upto_part π (tv_gradient_px W H n held (tv_alpha n) plane y) (f y) (λ x u. e y x u) W t) H b

    gradient_is : (tv_gradient W H n held plane b).gradient ≡ pass (tv_px plane) b.gradient
    unfolding tv_gradient_px
    gradient_is = tv_part (λ t. t.gradient) (tv_px plane) (λ y x t. refl)

    across_is : (tv_gradient W H n held plane b).across ≡ pass (across_px plane) b.across
    unfolding tv_gradient_px
    across_is = tv_part (λ t. t.across) (across_px plane) (λ y x t. refl)

    down_is : (tv_gradient W H n held plane b).down ≡ pass (down_px plane) b.down
    unfolding tv_gradient_px
    down_is = tv_part (λ t. t.down) (down_px plane) (λ y x t. refl)

  tv_apart : (plane : List Float) → Apart area held (λ g. pass (tv_px plane) g)
  tv_apart plane = pass_apart (tv_px plane) (λ y x l m. let d = tv_differences W H n held plane y x in tv_derivatives_apart y x l m (tv_alpha n) (g_norm_of n held d) d)

  across_apart : (plane : List Float) → Apart area held (λ g. pass (across_px plane) g)
  across_apart plane = pass_apart (across_px plane) (λ y x l m. store_apart y x l m (λ c. (forward_of (tv_differences W H n held plane y x) c).g_x))

  down_apart : (plane : List Float) → Apart area held (λ g. pass (down_px plane) g)
  down_apart plane = pass_apart (down_px plane) (λ y x l m. store_apart y x l m (λ c. (forward_of (tv_differences W H n held plane y x) c).g_y))

  abbrev tgv_px : Float → List Float → List Float → ℕ → ℕ → List Float → List Float
  tgv_px second across down y x g = tgv_gradient_px W H n held (tgv_alpha n second) across down y x g

  tgv_apart : (second : Float) (across down : List Float) → Apart area held (λ g. tgv_gradient W H n held second across down g)
  unfolding tgv_gradient tgv_gradient_px
  tgv_apart second across down = pass_apart (tgv_px second across down) (λ y x l m. let d = tgv_differences W H n held across down y x in tgv_derivatives_apart y x l m (tgv_alpha n second) (g2_norm_of n held d) d)

  -- ---- nothing of a held channel is written

  pub not_written : (second : Float) (plane : List Float) (b : Terms) → NotWritten W H n held second plane b
  unfolding blended
  not_written second plane b =
      let t = tv_gradient W H n held plane b in
      record {
        gradient_left =
            λ c o l e.
            (tgv_apart second t.across t.down).leaves t.gradient c o l e
            ∙ ap (λ (g : List Float). val g (c * area + o)) (gradient_is plane b)
            ∙ (tv_apart plane).leaves b.gradient c o l e;
        across_left = λ c o l e. ap (λ (g : List Float). val g (c * area + o)) (across_is plane b) ∙ (across_apart plane).leaves b.across c o l e;
        down_left = λ c o l e. ap (λ (g : List Float). val g (c * area + o)) (down_is plane b) ∙ (down_apart plane).leaves b.down c o l e;
      }

  -- ---- and nothing is read

  module _ (second : Float) (p q : List Float) (a b : Terms) (like : Alike area held p q) (all : AllAlike area held a b) where
    -- a pass whose pixels see the same, on lists that are alike
    pass_alike : (f k : ℕ → ℕ → List Float → List Float) → ((y x : ℕ) → y < H → x < W → (g : List Float) → f y x g ≡ k y x g) → Apart area held (λ g. pass k g)
        → (g h : List Float) → Alike area held g h → Alike area held (pass f g) (pass k h)
    pass_alike f k e s g h t = subst (λ (r : List Float). Alike area held r (pass k h)) (sym (pass_same f k e g)) (alike_after s g h t)

    abbrev s : Terms
    s = tv_gradient W H n held p a

    abbrev t : Terms
    t = tv_gradient W H n held q b

    tv_alike : AllAlike area held (tv_gradient W H n held p a) (tv_gradient W H n held q b)
    tv_alike =
        let ds : (y x : ℕ) → y < H → x < W → tv_differences W H n held p y x ≡ tv_differences W H n held q y x = λ y x l m. tv_differences_same y x l m p q like in
        record {
          in_gradient =
              both_are (gradient_is p a) (gradient_is q b)
              (pass_alike (tv_px p) (tv_px q) (λ y x l m g. ap (λ (d : List ChannelForward). tv_derivatives W H n held (tv_alpha n) (g_norm_of n held d) d y x g) (ds y x l m)) (tv_apart q)
              a.gradient b.gradient all.in_gradient);
          in_across =
              both_are (across_is p a) (across_is q b)
              (pass_alike (across_px p) (across_px q) (λ y x l m g. ap (λ (d : List ChannelForward). store W H n held (λ c. (forward_of d c).g_x) y x g) (ds y x l m)) (across_apart q)
              a.across b.across all.in_across);
          in_down =
              both_are (down_is p a) (down_is q b)
              (pass_alike (down_px p) (down_px q) (λ y x l m g. ap (λ (d : List ChannelForward). store W H n held (λ c. (forward_of d c).g_y) y x g) (ds y x l m)) (down_apart q)
              a.down b.down all.in_down);
        }
      where
        both_are : {g h u v : List Float} → g ≡ u → h ≡ v → Alike area held u v → Alike area held g h
        both_are {g} {h} {u} {v} e f w = subst (λ (r : List Float). Alike area held r h) (sym e) (subst (λ (r : List Float). Alike area held u r) (sym f) w)

    second_same : (y x : ℕ) → y < H → x < W → tgv_differences W H n held s.across s.down y x ≡ tgv_differences W H n held t.across t.down y x
    second_same y x l m = tgv_differences_same y x l m s.across t.across s.down t.down tv_alike.in_across tv_alike.in_down

    tgv_alike : Alike area held (tgv_gradient W H n held second s.across s.down s.gradient) (tgv_gradient W H n held second t.across t.down t.gradient)
    unfolding tgv_gradient tgv_gradient_px
    tgv_alike =
        pass_alike (tgv_px second s.across s.down) (tgv_px second t.across t.down)
        (λ y x l m g. ap (λ (d : List ChannelSecond). tgv_derivatives W H n held (tgv_alpha n second) (g2_norm_of n held d) d y x g) (second_same y x l m))
        (tgv_apart second t.across t.down) s.gradient t.gradient tv_alike.in_gradient

    totals_same : totals W H n held second p a ≡ totals W H n held second q b
    unfolding totals tv_total tgv_total tv_total_px tgv_total_px
    totals_same =
        λ i.
        record {
          tv =
              pass_same (tv_total_px W H n held (tv_alpha n) p) (tv_total_px W H n held (tv_alpha n) q)
              (λ y x l m v. ap (λ (d : List ChannelForward). fused_at binary64 (tv_alpha n) (g_norm_of n held d) v) (tv_differences_same y x l m p q like)) d0 i;
          tgv =
              pass_same (tgv_total_px W H n held (tgv_alpha n second) s.across s.down) (tgv_total_px W H n held (tgv_alpha n second) t.across t.down)
              (λ y x l m v. ap (λ (d : List ChannelSecond). v ⊞ (tgv_alpha n second ⊗ g2_norm_of n held d)) (second_same y x l m)) d0 i;
        }

    pub not_read : NotRead W H n held second p q a b
    unfolding blended
    not_read =
        record {
          same_writes = record { in_gradient = tgv_alike; in_across = tv_alike.in_across; in_down = tv_alike.in_down };
          same_totals = totals_same;
        }
