-- The second-order term's row, pixel by pixel, is its changes kind by kind: right, own place, left; above right, above; below, below left.
use mathlib.Core.Path.{◌≡◌, refl, ap, ◌∙◌, sym}
use mathlib.Core.Logic.{◌≢◌}
use mathlib.Core.Bool.{Bool, false, ◌||◌}
use mathlib.Core.List.{List}
use Prim.Native.Nat.{ℕ, ◌+◌, ◌-◌, ◌*◌, ◌≤◌, ◌<◌}
use native.Mathlib.Nat.{le_refl}
use native.Mathlib.Omega.{arith}
use borrow.Author.Tests.{leb-false, eqb-false}
use lib.Ieee.{Float}
use Rattle.fold.specs.Fold.{upto}
use Rattle.fold.proofs.Loops.{upto_ext}
use Rattle.fold.proofs.Choice.{neither}
use Rattle.gradients.specs.Tv.{px_idx, right_edge, bottom_edge}
use Rattle.gradients.specs.Tgv.{left_edge, top_edge}
use Rattle.rows.specs.Rows.{hit, own_row, right_row, left_row, below_row, above_row, above_right_row, below_left_row}
use Rattle.rows.proofs.Commute.{Comm, comm_sym, comm_then, comm_3, comm_4, apart, turned, hit_comm}
use Rattle.rows.proofs.Places.{next_row, px_before}

-- row y above row y - 1
above-row : (y W : ℕ) → 0 < y → y * W ≡ (y - 1) * W + W
above-row y W h = ap (λ (z : ℕ). z * W) (back y h) ∙ next_row (y - 1) W
  where
    back : (y : ℕ) → 0 < y → y ≡ y - 1 + 1
    back y h = omega arith

module _ (W H : ℕ) (alpha : Float) (ns : ℕ → Float) (qo qh qv qd : ℕ → ℕ → Float) (y : ℕ) (up : y < H) where
  abbrev own : ℕ → ℕ → List Float → List Float
  own c = own_row W H alpha ns (qo c) y c

  abbrev left : ℕ → ℕ → List Float → List Float
  left c = left_row W H alpha ns (qh c) y c

  abbrev right : ℕ → ℕ → List Float → List Float
  right c = right_row W H alpha ns (qh c) y c

  abbrev above : ℕ → ℕ → List Float → List Float
  above c = above_row W H alpha ns (qv c) y c

  abbrev below : ℕ → ℕ → List Float → List Float
  below c = below_row W H alpha ns (qv c) y c

  abbrev corner : ℕ → ℕ → List Float → List Float
  corner c = above_right_row W H alpha ns (qd c) y c

  abbrev foot : ℕ → ℕ → List Float → List Float
  foot c = below_left_row W H alpha ns (qd c) y c

  -- the changes in row y, in the row above and in the row below
  abbrev mid : ℕ → ℕ → List Float → List Float
  mid c x g = right c x (left c x (own c x g))

  abbrev top : ℕ → ℕ → List Float → List Float
  top c x g = corner c x (above c x g)

  abbrev low : ℕ → ℕ → List Float → List Float
  low c x g = foot c x (below c x g)

  abbrev ends : ℕ → ℕ → List Float → List Float
  ends c x g = foot c x (corner c x (below c x (above c x g)))

  -- a pixel's seven changes, in the Rust's order
  abbrev pub tgv_turn : ℕ → ℕ → List Float → List Float
  tgv_turn c x g = ends c x (mid c x g)

  -- the row's, kind by kind
  abbrev pub tgv_besides : ℕ → List Float → List Float
  tgv_besides c g = upto (left c) W (upto (own c) W (upto (right c) W g))

  abbrev pub tgv_aboves : ℕ → List Float → List Float
  tgv_aboves c g = upto (above c) W (upto (corner c) W g)

  abbrev pub tgv_belows : ℕ → List Float → List Float
  tgv_belows c g = upto (foot c) W (upto (below c) W g)

  abbrev pub tgv_kinds : ℕ → List Float → List Float
  tgv_kinds c g = tgv_belows c (tgv_aboves c (tgv_besides c g))

  -- ---- channels
  far : (c d x : ℕ) (e : Bool) (a n q : Float) (k : ℕ) → c < d → x < W → d * (W * H) ≤ k → Comm (hit e a n q k) (tgv_turn c x)
  far c d x e a n q k l m p =
      comm_then (hit e a n q k) (mid c x) (ends c x)
      (comm_3 (hit e a n q k) (own c x) (left c x) (right c x)
      (hit_comm e false a n q alpha (ns x) (qo c x) k (px_idx W H c y x) (λ _ _ i. px_before W H c d y x k l up m p (sym i)))
      (hit_comm e (left_edge x) a n q alpha (ns x) (qh c x) k (px_idx W H c y (x - 1)) (λ _ _ i. px_before W H c d y (x - 1) k l up (omega arith) p (sym i)))
      (hit_comm e (right_edge W x) a n q alpha (ns x) (qh c x) k (px_idx W H c y (x + 1)) (λ _ f i. px_before W H c d y (x + 1) k l up (omega (arith, leb-false (W - 1) x f)) p (sym i))))
      (comm_4 (hit e a n q k) (above c x) (below c x) (corner c x) (foot c x)
      (hit_comm e (top_edge y) a n q alpha (ns x) (qv c x) k (px_idx W H c (y - 1) x) (λ _ _ i. px_before W H c d (y - 1) x k l (omega arith) m p (sym i)))
      (hit_comm e (bottom_edge H y) a n q alpha (ns x) (qv c x) k (px_idx W H c (y + 1) x) (λ _ f i. px_before W H c d (y + 1) x k l (omega (arith, leb-false (H - 1) y f)) m p (sym i)))
      (hit_comm e (right_edge W x || top_edge y) a n q alpha (ns x) (qd c x) k (px_idx W H c (y - 1) (x + 1))
      (λ _ f i. px_before W H c d (y - 1) (x + 1) k l (omega arith) (omega (arith, leb-false (W - 1) x (neither (right_edge W x) (top_edge y) f).0)) p (sym i)))
      (hit_comm e (left_edge x || bottom_edge H y) a n q alpha (ns x) (qd c x) k (px_idx W H c (y + 1) (x - 1))
      (λ _ f i. px_before W H c d (y + 1) (x - 1) k l (omega (arith, leb-false (H - 1) y (neither (left_edge x) (bottom_edge H y) f).1)) (omega arith) p (sym i))))

  from : (d r x : ℕ) → d * (W * H) ≤ px_idx W H d r x
  from d r x = omega arith

  channels : (n c d x z : ℕ) → c < d → d < n → x < W → z < W → Comm (tgv_turn c x) (tgv_turn d z)
  channels n c d x z l b m o =
      let away : (e : Bool) (q : Float) (r v : ℕ) → Comm (tgv_turn c x) (hit e alpha (ns z) q (px_idx W H d r v)) =
      λ e q r v. comm_sym (hit e alpha (ns z) q (px_idx W H d r v)) (tgv_turn c x) (far c d x e alpha (ns z) q (px_idx W H d r v) l m (from d r v)) in
      comm_then (tgv_turn c x) (mid d z) (ends d z)
      (comm_3 (tgv_turn c x) (own d z) (left d z) (right d z) (away false (qo d z) y z) (away (left_edge z) (qh d z) y (z - 1)) (away (right_edge W z) (qh d z) y (z + 1)))
      (comm_4 (tgv_turn c x) (above d z) (below d z) (corner d z) (foot d z) (away (top_edge y) (qv d z) (y - 1) z) (away (bottom_edge H y) (qv d z) (y + 1) z)
      (away (right_edge W z || top_edge y) (qd d z) (y - 1) (z + 1)) (away (left_edge z || bottom_edge H y) (qd d z) (y + 1) (z - 1)))

  -- ---- rows: a change outside row y does not meet those within it, and one below it not those above it
  abbrev Outside : ℕ → ℕ → Type 0
  Outside c k = (z : ℕ) → z < W → px_idx W H c y z ≢ k

  past : (c j : ℕ) (e : Bool) (a n q : Float) (k : ℕ) → (e ≡ false → Outside c k) → j < W → Comm (hit e a n q k) (mid c j)
  past c j e a n q k h m =
      comm_3 (hit e a n q k) (own c j) (left c j) (right c j)
      (hit_comm e false a n q alpha (ns j) (qo c j) k (px_idx W H c y j) (λ f _ i. h f j m (sym i)))
      (hit_comm e (left_edge j) a n q alpha (ns j) (qh c j) k (px_idx W H c y (j - 1)) (λ f _ i. h f (j - 1) (omega arith) (sym i)))
      (hit_comm e (right_edge W j) a n q alpha (ns j) (qh c j) k (px_idx W H c y (j + 1)) (λ f r i. h f (j + 1) (omega (arith, leb-false (W - 1) j r)) (sym i)))

  over : (c r z : ℕ) → 0 < y → z < W → r ≡ y - 1 → Outside c (px_idx W H c r z)
  over c r z p m e v l i = omega (arith, above-row y W p, ap (λ (t : ℕ). t * W) e)

  under : (c z : ℕ) → Outside c (px_idx W H c (y + 1) z)
  under c z v l i = omega (arith, next_row y W)

  top_mid : (c i j : ℕ) → i < W → j < W → Comm (mid c j) (top c i)
  top_mid c i j l m =
      comm_then (mid c j) (above c i) (corner c i)
      (comm_sym (above c i) (mid c j) (past c j (top_edge y) alpha (ns i) (qv c i) (px_idx W H c (y - 1) i) (λ f. over c (y - 1) i (omega (arith, eqb-false y 0 f)) l refl) m))
      (comm_sym (corner c i) (mid c j) (past c j (right_edge W i || top_edge y) alpha (ns i) (qd c i) (px_idx W H c (y - 1) (i + 1))
      (λ f. let g = neither (right_edge W i) (top_edge y) f in over c (y - 1) (i + 1) (omega (arith, eqb-false y 0 g.1)) (omega (arith, leb-false (W - 1) i g.0)) refl) m))

  -- a change in row y + 1 and those of row y - 1
  low_top : (c j : ℕ) (e : Bool) (q n : Float) (z : ℕ) → j < W → Comm (hit e alpha n q (px_idx W H c (y + 1) z)) (top c j)
  low_top c j e q n z m =
      let k = px_idx W H c (y + 1) z in
      comm_then (hit e alpha n q k) (above c j) (corner c j)
      (hit_comm e (top_edge y) alpha n q alpha (ns j) (qv c j) k (px_idx W H c (y - 1) j) (λ _ f i. omega (arith, next_row y W, above-row y W (omega (arith, eqb-false y 0 f)))))
      (hit_comm e (right_edge W j || top_edge y) alpha n q alpha (ns j) (qd c j) k (px_idx W H c (y - 1) (j + 1))
      (λ _ f i. let g = neither (right_edge W j) (top_edge y) f in omega (arith, next_row y W, above-row y W (omega (arith, eqb-false y 0 g.1)), leb-false (W - 1) j g.0)))

  low_rest : (c j : ℕ) (e : Bool) (q n : Float) (z : ℕ) → j < W → Comm (λ t. top c j (mid c j t)) (hit e alpha n q (px_idx W H c (y + 1) z))
  low_rest c j e q n z m =
      let k = px_idx W H c (y + 1) z in
      comm_sym (hit e alpha n q k) (λ t. top c j (mid c j t))
      (comm_then (hit e alpha n q k) (mid c j) (top c j) (past c j e alpha n q k (λ _. under c z) m) (low_top c j e q n z m))

  low_comm : (c i j : ℕ) → j < W → Comm (λ t. top c j (mid c j t)) (low c i)
  low_comm c i j m =
      comm_then (λ t. top c j (mid c j t)) (below c i) (foot c i) (low_rest c j (bottom_edge H y) (qv c i) (ns i) i m) (low_rest c j (left_edge i || bottom_edge H y) (qd c i) (ns i) (i - 1) m)

  -- ---- columns
  right_own : (c i j : ℕ) → i ≤ j → Comm (right c j) (own c i)
  right_own c i j l = hit_comm (right_edge W j) false alpha (ns j) (qh c j) alpha (ns i) (qo c i) (px_idx W H c y (j + 1)) (px_idx W H c y i) (λ _ _ e. omega arith)

  right_left : (c i j : ℕ) → i ≤ j → Comm (right c j) (left c i)
  right_left c i j l = hit_comm (right_edge W j) (left_edge i) alpha (ns j) (qh c j) alpha (ns i) (qh c i) (px_idx W H c y (j + 1)) (px_idx W H c y (i - 1)) (λ _ _ e. omega arith)

  own_left : (c i j : ℕ) → i < j → Comm (own c j) (left c i)
  own_left c i j l = hit_comm false (left_edge i) alpha (ns j) (qo c j) alpha (ns i) (qh c i) (px_idx W H c y j) (px_idx W H c y (i - 1)) (λ _ _ e. omega arith)

  corner_above : (c i j : ℕ) → i ≤ j → Comm (corner c j) (above c i)
  corner_above c i j l = hit_comm (right_edge W j || top_edge y) (top_edge y) alpha (ns j) (qd c j) alpha (ns i) (qv c i) (px_idx W H c (y - 1) (j + 1)) (px_idx W H c (y - 1) i) (λ _ _ e. omega arith)

  below_foot : (c i j : ℕ) → i < j → Comm (below c j) (foot c i)
  below_foot c i j l = hit_comm (bottom_edge H y) (left_edge i || bottom_edge H y) alpha (ns j) (qv c j) alpha (ns i) (qd c i) (px_idx W H c (y + 1) j) (px_idx W H c (y + 1) (i - 1)) (λ _ _ e. omega arith)

  mids : (c : ℕ) (g : List Float) → upto (mid c) W g ≡ tgv_besides c g
  mids c g =
      upto_ext (mid c) (λ x t. left c x (own c x (right c x t))) W g (λ x t l. comm_then (right c x) (own c x) (left c x) (right_own c x x (le_refl x)) (right_left c x x (le_refl x)) t)
      ∙ apart (right c) (λ x t. left c x (own c x t)) W (λ i j l b. comm_then (right c j) (own c i) (left c i) (right_own c i j (omega arith)) (right_left c i j (omega arith))) g
      ∙ apart (own c) (left c) W (λ i j l b. own_left c i j l) (upto (right c) W g)

  tops : (c : ℕ) (g : List Float) → upto (top c) W g ≡ tgv_aboves c g
  tops c g =
      upto_ext (top c) (λ x t. above c x (corner c x t)) W g (λ x t l. corner_above c x x (le_refl x) t)
      ∙ apart (corner c) (above c) W (λ i j l b. corner_above c i j (omega arith)) g

  lows : (c : ℕ) (g : List Float) → upto (low c) W g ≡ tgv_belows c g
  lows c g = apart (below c) (foot c) W (λ i j l b. below_foot c i j l) g

  kinds : (c : ℕ) (g : List Float) → upto (tgv_turn c) W g ≡ tgv_kinds c g
  kinds c g =
      upto_ext (tgv_turn c) (λ x t. low c x (top c x (mid c x t))) W g
      (λ x t l. ap (foot c x) (sym (low_corner x l (above c x (mid c x t)))))
      ∙ apart (λ x t. top c x (mid c x t)) (low c) W (λ i j l b. low_comm c i j b) g
      ∙ ap (upto (low c) W) (apart (mid c) (top c) W (λ i j l b. top_mid c i j (omega arith) b) g ∙ ap (upto (top c) W) (mids c g) ∙ tops c (tgv_besides c g))
      ∙ lows c (tgv_aboves c (tgv_besides c g))
    where
      low_corner : (x : ℕ) → x < W → Comm (below c x) (corner c x)
      low_corner x l =
          hit_comm (bottom_edge H y) (right_edge W x || top_edge y) alpha (ns x) (qv c x) alpha (ns x) (qd c x) (px_idx W H c (y + 1) x) (px_idx W H c (y - 1) (x + 1))
          (λ _ f i. let g = neither (right_edge W x) (top_edge y) f in omega (arith, next_row y W, above-row y W (omega (arith, eqb-false y 0 g.1)), leb-false (W - 1) x g.0))

  pub tgv-kinds : (n : ℕ) (g : List Float) → upto (λ x. upto (λ c. tgv_turn c x) n) W g ≡ upto tgv_kinds n g
  tgv-kinds n g = turned tgv_turn W n (channels n) g ∙ upto_ext (λ c. upto (tgv_turn c) W) tgv_kinds n g (λ c t l. kinds c t)
