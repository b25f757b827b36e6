-- Project: of planes of at most 5 times 2 ^ e it leaves values of at most 2 ^ (e + 4), and saved coefficients of at most 2 ^ 19.
use mathlib.Core.Path.{◌≡◌, refl, sym, subst}
use mathlib.Core.List.{List}
use Prim.Native.Nat.{ℕ, suc, ◌+◌, ◌*◌, ◌%◌, ◌^◌, ◌≤◌, ◌<◌, zero-le}
use native.Mathlib.Nat.{le_trans, le_of_eq, le_refl, lt_of_lt_of_le, lt_of_le_of_lt, add-zero, zero-mul, mul_comm, mul_assoc, mul-le-mul_right, add-mul, add-le-add}
use native.Mathlib.Omega.{arith}
use lib.Dec.{lit<, lit≤}
use lib.Pow.{pow-add, pow_mono, pow-lt}
use lib.ListN.{length, length-set}
use lib.Ieee.{Float, nan, binary32}
use lib.Ieee.Fits.{add-fits, sub-fits}
use Rattle.fold.specs.Fold.{upto}
use Rattle.fold.proofs.Grid.{in_grid}
use Rattle.fold.proofs.Loops.{upto-keeps}
use Rattle.fold.proofs.Turned.{turn_at, turned_above, turned_at}
use Rattle.float.specs.Names.{◌⊕◌, ◌⊖◌, val}
use Rattle.utils.specs.Blocks.{on_block}
use Rattle.utils.specs.Dct.{dct8x8, idct8x8}
use Rattle.start.specs.Coef.{Coef, Covers, block_count, low_at, high_at, px_count, quant_at}
use Rattle.projection.specs.Projection.{Boxed, Split, back, back_at, clamp_block, clamped, keep, keep_at, mean_of, onto_box, split, split_at}
use Rattle.start.proofs.Cover.{blocks_fill}
use Rattle.projection.proofs.Lengths.{clamped_length, dcts_length}
use Rattle.projection.proofs.Writes.{clamp_value, clamps_loop}
use Rattle.bounds.proofs.Magnitude.{Held, add_most, sub_most}
use Rattle.bounds.proofs.Good.{Good, Within, AllGood, Parted, good_more, set_good, upto_inv, nest_inv, staged, staged_start, staged_end}
use Rattle.bounds.proofs.Powers.{held}
use Rattle.bounds.proofs.Copies.{dcts_parted, idcts_parted}
use Rattle.bounds.proofs.Intervals.{clamped_good}
use Rattle.bounds.proofs.Start.{CoefOk}
use Rattle.bounds.proofs.Cells.{Turned, each, number, mean_good, turned_read, change_turned}

-- ---- the coefficients: transformed, clamped, kept, and transformed back

module _ (C : Coef) (ok : CoefOk C) where
  abbrev clamp : ℕ → Float → Float
  clamp = clamp_value C.levels C.table

  clamps_parted : (b c n : ℕ) (x : List Float) → n * 64 ≤ length x → Parted (n * 64) b c x → Parted (n * 64) (2 ^ 168) c (upto (clamp_block C.levels C.table) n x)
  clamps_parted b c n x h r =
      subst (Parted (n * 64) (2 ^ 168) c) (sym (clamps_loop C.levels C.table n x))
      (record {
        first = λ k l.
            subst (Good (2 ^ 168)) (sym (turned_at nan clamp x (n * 64) h k l))
            (clamped_good (low_at C.levels k) (high_at C.levels k) (quant_at C.table (k % 64)) (ok.lows_ok k) (ok.highs_ok k) (ok.table-ok (k % 64)) (ok.order k) b (val x k) (r.first k l));
        past = λ k p l. subst (Good c) (sym (turned_above nan clamp x (n * 64) k p)) (r.past k p (lt_of_lt_of_le l (le_of_eq (long x (n * 64)))));
      })
    where
      long : (x : List Float) (n : ℕ) → length (upto (turn_at nan clamp) n x) ≡ length x
      long x n = upto-keeps length (turn_at nan clamp) (λ k a. simp length-set) n x

  module _ (W H : ℕ) (k : Covers C.own W H) where
    fill : block_count C.own * 64 ≡ px_count C.own
    fill = blocks_fill C.own.width C.own.height k.eights.0 k.eights.1

    clamped_parted : (n c : ℕ) (x : List Float) → n + 8 < 277 → px_count C.own ≤ length x → Parted (px_count C.own) (2 ^ n) c x → Parted (px_count C.own) (2 ^ 168) c (clamped C x)
    unfolding clamped
    clamped_parted n c x h l r =
        let m = block_count C.own in
        let y = upto (on_block dct8x8) m x in
        let l' : m * 64 ≤ length x = le_trans (le_of_eq fill) l in
        subst (λ (z : ℕ). Parted z (2 ^ 168) c (upto (clamp_block C.levels C.table) m y)) fill
        (clamps_parted (2 ^ (n + 8)) c m y (le_trans l' (le_of_eq (sym (dcts_length m x))))
        (dcts_parted n c m x h l' (subst (λ (z : ℕ). Parted z (2 ^ n) c x) (sym fill) r)))

    -- new values of the blocks, and their coefficients
    pub onto_across : (n c : ℕ) (b : Boxed) → n + 8 < 277 → px_count C.own ≤ length b.across → Parted (px_count C.own) (2 ^ n) c b.across → Parted (px_count C.own) (2 ^ 176) c (onto_box C b).across
    unfolding onto_box
    onto_across n c b h l r =
        let m = block_count C.own in
        let x = clamped C b.across in
        let l' : m * 64 ≤ length x = le_trans (le_of_eq fill) (le_trans l (le_of_eq (sym (clamped_length C b.across)))) in
        subst (λ (z : ℕ). Parted z (2 ^ 176) c (upto (on_block idct8x8) m x)) fill
        (idcts_parted 168 c m x (lit< tt) l' (subst (λ (z : ℕ). Parted z (2 ^ 168) c x) (sym fill) (clamped_parted n c b.across h l r)))

    pub onto_saved : (n c : ℕ) (b : Boxed) → n + 8 < 277 → px_count C.own ≤ length b.across → Parted (px_count C.own) (2 ^ n) c b.across → AllGood (2 ^ 168) b.saved → AllGood (2 ^ 168) (onto_box C b).saved
    unfolding onto_box keep
    onto_saved n c b h l r s =
        let x = clamped C b.across in
        let q = clamped_parted n c b.across h l r in
        upto_inv (λ k. AllGood (2 ^ 168)) (keep_at x) (px_count C.own) (λ k a m g. set_good (2 ^ 168) a k (val x k) g (q.first k m)) b.saved s

-- ---- the bounds of a step: B is 2 ^ e

pub times_held : (j e : ℕ) → j ≤ 2 ^ 7 → e ≤ 252 → Held (j * 2 ^ e)
times_held j e small h =
    let i : 7 + e < 277 = omega arith in
    record { j = j; i = e; is = refl; few = lt_of_le_of_lt small (lit< tt); under = lt_of_le_of_lt (le_trans (mul-le-mul_right (2 ^ e) small) (le_of_eq (sym (pow-add 2 7 e)))) (pow-lt i) }

pub times_most : (j k e : ℕ) → j ≤ 2 ^ k → j * 2 ^ e ≤ 2 ^ (k + e)
times_most j k e h = le_trans (mul-le-mul_right (2 ^ e) h) (le_of_eq (sym (pow-add 2 k e)))

module _ (C : Coef) (ok : CoefOk C) (W H : ℕ) (k : Covers C.own W H) (e : ℕ) (low : 176 ≤ e) (high : e ≤ 252) where
  five_ten : 5 * 2 ^ e ≤ 10 * 2 ^ e
  five_ten = mul-le-mul_right (2 ^ e) (lit≤ tt)

  ten_end : 10 * 2 ^ e ≤ 2 ^ (4 + e)
  ten_end = times_most 10 4 e (lit≤ tt)

  many : (j : ℕ) → j ≤ 16 → Held (j * (5 * 2 ^ e))
  many j h = subst Held (mul_assoc j 5 (2 ^ e)) (times_held (j * 5) e (le_trans (small j h) (lit≤ tt)) high)
    where
      small : (j : ℕ) → j ≤ 16 → j * 5 ≤ 80
      small j h = omega arith

  -- ---- the means taken off

  abbrev Apart : ℕ → Split → Type 0
  Apart c s = Turned C.own W H k (5 * 2 ^ e) (10 * 2 ^ e) five_ten (c * each C.own W H k) s.plane × AllGood (2 ^ (3 + e)) s.down
      × (px_count C.own ≤ length s.down)

  split-at : (cy cx : ℕ) (s : Split) → cy < C.own.height → cx < C.own.width → Apart (cy * C.own.width + cx) s → Apart (suc (cy * C.own.width + cx)) (split_at C.own W cy cx s)
  unfolding split_at
  split-at cy cx s h l r =
      let o = C.own in
      let mean = mean_of o W s.plane cy cx in
      let at = cy * o.width + cx in
      let g : Good (5 * 2 ^ e) mean =
      mean_good o W H k (5 * 2 ^ e) many s.plane cy cx
      (λ sy sx m n. turned_read o W H k (5 * 2 ^ e) (10 * 2 ^ e) five_ten cy cx sy sx h l m n 0 (zero-le) s.plane (subst (λ (t : ℕ). Turned o W H k (5 * 2 ^ e) (10 * 2 ^ e) five_ten t s.plane) (sym (add-zero (at * each o W H k))) r.0)) in (
        change_turned o W H k (5 * 2 ^ e) (10 * 2 ^ e) five_ten (λ x. x ⊖ mean)
            (λ x p. (sub-fits binary32 x mean, sub_most (5 * 2 ^ e) (5 * 2 ^ e) (10 * 2 ^ e) x mean (times_held 10 e (lit≤ tt) high) (le_of_eq (sym (add-mul 5 5 (2 ^ e)))) p.1 g.1))
            cy cx h l s.plane r.0,
        set_good (2 ^ (3 + e)) s.down at mean r.1 (good_more (5 * 2 ^ e) (2 ^ (3 + e)) mean (times_most 5 3 e (lit≤ tt)) g),
        le_trans r.2 (le_of_eq (sym (length-set s.down at mean))),
      )

  pub record SplitGood (s : Split) : Type 0 where
    pub plane_long : W * H ≤ length s.plane
    pub down_long : px_count C.own ≤ length s.down
    pub plane_good : AllGood (10 * 2 ^ e) s.plane
    pub down_good : AllGood (2 ^ (3 + e)) s.down

  pub split_good : (s : Split) → W * H ≤ length s.plane → px_count C.own ≤ length s.down → AllGood (5 * 2 ^ e) s.plane → AllGood (2 ^ (3 + e)) s.down → SplitGood (split C.own W s)
  unfolding split
  split_good s long room p d =
      let o = C.own in
      let t = upto (λ cy s. upto (split_at o W cy) o.width s) o.height s in
      let r : Apart (o.height * o.width) t =
      nest_inv Apart (split_at o W) o.height o.width (λ cy cx s h l r. split-at cy cx s h l r) s
      ((long, subst (λ (z : ℕ). Within (staged (number o W H k) (5 * 2 ^ e) (10 * 2 ^ e) z) s.plane) (sym (zero-mul (each o W H k))) (staged_start (number o W H k) (5 * 2 ^ e) (10 * 2 ^ e) five_ten s.plane p)), d, room) in
      record { plane_long = r.0.0; down_long = r.2; plane_good = staged_end (number o W H k) (5 * 2 ^ e) (10 * 2 ^ e) five_ten (o.height * o.width * each o W H k) t.plane r.0.1; down_good = r.1 }

  -- ---- and the new values put on

  pub back_good : (new plane : List Float) → W * H ≤ length plane → ((i : ℕ) → i < px_count C.own → Good (2 ^ 176) (val new i)) → AllGood (10 * 2 ^ e) plane → AllGood (2 ^ (4 + e)) (back C.own W new plane)
  unfolding back
  back_good new plane long g p =
      let o = C.own in
      let a = 10 * 2 ^ e in
      let b = 2 ^ (4 + e) in
      let r =
      nest_inv (λ c q. Turned o W H k a b ten_end (c * each o W H k) q) (back_at o W new) o.height o.width
      (λ cy cx q h l s.
      let v = val new (cy * o.width + cx) in
      let v-good = g (cy * o.width + cx) (lt_of_lt_of_le (in_grid cy o.height cx o.width h l) (le_of_eq (mul_comm o.height o.width))) in
      change_turned o W H k a b ten_end (λ x. x ⊕ v)
      (λ x w. (add-fits binary32 x v, add_most a (2 ^ 176) b x v (held (4 + e) (omega arith)) room w.1 v-good.1))
      cy cx h l q s)
      plane (long, subst (λ (z : ℕ). Within (staged (number o W H k) a b z) plane) (sym (zero-mul (each o W H k))) (staged_start (number o W H k) a b ten_end plane p)) in
      staged_end (number o W H k) a b ten_end (o.height * o.width * each o W H k) (upto (λ cy q. upto (back_at o W new cy) o.width q) o.height plane) r.1
    where
      room : 10 * 2 ^ e + 2 ^ 176 ≤ 2 ^ (4 + e)
      room = le_trans (add-le-add (le_refl (10 * 2 ^ e)) (pow_mono low)) (le_trans (le_of_eq (more (2 ^ e))) (times_most 11 4 e (lit≤ tt)))
        where
          more : (x : ℕ) → 10 * x + x ≡ 11 * x
          more x = omega arith
