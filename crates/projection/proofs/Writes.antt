-- What project leaves at each place of saved: the clamped values, and past them what was lent.
use Rattle.std.proofs.Common.{◌≡◌, ℕ, zero, suc, ◌+◌, ◌*◌, ◌%◌, ◌<◌, ◌≤◌, Bool, true, false, cond, List, length, set, sym, refl, ap, ◌∙◌, arith, get_or-set_other}
use Rattle.std.proofs.Common.{[], ◌∷◌, ◌++◌, ◌||◌, ℤ, pos, get_or, slice_set, take, drop, length-set, take-suc}
use Rattle.std.proofs.lemmas.List.{drop-set-lt, take-append-drop}
use lib.Seq.{take-suc-set}
use lib.Ieee.{Float, lt, nan}
use Rattle.fold.specs.Fold.{upto}
use Rattle.fold.proofs.Loops.{upto-keeps, upto_ext, upto_nest}
use Rattle.fold.specs.Part.{part}
use Rattle.fold.proofs.Parts.{part_at}
use Rattle.fold.proofs.Grid.{column_of}
use Rattle.fold.proofs.Turned.{turn_at, turned_above, turned_at}
use Rattle.float.specs.Names.{val}
use Rattle.float.specs.Ops.{clamp}
use Rattle.utils.specs.Blocks.{on_block, to_blocks}
use Rattle.utils.specs.Dct.{dct8x8}
use Rattle.utils.proofs.Lengths.{to_blocks_length}
use Rattle.interval.specs.Interval.{clamp_to, highest, lowest, outside}
use Rattle.start.specs.Coef.{Coef, Eights, Lent, block_count, block_h, block_w, Levels, low_at, high_at, pairs, px_count, quant_at}
use Rattle.start.specs.declared.coef.Own.{Own}
use Rattle.utils.specs.Lanes.{eight}
use Rattle.utils.proofs.Rows.{eight_at}
use Rattle.projection.specs.Projection.{Box, Boxed, clamp_at, clamp_block, clamped, clipped, clipped_at, clipped_block, count_at, keep, keep_at, onto_box, project_full, project_means, project_onto_box, resample, split, tally, transformed}
use Rattle.start.proofs.Cover.{blocks_fill}
use Rattle.projection.proofs.Lengths.{dcts_length}

abbrev pub clamp_value : Levels → List ℕ → ℕ → Float → Float
clamp_value levels table k x = clamp_to (low_at levels k) (high_at levels k) (quant_at table (k % 64)) x

-- all blocks as one loop over their places
pub clamps_loop : (levels : Levels) (table : List ℕ) (n : ℕ) (x : List Float) → upto (clamp_block levels table) n x ≡ upto (turn_at nan (clamp_value levels table)) (n * 64) x
unfolding clamp_block clamp_at
clamps_loop levels table n x =
    let v = clamp_value levels table in
    upto_ext (clamp_block levels table) (λ i t. upto (λ j. turn_at nan v (i * 64 + j)) 64 t) n x
    (λ i t b. upto_ext (clamp_at levels table i) (λ j. turn_at nan v (i * 64 + j)) 64 t
    (λ j s m.
    ap (λ (q : ℕ). set s (i * 64 + j) (clamp_to (low_at levels (i * 64 + j)) (high_at levels (i * 64 + j)) (quant_at table q) (val s (i * 64 + j))))
    (sym (column_of i 64 j m))))
    ∙ upto_nest (turn_at nan v) 64 n x

clamps_at : (C : Coef) (x : List Float) → block_count C.own * 64 ≤ length x → (k : ℕ) → k < block_count C.own * 64
    → val (upto (clamp_block C.levels C.table) (block_count C.own) x) k ≡ clamp_value C.levels C.table k (val x k)
clamps_at C x h k l =
    ap (λ (s : List Float). val s k) (clamps_loop C.levels C.table (block_count C.own) x)
    ∙ turned_at nan (clamp_value C.levels C.table) x (block_count C.own * 64) h k l

-- saved of one call of onto_box, and the coefficients that were clamped
module _ (C : Coef) (e : Eights C.own) (b : Boxed) where
  onto_at : px_count C.own ≤ length b.across → px_count C.own ≤ length b.saved → (k : ℕ) → k < px_count C.own
      → val (onto_box C b).saved k ≡ clamp_value C.levels C.table k (val (upto (on_block dct8x8) (block_count C.own) b.across) k)
  unfolding onto_box clamped keep
  onto_at h g k l =
      let n = blocks_fill C.own.width C.own.height e.0 e.1 in
      let y = upto (on_block dct8x8) (block_count C.own) b.across in
      turned_at nan (λ j v. val (clamped C b.across) j) b.saved (px_count C.own) g k l
      ∙ clamps_at C y (omega (arith, n, dcts_length (block_count C.own) b.across)) k (omega (arith, n))

  onto_above : (k : ℕ) → px_count C.own ≤ k → val (onto_box C b).saved k ≡ val b.saved k
  unfolding onto_box keep
  onto_above k l = turned_above nan (λ j v. val (clamped C b.across) j) b.saved (px_count C.own) k l

-- Saved after project: over its first w × h places the clamp of the transformed value, and past them what was lent.
module _ (C : Coef) (e : Eights C.own) (W H : ℕ) (b : Box) where
  split_place : (r : Bool) (k : ℕ) → px_count C.own ≤ length b.across → px_count C.own ≤ length b.saved → k < px_count C.own
      → val (cond r (project_means C W b) (project_full C b)).saved k
      ≡ clamp_value C.levels C.table k
      (val (upto (on_block dct8x8) (block_count C.own)
      (to_blocks C.own.width (block_w C.own) (block_h C.own) (cond r (split C.own W (record { plane = b.plane; down = b.down })).down b.plane) b.across)) k)
  unfolding project_means project_full
  split_place true k h g l =
      let o = C.own in
      let s = split o W (record { plane = b.plane; down = b.down }) in
      onto_at C e (record { across = to_blocks o.width (block_w o) (block_h o) s.down b.across; saved = b.saved })
      (omega (arith, to_blocks_length o.width (block_w o) (block_h o) s.down b.across)) g k l
  split_place false k h g l =
      let o = C.own in
      onto_at C e (record { across = to_blocks o.width (block_w o) (block_h o) b.plane b.across; saved = b.saved })
      (omega (arith, to_blocks_length o.width (block_w o) (block_h o) b.plane b.across)) g k l

  pub projected_saved : px_count C.own ≤ length b.across → px_count C.own ≤ length b.saved → (k : ℕ) → k < px_count C.own
      → val (project_onto_box C W H b).saved k
      ≡ clamp_to (low_at C.levels k) (high_at C.levels k) (quant_at C.table (k % 64)) (val (transformed C W H b) k)
  unfolding project_onto_box transformed
  projected_saved h g k l = split_place (resample C.own W H) k h g l

  above : (r : Bool) (k : ℕ) → px_count C.own ≤ k → val (cond r (project_means C W b) (project_full C b)).saved k ≡ val b.saved k
  unfolding project_means project_full
  above true k l = onto_above C e _ k l
  above false k l = onto_above C e _ k l

  pub projected_saved_above : (k : ℕ) → px_count C.own ≤ k → val (project_onto_box C W H b).saved k ≡ val b.saved k
  unfolding project_onto_box
  projected_saved_above k l = above (resample C.own W H) k l

-- the copy of the first n values, as what stands before and after place n
kept_taken : (x saved : List Float) (n : ℕ) → n ≤ length x → n ≤ length saved → take n (upto (keep_at x) n saved) ≡ take n x
unfolding upto
kept_taken x saved zero h k = refl
kept_taken x saved (suc n) h k =
    let y = upto (keep_at x) n saved in
    take-suc-set y n (val x n) (omega (arith, upto-keeps length (keep_at x) (λ j a. simp length-set) n saved))
    ∙ ap (λ (t : List Float). t ++ (val x n ∷ [])) (kept_taken x saved n (omega arith) (omega arith))
    ∙ sym (take-suc x n nan h)

kept_rest : (x saved : List Float) (m n : ℕ) → n ≤ m → drop m (upto (keep_at x) n saved) ≡ drop m saved
unfolding upto
kept_rest x saved m zero h = refl
kept_rest x saved m (suc n) h = drop-set-lt m (upto (keep_at x) n saved) n (val x n) h ∙ kept_rest x saved m n (omega arith)

pub kept : (n : ℕ) (x saved : List Float) → n ≤ length x → n ≤ length saved → take n x ++ drop n saved ≡ keep n x saved
unfolding keep
kept n x saved h k =
    let y = upto (keep_at x) n saved in
    sym (ap (λ (t : List Float). t ++ drop n saved) (kept_taken x saved n h k))
    ∙ sym (ap (λ (t : List Float). take n y ++ t) (kept_rest x saved n n (omega arith)))
    ∙ take-append-drop n y

-- places that the clamping has not reached
pub clamp_ahead : (levels : Levels) (table : List ℕ) (i n : ℕ) (x : List Float) (p : ℕ) → i * 64 + n ≤ p → val (upto (clamp_at levels table i) n x) p ≡ val x p
unfolding upto clamp_at
clamp_ahead levels table i zero x p h = refl
clamp_ahead levels table i (suc n) x p h =
    let y = upto (clamp_at levels table i) n x in
    get_or-set_other y (i * 64 + n) p (clamp_to (low_at levels (i * 64 + n)) (high_at levels (i * 64 + n)) (quant_at table n) (val y (i * 64 + n))) nan (λ e. omega arith) ∙ clamp_ahead levels table i n x p (omega arith)

-- the ends of the intervals of row y of block i, by the parts of the levels and quantisers that are lent
pub ends : (o : Own) (lows highs : List ℤ) (table : List ℕ) → Lent o (pairs lows highs) table → (i y : ℕ) → i * 64 + 64 ≤ px_count o → y < 8 → (j : ℕ) → j < 8
    → (val (eight (λ j. lowest (get_or (part lows (i * 64 + y * 8) (i * 64 + y * 8 + 8)) j (pos 0)) (get_or (part table (y * 8) (y * 8 + 8)) j 0))) j
    ≡ lowest (low_at (pairs lows highs) (i * 64 + (y * 8 + j))) (quant_at table (y * 8 + j)))
    × (val (eight (λ j. highest (get_or (part highs (i * 64 + y * 8) (i * 64 + y * 8 + 8)) j (pos 0)) (get_or (part table (y * 8) (y * 8 + 8)) j 0))) j
    ≡ highest (high_at (pairs lows highs) (i * 64 + (y * 8 + j))) (quant_at table (y * 8 + j)))
ends o lows highs table lent i y h r j l =
    let a = i * 64 + y * 8 in
    let k : a + j ≡ i * 64 + (y * 8 + j) = omega arith in
    let low : get_or (part lows a (a + 8)) j (pos 0) ≡ get_or lows (i * 64 + (y * 8 + j)) (pos 0) =
    part_at lows a (a + 8) (omega arith) (omega arith) j (pos 0) (omega arith) ∙ ap (λ (p : ℕ). get_or lows p (pos 0)) k in
    let high : get_or (part highs a (a + 8)) j (pos 0) ≡ get_or highs (i * 64 + (y * 8 + j)) (pos 0) =
    part_at highs a (a + 8) (omega arith) (omega arith) j (pos 0) (omega arith) ∙ ap (λ (p : ℕ). get_or highs p (pos 0)) k in
    let q : get_or (part table (y * 8) (y * 8 + 8)) j 0 ≡ get_or table (y * 8 + j) 0 =
    part_at table (y * 8) (y * 8 + 8) (omega arith) (omega arith) j 0 (omega arith) in
    let lows_at : ℕ → Float = λ j. lowest (get_or (part lows a (a + 8)) j (pos 0)) (get_or (part table (y * 8) (y * 8 + 8)) j 0) in
    let highs_at : ℕ → Float = λ j. highest (get_or (part highs a (a + 8)) j (pos 0)) (get_or (part table (y * 8) (y * 8 + 8)) j 0) in (
      eight_at lows_at j l ∙ rw (low, q),
      eight_at highs_at j l ∙ rw (high, q),
    )

-- row y of block i, by the ends of its intervals
module _ (levels : Levels) (table : List ℕ) (i y : ℕ) (ends_low ends_high : ℕ → Float)
    (low_is : (j : ℕ) → j < 8 → ends_low j ≡ lowest (low_at levels (i * 64 + (y * 8 + j))) (quant_at table (y * 8 + j)))
    (high_is : (j : ℕ) → j < 8 → ends_high j ≡ highest (high_at levels (i * 64 + (y * 8 + j))) (quant_at table (y * 8 + j))) where
  abbrev at : ℕ
  at = i * 64 + y * 8

  pub clamp_row_is : (x : List Float)
      → upto (λ j t. slice_set t (at + j) (clamp (val t (at + j)) (ends_low j) (ends_high j))) 8 x ≡ upto (λ j. clamp_at levels table i (y * 8 + j)) 8 x
  unfolding clamp_at
  clamp_row_is x =
      upto_ext (λ j t. slice_set t (at + j) (clamp (val t (at + j)) (ends_low j) (ends_high j))) (λ j. clamp_at levels table i (y * 8 + j)) 8 x
      (λ j t l.
      let k : at + j ≡ i * 64 + (y * 8 + j) = omega arith in
      let a = low_is j l in
      let b = high_is j l in
      ap (λ (p : ℕ). slice_set t p (clamp (val t p) (ends_low j) (ends_high j))) k
      ∙ ap (λ (v : Float). slice_set t (i * 64 + (y * 8 + j)) (clamp (val t (i * 64 + (y * 8 + j))) v (ends_high j))) a
      ∙ ap (λ (v : Float). slice_set t (i * 64 + (y * 8 + j)) (clamp (val t (i * 64 + (y * 8 + j))) (lowest (low_at levels (i * 64 + (y * 8 + j))) (quant_at table (y * 8 + j))) v)) b)

  pub clip_row_is : (x t : List Float) → t ≡ upto (λ y t. upto (λ j. clamp_at levels table i (y * 8 + j)) 8 t) y x → (n : ℕ)
      → upto (λ j n. tally (lt (val t (at + j)) (ends_low j) || lt (ends_high j) (val t (at + j))) n) 8 n ≡ upto (λ j. clipped_at levels table x i (y * 8 + j)) 8 n
  unfolding outside
  clip_row_is x t e n =
      let so_far : t ≡ upto (clamp_at levels table i) (y * 8) x = e ∙ upto_nest (clamp_at levels table i) 8 y x in
      upto_ext (λ j n. tally (lt (val t (at + j)) (ends_low j) || lt (ends_high j) (val t (at + j))) n) (λ j. clipped_at levels table x i (y * 8 + j)) 8 n
      (λ j m l.
      let p = i * 64 + (y * 8 + j) in
      let k : at + j ≡ p = omega arith in
      let v : val t (at + j) ≡ val x p =
      ap (λ (q : ℕ). val t q) k ∙ ap (λ (s : List Float). val s p) so_far ∙ clamp_ahead levels table i (y * 8) x p (omega arith) in
      rw (v, low_is j l, high_is j l))

blocks_ahead : (levels : Levels) (table : List ℕ) (n : ℕ) (x : List Float) (p : ℕ) → n * 64 ≤ p → val (upto (clamp_block levels table) n x) p ≡ val x p
unfolding upto clamp_block
blocks_ahead levels table zero x p h = refl
blocks_ahead levels table (suc n) x p h = clamp_ahead levels table n 64 (upto (clamp_block levels table) n x) p (omega arith) ∙ blocks_ahead levels table n x p (omega arith)

pub clipped_ahead : (levels : Levels) (table : List ℕ) (x : List Float) (i n : ℕ) → clipped_block levels table (upto (clamp_block levels table) i x) i n ≡ clipped_block levels table x i n
unfolding clipped_block
clipped_ahead levels table x i n =
    upto_ext (clipped_at levels table (upto (clamp_block levels table) i x) i) (clipped_at levels table x i) 64 n
    (λ j t l.
    ap (λ (v : Float). tally (outside (low_at levels (i * 64 + j)) (high_at levels (i * 64 + j)) (quant_at table j) v) t)
    (blocks_ahead levels table i x (i * 64 + j) (omega arith)))

pub clipped_blocks : (C : Coef) → Eights C.own → (x : List Float) → upto (clipped_block C.levels C.table x) (block_count C.own) 0 ≡ clipped C x
unfolding clipped_block clipped
clipped_blocks C e x =
    upto_ext (clipped_block C.levels C.table x) (λ i t. upto (λ j. count_at C x (i * 64 + j)) 64 t) (block_count C.own) 0
    (λ i t b. upto_ext (clipped_at C.levels C.table x i) (λ j. count_at C x (i * 64 + j)) 64 t
    (λ j s m.
    ap (λ (q : ℕ). tally (outside (low_at C.levels (i * 64 + j)) (high_at C.levels (i * 64 + j)) (quant_at C.table q) (val x (i * 64 + j))) s)
    (sym (column_of i 64 j m))))
    ∙ upto_nest (count_at C x) 64 (block_count C.own) 0
    ∙ ap (λ (n : ℕ). upto (count_at C x) n 0) (blocks_fill C.own.width C.own.height e.0 e.1)

-- no more than there are places
tally_most : (b : Bool) (n : ℕ) → tally b n ≤ n + 1
tally_most true n = omega arith
tally_most false n = omega arith

count_most : (C : Coef) (x : List Float) (n : ℕ) → upto (count_at C x) n 0 ≤ n
unfolding upto
count_most C x zero = omega arith
count_most C x (suc n) = omega (arith, tally_most (outside (low_at C.levels n) (high_at C.levels n) (quant_at C.table (n % 64)) (val x n)) (upto (count_at C x) n 0), count_most C x n)

pub clipped_most : (C : Coef) (x : List Float) → clipped C x ≤ px_count C.own
unfolding clipped
clipped_most C x = count_most C x (px_count C.own)
