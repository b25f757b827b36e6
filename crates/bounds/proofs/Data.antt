-- The job data leaves a gradient of at most 2 ^ 18 times 2 ^ 39.
use mathlib.Core.Path.{◌≡◌, refl, sym, ◌∙◌, subst}
use mathlib.Core.Bool.{Bool, true, false, cond}
use mathlib.Core.List.{List}
use Prim.Native.Nat.{ℕ, ◌+◌, ◌-◌, ◌*◌, ◌/◌, ◌^◌, ◌≤◌, ◌<◌}
use native.Mathlib.Nat.{le_trans, le_of_eq, le_refl, lt_of_lt_of_le, lt_of_le_of_lt, mul-one, mul-le-mul_right, zero-mul, zero-add, mul_comm, mul_assoc, mul_left_comm, mul-le-mul}
use native.Mathlib.Omega.{arith}
use lib.Count.{count_trailing_zeros}
use lib.Dec.{lit<, lit≤}
use lib.ListN.{length, replicate, length-set}
use lib.Ieee.{Float, nan, inf, fin, binary32, neg, round, units, odd, size, span, climb, of_bits, of_fields, ne}
use lib.Ieee.Fits.{div-fits}
use Rattle.fold.specs.Fold.{upto}
use Rattle.fold.specs.Part.{part}
use Rattle.fold.proofs.Loops.{upto-keeps}
use Rattle.fold.proofs.Parts.{part_length}
use Rattle.fold.proofs.Turned.{turned_at}
use Rattle.float.specs.Names.{f0, f2, f255, val, float, ◌⊘◌, ◌⊗◌}
use Rattle.float.specs.Ops.{fused, square, root, halves, isqrt}
use Rattle.utils.proofs.Lengths.{idct_length}
use Rattle.steps.specs.Step.{data_alpha}
use Rattle.start.specs.declared.coef.Own.{Own}
use Rattle.start.specs.Coef.{Coef, Covers, block_w, block_h, quant_at, px_count, change, change_at, change_row}
use Rattle.fidelity.specs.DctGradient.{cosb_of, cosb_at, cosbs_of, spread, cell_at, cell_row, spread_block, gradient_block, gradient_line, dct_gradient, data_gradient}
use Rattle.start.proofs.Cover.{block_in}
use Rattle.bounds.proofs.Magnitude.{Most, Least, neg_most, fused_most, mul_most}
use Rattle.bounds.proofs.Ratio.{Floor, square_floor, ratio_most}
use Rattle.bounds.proofs.Constants.{float_some}
use Rattle.bounds.proofs.Good.{Good, AllGood, all_more, take_good, drop_good, zeros_good}
use Rattle.bounds.proofs.Powers.{held}
use Rattle.bounds.proofs.Intervals.{quant_most}
use Rattle.bounds.proofs.Transforms.{idct_good}
use Rattle.bounds.proofs.Counted.{Counted, counted_loop, counted_bump}
use Rattle.bounds.proofs.Start.{CoefOk}

-- ---- residues

-- a finite value that is at least c
pub floor_least : (b c : ℕ) (x : Float) → Most b x → Floor c x → Least c x
unfolding Most Floor Least
floor_least b c nan h f = h
floor_least b c (inf s) h f = h
floor_least b c (fin s m e) h f = f.1

square_least : (q : ℕ) → 1 ≤ q → q ≤ 255 → Floor (2 ^ 149) (square (float q))
unfolding square
square_least q h l =
    square_floor (2 ^ 149) (2 ^ 149) (float q) (record { j = 1; i = 149; is = refl; few = lit< tt }) (le_refl (2 ^ 149 * 2 ^ 149))
    (floor_least (2 ^ 157) (2 ^ 149) (float q) (quant_most q l) (float_some q h))

-- ---- a block of residues

-- of a level of at most 2 ^ 11 and a coefficient of at most 2 ^ 19: at most 2 ^ 21
pub residue_good : (level x : Float) (q : ℕ) → Most (2 ^ 160) level → 1 ≤ q → q ≤ 255 → Good (2 ^ 168) x → Good (2 ^ 170) (fused level (neg (float q)) x ⊘ square (float q))
residue_good level x q m h l g =
    let d = fused level (neg (float q)) x in (
      div-fits binary32 d (square (float q)),
      ratio_most (2 ^ 170) (2 ^ 149) (2 ^ 21) d (square (float q)) (held 170 (lit< tt)) (lit< tt) (lit≤ tt)
          (fused_most (2 ^ 160) (2 ^ 157) (2 ^ 168) (2 ^ 168) (2 ^ 170) level (neg (float q)) x (held 170 (lit< tt)) (lit≤ tt) (lit≤ tt) m
          (neg_most (2 ^ 157) (float q) (quant_most q l)) g.1)
          (square_least q h l),
    )

module _ (C : Coef) (ok : CoefOk C) (cos : List Float) (g : AllGood (2 ^ 168) cos) where
  abbrev residues : ℕ → List Float
  residues i = upto (cosb_at C.middle C.table i) 64 (part cos (i * 64) (i * 64 + 64))

  part_long : (i : ℕ) → i * 64 + 64 ≤ length cos → length (part cos (i * 64) (i * 64 + 64)) ≡ 64
  part_long i h = part_length cos (i * 64) (i * 64 + 64) (omega arith) h ∙ over i
    where
      over : (i : ℕ) → i * 64 + 64 - i * 64 ≡ 64
      over i = omega arith

  residues_long : (i : ℕ) → i * 64 + 64 ≤ length cos → length (residues i) ≡ 64
  residues_long i h = upto-keeps length (cosb_at C.middle C.table i) (λ k a. simp length-set) 64 (part cos (i * 64) (i * 64 + 64)) ∙ part_long i h

  residues_good : (i : ℕ) → i * 64 + 64 ≤ length cos → AllGood (2 ^ 170) (residues i)
  unfolding cosb_of
  residues_good i h k l =
      let s = part cos (i * 64) (i * 64 + 64) in
      let m : k < 64 = lt_of_lt_of_le l (le_of_eq (residues_long i h)) in
      let n = part_long i h in
      let s-good = take_good (2 ^ 168) (i * 64 + 64 - i * 64) _ (drop_good (2 ^ 168) (i * 64) cos g) in
      subst (Good (2 ^ 170))
      (sym (turned_at nan (λ j x. cosb_of (C.middle (i * 64 + j)) (quant_at C.table j) x) s 64 (le_of_eq (sym n)) k m))
      (residue_good (C.middle (i * 64 + k)) (val s k) (quant_at C.table k) (ok.middle_most (i * 64 + k)) (ok.table_some k m) (ok.table-ok k)
      (s-good k (lt_of_lt_of_le m (le_of_eq (sym n)))))

  cosbs_long : (i : ℕ) → i * 64 + 64 ≤ length cos → length (cosbs_of C.middle C.table cos i) ≡ 64
  unfolding cosbs_of
  cosbs_long i h = idct_length (residues i) ∙ residues_long i h

  cosbs_good : (i : ℕ) → i * 64 + 64 ≤ length cos → AllGood (2 ^ 178) (cosbs_of C.middle C.table cos i)
  unfolding cosbs_of
  cosbs_good i h = idct_good 170 (lit< tt) (residues i) (residues_long i h) (residues_good i h)

  -- ---- the gradient: alpha at most 2 ^ 10, values at most 2 ^ 29, so each write adds at most 2 ^ 39

  -- the writes of one own sample, and of one block
  abbrev per_sample : Own → ℕ
  per_sample o = o.vertical * (o.horizontal * 1)

  abbrev per_block : Own → ℕ
  per_block o = 8 * (8 * per_sample o)

  module _ (W : ℕ) (alpha : Float) (small : Most (2 ^ 159) alpha) where
    spread_counted : (v : Float) (cy cx t : ℕ) (g : List Float) → Most (2 ^ 178) v → Counted 188 t g → Counted 188 (t + per_sample C.own) (spread C.own W alpha v cy cx g)
    unfolding spread change
    spread_counted v cy cx t g q o =
        counted_loop 188 (C.own.horizontal * 1) (change_row (fused alpha v) C.own W cy cx) C.own.vertical
        (λ sy t g l o.
        counted_loop 188 1 (change_at (fused alpha v) C.own W cy cx sy) C.own.horizontal
        (λ sx t g l o. counted_bump 188 (2 ^ 159) (2 ^ 178) t _ alpha v g (lit≤ tt) (lit≤ tt) small q o) t g o)
        t g o

    block_counted : (by bx t : ℕ) (g : List Float) → (by * block_w C.own + bx) * 64 + 64 ≤ length cos → Counted 188 t g
        → Counted 188 (t + per_block C.own) (gradient_block C W alpha cos by bx g)
    unfolding gradient_block spread_block
    block_counted by bx t g h o =
        let i = by * block_w C.own + bx in
        let cosbs = cosbs_of C.middle C.table cos i in
        counted_loop 188 (8 * per_sample C.own) (cell_row C.own W alpha cosbs by bx) 8
        (λ y t g l o.
        counted_loop 188 (per_sample C.own) (cell_at C.own W alpha cosbs by bx y) 8
        (λ x t g m o.
        spread_counted (val cosbs (y * 8 + x)) (by * 8 + y) (bx * 8 + x) t g
        (cosbs_good i h (y * 8 + x) (lt_of_lt_of_le (under y x l m) (le_of_eq (sym (cosbs_long i h))))).1 o) t g o)
        t g o
      where
        under : (y x : ℕ) → y < 8 → x < 8 → y * 8 + x < 64
        under y x l m = omega arith

    -- all blocks, of a channel whose own plane saved holds
    module _ (H : ℕ) (k : Covers C.own W H) (long : px_count C.own ≤ length cos) where
      gradient_counted : (t : ℕ) (g : List Float) → Counted 188 t g → Counted 188 (t + block_h C.own * (block_w C.own * per_block C.own)) (dct_gradient C W alpha cos g)
      unfolding dct_gradient
      gradient_counted t g o =
          counted_loop 188 (block_w C.own * per_block C.own) (gradient_line C W alpha cos) (block_h C.own)
          (λ by t g l o.
          counted_loop 188 (per_block C.own) (gradient_block C W alpha cos by) (block_w C.own)
          (λ bx t g m o. block_counted by bx t g (le_trans (block_in C.own k.eights by bx l m) long) o) t g o)
          t g o

      -- they are no more than the full plane has places
      writes_few : block_h C.own * (block_w C.own * per_block C.own) ≤ 2 ^ 18
      writes_few =
          le_trans (le_of_eq (turn (block_h C.own) (block_w C.own) C.own.vertical C.own.horizontal))
          (mul-le-mul (le_trans (side C.own.height C.own.vertical H k.vertical_cover) k.height_most) (le_trans (side C.own.width C.own.horizontal W k.horizontal_cover) k.width_most))
        where
          turn : (bh bw d a : ℕ) → bh * (bw * (8 * (8 * (d * (a * 1))))) ≡ bh * 8 * d * (bw * 8 * a)
          turn bh bw d a = simp (mul-one, mul_assoc, mul_comm, mul_left_comm)

          side : (n f W : ℕ) → n * f ≤ W → n / 8 * 8 * f ≤ W
          side n f W h = le_trans (mul-le-mul_right f (less n)) h
            where
              less : (n : ℕ) → n / 8 * 8 ≤ n
              less n = omega arith

      pub dct_gradient_good : (g : List Float) → AllGood 0 g → AllGood (2 ^ 18 * 2 ^ 188) (dct_gradient C W alpha cos g)
      dct_gradient_good g z =
          let n = block_h C.own * (block_w C.own * per_block C.own) in
          let none : Counted 188 0 g = λ l. subst (λ (b : ℕ). AllGood b g) (sym (zero-mul (2 ^ 188))) z in
          all_more (n * 2 ^ 188) (2 ^ 18 * 2 ^ 188) (dct_gradient C W alpha cos g) (mul-le-mul_right (2 ^ 188) writes_few)
          (subst (λ (b : ℕ). Counted 188 b (dct_gradient C W alpha cos g)) (zero-add n) (gradient_counted 0 g none) (lt_of_le_of_lt writes_few (lit< tt)))

-- ---- alpha of a data weight of at most 1

root2_most : Most (2 ^ 150) (root f2)
unfolding Most root halves isqrt size span climb round units odd of_bits of_fields count_trailing_zeros
root2_most = lit≤ tt

f2_most : Most (2 ^ 150) f2
unfolding Most odd of_bits of_fields count_trailing_zeros
f2_most = lit≤ tt

f255_most : Most (2 ^ 157) f255
unfolding Most odd of_bits of_fields count_trailing_zeros
f255_most = lit≤ tt

data_alpha_most : (w : Float) → Most (2 ^ 149) w → Most (2 ^ 159) (data_alpha w)
unfolding data_alpha
data_alpha_most w h =
    mul_most (2 ^ 158) (2 ^ 150) (2 ^ 159) (w ⊗ f2 ⊗ f255) (root f2) (held 159 (lit< tt)) (lit≤ tt)
    (mul_most (2 ^ 150) (2 ^ 157) (2 ^ 158) (w ⊗ f2) f255 (held 158 (lit< tt)) (lit≤ tt)
    (mul_most (2 ^ 149) (2 ^ 150) (2 ^ 150) w f2 (held 150 (lit< tt)) (lit≤ tt) h f2_most) f255_most)
    root2_most

pub data_good : (C : Coef) → CoefOk C → (W H : ℕ) → Covers C.own W H → (weight : Float) → Most (2 ^ 149) weight → (saved : List Float) → px_count C.own ≤ length saved
    → AllGood (2 ^ 168) saved → AllGood (2 ^ 18 * 2 ^ 188) (data_gradient C W H weight saved)
unfolding data_gradient
data_good C ok W H k weight m saved long g = go (ne weight f0)
  where
    go : (t : Bool) → AllGood (2 ^ 18 * 2 ^ 188) (cond t (dct_gradient C W (data_alpha weight) saved (replicate (W * H) f0)) (replicate (W * H) f0))
    go true = dct_gradient_good C ok saved g W (data_alpha weight) (data_alpha_most weight m) H k long (replicate (W * H) f0) (zeros_good 0 (W * H))
    go false = zeros_good (2 ^ 18 * 2 ^ 188) (W * H)
