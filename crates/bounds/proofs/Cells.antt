-- The places that a channel's own samples cover, each in one turn of its own: means of samples, and a change of each place by its sample's number.
use mathlib.Core.Path.{◌≡◌, refl, sym, ap, ◌∙◌, subst}
use mathlib.Core.Bool.{false}
use mathlib.Core.List.{List}
use Prim.Native.Nat.{ℕ, suc, ◌+◌, ◌*◌, ◌/◌, ◌%◌, ◌^◌, ◌≤◌, ◌<◌}
use native.Mathlib.Nat.{le_trans, le_of_eq, le_refl, lt_of_lt_of_le, lt_of_le_of_lt, add-suc, add-zero, suc-mul, mul_comm, mul_assoc, mul-one, one-mul, mul-le-mul, mul-le-mul_right, mul-pos}
use native.Mathlib.Omega.{arith}
use lib.Dec.{lit<, lit≤}
use lib.Pow.{pow_pos}
use lib.ListN.{length, set, length-set}
use lib.Ieee.{Float, binary32, of_int}
use lib.Ieee.Fits.{div-fits}
use Rattle.fold.specs.Fold.{upto}
use Rattle.fold.proofs.Grid.{in_grid, row_end, row_of, column_of}
use Rattle.float.specs.Names.{f0, float, val}
use Rattle.start.specs.declared.coef.Own.{Own}
use Rattle.start.specs.Coef.{Covers, spot, change, change_at}
use Rattle.projection.specs.Projection.{sum_at, mean_of}
use Rattle.start.proofs.Cover.{within}
use Rattle.bounds.proofs.Magnitude.{Most, Held, add_most, div_most, round_most}
use Rattle.bounds.proofs.Ratio.{Floor, round_floor}
use Rattle.bounds.proofs.Good.{Good, Within, zero-good, nest_inv, staged, staged_read, staged_set}
use Rattle.bounds.proofs.Data.{floor_least}

module _ (o : Own) (W H : ℕ) (k : Covers o W H) where
  -- the places of one sample, and the turn in which a place is changed: sample by sample, row by row within each
  abbrev pub each : ℕ
  each = o.vertical * o.horizontal

  abbrev pub number : ℕ → ℕ
  number i = (i / W / o.vertical * o.width + i % W / o.horizontal) * each + (i / W % o.vertical * o.horizontal + i % W % o.horizontal)

  module _ (cy cx sy sx : ℕ) (cx-in : cx < o.width) (sy-in : sy < o.vertical) (sx-in : sx < o.horizontal) where
    column_in : cx * o.horizontal + sx < W
    column_in = omega (arith, row_end cx o.width o.horizontal cx-in, k.horizontal_cover)

    pub spot_number : number (spot o W cy cx sy sx) ≡ (cy * o.width + cx) * each + (sy * o.horizontal + sx)
    spot_number =
        rw (
          row_of (cy * o.vertical + sy) W (cx * o.horizontal + sx) column_in,
          column_of (cy * o.vertical + sy) W (cx * o.horizontal + sx) column_in,
          row_of cy o.vertical sy sy-in,
          column_of cy o.vertical sy sy-in,
          row_of cx o.horizontal sx sx-in,
          column_of cx o.horizontal sx sx-in,
        )

    pub spot_in : cy < o.height → spot o W cy cx sy sx < W * H
    spot_in cy-in = omega (arith, within o W H k cy cx sy cy-in cx-in sy-in, column_in)

  few : each ≤ 16
  few = mul-le-mul k.vertical_most k.horizontal_most

  -- ---- the mean

  module _ (a : ℕ) (many : (j : ℕ) → j ≤ 16 → Held (j * a)) where
    -- of values within a: their sum is within as many times a
    pub mean_good : (plane : List Float) (cy cx : ℕ) → ((sy sx : ℕ) → sy < o.vertical → sx < o.horizontal → Good a (val plane (spot o W cy cx sy sx))) → Good a (mean_of o W plane cy cx)
    unfolding mean_of of_int
    mean_good plane cy cx g =
        let n = o.horizontal * o.vertical in
        let n-is : n ≡ each = mul_comm o.horizontal o.vertical in
        let S = upto (λ sy t. upto (sum_at o W plane cy cx sy) o.horizontal t) o.vertical f0 in
        let sum : Most (each * a) S =
        nest_inv (λ q t. Most (q * a) t) (sum_at o W plane cy cx) o.vertical o.horizontal
        (λ sy sx t l m h.
        let q = sy * o.horizontal + sx in
        let q-in : q < each = in_grid sy o.vertical sx o.horizontal l m in
        add_most (q * a) a (suc q * a) t (val plane (spot o W cy cx sy sx)) (many (suc q) (le_trans q-in few)) (le_of_eq (sym (suc-mul q a))) h (g sy sx l m).1)
        f0 (zero-good (0 * a)).1 in
        let some : 0 < n = mul-pos k.horizontal_some k.vertical_some in
        let n-few : n ≤ 16 = le_trans (le_of_eq n-is) few in
        let floor : Floor (n * 2 ^ 149) (float n) =
        round_floor n 1 (n * 2 ^ 149) (record { j = n; i = 149; is = refl; few = small n n-few }) (lit< tt) (le_of_eq (mul-one (n * 2 ^ 149))) in
        let most : Most (16 * 2 ^ 149) (float n) =
        round_most false n 1 (16 * 2 ^ 149) (record { j = 1; i = 153; is = refl; few = lit< tt; under = lit< tt }) (lit< tt) (le_trans (mul-le-mul_right (2 ^ 149) n-few) (le_of_eq (sym (mul-one (16 * 2 ^ 149))))) in (
          div-fits binary32 S (float n),
          div_most (each * a) (n * 2 ^ 149) a S (float n) (one (many 1 (lit≤ tt))) (mul-pos some (pow_pos 149)) (le_of_eq (turn each n a (2 ^ 149) n-is)) sum
              (floor_least (16 * 2 ^ 149) (n * 2 ^ 149) (float n) most floor),
        )
      where
        one : Held (1 * a) → Held a
        one h = subst Held (one-mul a) h

        small : (n : ℕ) → n ≤ 16 → n < 2 ^ 24
        small n h = lt_of_le_of_lt h (lit< tt)

        turn : (e n a u : ℕ) → n ≡ e → e * a * u ≡ a * (n * u)
        turn e n a u p = ap (λ (z : ℕ). z * a * u) (sym p) ∙ ap (λ (z : ℕ). z * u) (mul_comm n a) ∙ mul_assoc a n u

  -- ---- a change of the places of one sample

  module _ (a b : ℕ) (more : a ≤ b) where
    -- the places changed before turn t are within b, the others within a
    abbrev pub Turned : ℕ → List Float → Type 0
    Turned t xs = (W * H ≤ length xs) × Within (staged number a b t) xs

    -- what a sample's turn finds at its places
    pub turned_read : (cy cx sy sx : ℕ) → cy < o.height → cx < o.width → sy < o.vertical → sx < o.horizontal → (q : ℕ) → q ≤ sy * o.horizontal + sx → (xs : List Float)
        → Turned ((cy * o.width + cx) * each + q) xs → Good a (val xs (spot o W cy cx sy sx))
    turned_read cy cx sy sx h l m n q p xs r =
        staged_read number a b more ((cy * o.width + cx) * each + q) (spot o W cy cx sy sx) xs
        (omega (arith, spot_number cy cx sy sx l m n)) (lt_of_lt_of_le (spot_in cy cx sy sx l m n h) r.0) r.1

    pub change_turned : (F : Float → Float) → ((x : Float) → Good a x → Good b (F x)) → (cy cx : ℕ) → cy < o.height → cx < o.width → (xs : List Float)
        → Turned ((cy * o.width + cx) * each) xs → Turned (suc (cy * o.width + cx) * each) (change F o W cy cx xs)
    unfolding change
    change_turned F grow cy cx h l xs r =
        let cell = cy * o.width + cx in
        subst (λ (t : ℕ). Turned t (upto (λ sy p. upto (change_at F o W cy cx sy) o.horizontal p) o.vertical xs)) (sym (suc-mul cell each))
        (nest_inv (λ q p. Turned (cell * each + q) p) (change_at F o W cy cx) o.vertical o.horizontal
        (λ sy sx p m n s.
        let q = sy * o.horizontal + sx in
        let i = spot o W cy cx sy sx in
        let v = F (val p i) in
        let long : W * H ≤ length (set p i v) = le_trans s.0 (le_of_eq (sym (length-set p i v))) in (
          long,
          subst (λ (t : ℕ). Within (staged number a b t) (set p i v)) (sym (add-suc (cell * each) q))
              (staged_set number a b more (cell * each + q) i p v (spot_number cy cx sy sx l m n)
              (grow (val p i) (turned_read cy cx sy sx h l m n q (le_refl q) p s)) s.1),
        ))
        xs (subst (λ (t : ℕ). Turned t xs) (sym (add-zero (cell * each))) r))
