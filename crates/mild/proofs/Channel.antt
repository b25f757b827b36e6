-- What a legal, mild sheet says of a channel, in the terms of the bounds.
use mathlib.Core.Path.{◌≡◌, refl, sym, ap, ◌∙◌, subst}
use mathlib.Core.Logic.{⊎_elim}
use mathlib.Core.Bool.{Bool, true, false, ◌||◌, ◌&&◌}
use mathlib.Core.List.{List, [], ◌∷◌}
use Prim.Native.Nat.{ℕ, zero, suc, ◌+◌, ◌-◌, ◌*◌, ◌^◌, ◌≤◌, ◌<◌}
use native.Mathlib.Nat.{le_trans, le_of_eq, le_of_suc-le-suc, not-suc-le-zero, mul_comm, mul-one, one-mul, mul-le-mul, mul-le-mul_right}
use native.Mathlib.Omega.{arith}
use borrow.Author.Tests.{ltb-true, eqb-true}
use lib.Count.{count_trailing_zeros}
use lib.Dec.{T, eqb, leb, ltb, leb→le}
use lib.ListN.{length, get_or}
use lib.Ieee.{Float, nan, inf, fin, up, down, le, lt, eq, of_bits, of_fields, odd}
use lib.Ieee.Fits.{and_l, and_r}
use Rattle.fold.specs.Part.{part}
use Rattle.fold.proofs.Parts.{part_length}
use Rattle.start.specs.Coef.{low_at, high_at, quant_at}
use Rattle.projection.specs.Blown.{bad, any_bad}
use Rattle.calls.specs.Run.{Sheet, Given, own, count, area, weight, every}
use Rattle.calls.specs.Calls.{all, table_ok}
use Rattle.calls.specs.Between.{GivenOk}
use Rattle.calls.proofs.Facts.{SheetIs, sheet_is}
use Rattle.calls.proofs.Tests.{all_part, every_at}
use Rattle.demand.specs.Solver.{coef_of}
use Rattle.demand.proofs.Laws.{legal}
use Rattle.bounds.proofs.Magnitude.{Most}
use Rattle.bounds.proofs.Good.{Good, AllGood}
use Rattle.bounds.proofs.Intervals.{mid_most}
use Rattle.bounds.proofs.Start.{CoefOk}
use Rattle.mild.specs.Mild.{light, mild, most_steps}

-- ---- weights

at-most : (a b : ℕ) → (ltb a b || eqb a b && true) ≡ true → a ≤ b
at-most a b h = go (ltb a b) refl (eqb a b) refl h
  where
    go : (p : Bool) → ltb a b ≡ p → (q : Bool) → eqb a b ≡ q → (p || q && true) ≡ true → a ≤ b
    go true e q f h = let l = ltb-true a b e in omega arith
    go false e true f h = le_of_eq (eqb-true a b f)
    go false e false f h = let z : ◌≡◌ {A = ℕ} 0 1 = cc in absurd (omega arith)

-- a weight of at most 1 that has no sign
pub one_most : (w : Float) → T (weight w) → light w ≡ true → Most (2 ^ 149) w
unfolding weight le lt eq Most of_bits of_fields odd count_trailing_zeros
one_most nan t h = absurd t
one_most (inf s) t h = absurd t
one_most (fin true m e) t h = absurd t
one_most (fin false m e) t h =
    let l : m * up e * 1 ≤ 1 * 1 * down e = at-most (m * up e * 1) (1 * 1 * down e) h in
    let v : m * up e ≤ down e = le_trans (le_of_eq (sym (mul-one (m * up e)))) (le_trans l (le_of_eq (one-mul (down e)))) in
    le_trans (mul-le-mul_right (2 ^ 149) v) (le_of_eq (mul_comm (down e) (2 ^ 149)))

-- the tests of a mild sheet
pub record Parts (S : Sheet) : Type 0 where
  pub iterations : S.N ≤ most_steps
  pub smoothing : light S.smoothing ≡ true
  pub data_weights : (c : ℕ) → c < S.count → light (own S c).data_weight ≡ true

is_true : (b : Bool) → T b → b ≡ true
is_true true t = refl
is_true false t = absurd t

pub parts : (S : Sheet) → mild S ≡ true → Parts S
unfolding mild
parts S e =
    let a = leb S.N most_steps in
    let b = light S.smoothing in
    let d = every S.count (λ c. light (own S c).data_weight) in
    let t : T (a && b && d) = subst T (sym e) tt in
    let ab = and_l (a && b) d t in
    record {
      iterations = leb→le S.N most_steps (and_l a b ab);
      smoothing = is_true b (and_r a b ab);
      data_weights = λ c l. is_true (light (own S c).data_weight) (every_at S.count (λ c. light (own S c).data_weight) (and_r (a && b) d t) c l);
    }

-- ---- quantisers are not 0

all-at : (qs : List ℕ) → T (all table_ok qs) → (i : ℕ) → i < length qs → T (table_ok (get_or qs i 0))
all-at [] t i l = absurd (not-suc-le-zero l)
all-at (q ∷ qs) t zero l = and_l (table_ok q) (all table_ok qs) t
all-at (q ∷ qs) t (suc i) l = all-at qs (and_r (table_ok q) (all table_ok qs) t) i (le_of_suc-le-suc l)

module _ (G : Given) (ok : GivenOk G) where
  pub sheet : SheetIs G.sheet
  sheet = sheet_is G.sheet ok.sheet-ok

  pub area_most : area G ≤ 2 ^ 18
  area_most = mul-le-mul sheet.W-512 sheet.H-512

  pub some : 1 ≤ count G
  some = ⊎_elim (λ e. omega arith) (λ e. omega arith) sheet.channels

  pub few : count G ≤ 3
  few = ⊎_elim (λ e. omega arith) (λ e. omega arith) sheet.channels

  module _ (c : ℕ) (h : c < count G) where
    pub coef_ok : CoefOk (coef_of G c)
    unfolding coef_of
    coef_ok =
        let l = legal G ok c h in
        let qs : List ℕ = part G.tables (c * 64) (c * 64 + 64) in
        let long : length qs ≡ c * 64 + 64 - c * 64 = part_length G.tables (c * 64) (c * 64 + 64) (omega arith) (omega (arith, ok.tables_long)) in
        record {
          lows_ok = l.lows_ok;
          highs_ok = l.highs_ok;
          order = l.order;
          middle_most = λ k. mid_most (low_at (coef_of G c).levels k) (high_at (coef_of G c).levels k) (l.lows_ok k) (l.highs_ok k);
          table_some = λ j k.
              leb→le 1 (quant_at qs j) (and_l (leb 1 (quant_at qs j)) (leb (quant_at qs j) 255) (all-at qs (all_part table_ok G.tables (c * 64) (c * 64 + 64) ok.tables_ok) j (omega arith)));
          table-ok = l.table-ok;
        }

-- ---- bounded values are finite

good_finite : (b : ℕ) (x : Float) → Good b x → bad x ≡ false
unfolding Most
good_finite b nan g = absurd g.1
good_finite b (inf s) g = absurd g.1
good_finite b (fin s m e) g = refl

pub none_bad : (b : ℕ) (xs : List Float) → AllGood b xs → any_bad xs ≡ false
none_bad b [] g = refl
none_bad b (x ∷ xs) g =
    ap (λ (t : Bool). t || any_bad xs) (good_finite b x (g zero (omega arith))) ∙ none_bad b xs (λ k l. g (suc k) (omega arith))
