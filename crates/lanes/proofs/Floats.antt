-- Eight sums in f64, and the f32 that their patterns decide. Assumes nothing.
use Rattle.std.proofs.Common.{◌≡◌, ℕ, ◌<◌, true, not, ◌&&◌, T, List, map, length, replicate, Fits, w64, refl, sym, ap, ap₂, ◌∙◌, subst, arith, true≢false}
use Rattle.std.proofs.lemmas.List.{get_or-map, length-map}
use Rattle.std.proofs.lemmas.Simd.{Each1-get_or, get_or-replicate}
use Rattle.std.specs.Float.{float_is_finite}
use lib.Lanes.{zip2, Each1}
use lib.Ieee.{Float, nan, inf, fin, binary32, binary64, add, mul, fits, to_bits, of_bits, is_nan, nan_bits}
use lib.Ieee.Fits.{and_i, add-fits, fits_widens}
use Rattle.float.specs.Names.{val}
use Rattle.float.specs.Ops.{fused}
use Rattle.float.proofs.Fields.{finite_no_nan}
use Rattle.wide.proofs.One.{One, first_one}
use Rattle.lanes.specs.Lanes.{Finite, Finites, Decided, lane, tidied, wide_sum}
use Rattle.lanes.proofs.Numbers.{fused_number}
use Rattle.lanes.proofs.Settled.{tidied_number, pattern_narrows, settled}
use Rattle.lanes.proofs.Vectors.{each, len, lane_of}

abbrev pub Held : Float → Type 0
Held a = T (fits binary32 a)

-- ---- what the casts to f64 ask
pub finite_of : (x : Float) → float_is_finite x ≡ true → Finite x
unfolding float_is_finite
finite_of nan e = absurd (true≢false (sym e))
finite_of (inf s) e = absurd (true≢false (sym e))
finite_of (fin s m d) e = tt

pub widens_one : (a : Float) → Held a → Finite a → T (fits binary64 a && not (is_nan a))
widens_one a h f = and_i (fits binary64 a) (not (is_nan a)) (fits_widens a h) (finite_no_nan a f)

pub widens : (v : List Float) → length v ≡ 8 → Each1 Held v → Finites v → Each1 (λ a. T (fits binary64 a && not (is_nan a))) v
widens v l h f = each (λ a. T (fits binary64 a && not (is_nan a))) v nan l (λ i k. widens_one (val v i) (Each1-get_or Held v i nan (omega arith) h) (f i k))

abbrev copied : List Float → List Float
copied v = map (λ x. x) v

copied_len : (v : List Float) → length v ≡ 8 → length (copied v) ≡ 8
copied_len v l = length-map v (λ x. x) ∙ l

pub sum_lanes : (alpha : Float) (q g : List Float) → length q ≡ 8 → length g ≡ 8 → (i : ℕ) → i < 8
    → val (zip2 (add binary64) (zip2 (mul binary64) (replicate 8 alpha) (copied q)) (copied g)) i ≡ wide_sum alpha (val q i) (val g i)
sum_lanes alpha q g l m i h =
    let Q = copied_len q l in
    lane_of (add binary64) (zip2 (mul binary64) (replicate 8 alpha) (copied q)) (copied g) i nan nan nan (len (mul binary64) (replicate 8 alpha) (copied q) refl Q) (copied_len g m) h
    ∙ ap₂ (add binary64)
    (lane_of (mul binary64) (replicate 8 alpha) (copied q) i nan nan nan refl Q h ∙ ap₂ (mul binary64) (get_or-replicate 8 i alpha nan h) (get_or-map (λ x. x) q i nan nan (omega arith)))
    (get_or-map (λ x. x) g i nan nan (omega arith))

pub numbers : (v : List Float) → length v ≡ 8 → ((i : ℕ) → i < 8 → T (not (is_nan (val v i)))) → Each1 (λ a. T (not (is_nan a))) v
numbers v l h = each (λ a. T (not (is_nan a))) v nan l h

-- ---- what the casts from patterns and to f32 ask
module _ (b t : List ℕ) (fitting : Each1 (Fits w64) b) (l : length b ≡ 8) (m : length t ≡ 8) (d : (i : ℕ) → i < 8 → Decided (lane b i)) (is : (i : ℕ) → i < 8 → lane t i ≡ tidied (lane b i)) where
  pub no_nans : Each1 (λ n. T (not (nan_bits binary64 n))) t
  no_nans = each (λ n. T (not (nan_bits binary64 n))) t 0 m (λ i h. subst (λ (n : ℕ). T (not (nan_bits binary64 n))) (sym (is i h)) (tidied_number (lane b i) (d i h)))

  abbrev floats : List Float
  floats = map (of_bits binary64) t

  floats_len : length floats ≡ 8
  floats_len = length-map t (of_bits binary64) ∙ m

  float_lane : (i : ℕ) → i < 8 → val floats i ≡ of_bits binary64 (tidied (lane b i))
  float_lane i h = get_or-map (of_bits binary64) t i 0 nan (omega arith) ∙ ap (of_bits binary64) (is i h)

  pub narrowing : Each1 (λ a. T (fits binary32 a && not (is_nan a))) floats
  narrowing =
      each (λ a. T (fits binary32 a && not (is_nan a))) floats nan floats_len (λ i h.
      subst (λ (a : Float). T (fits binary32 a && not (is_nan a))) (sym (float_lane i h)) (pattern_narrows (lane b i) ((Each1-get_or (Fits w64) b i 0 (omega arith) fitting).fits) (d i h)))

  pub narrow_lanes : (i : ℕ) → i < 8 → val (copied floats) i ≡ of_bits binary64 (tidied (lane b i))
  narrow_lanes i h = get_or-map (λ x. x) floats i nan nan (omega (arith, floats_len)) ∙ float_lane i h

-- ---- all together
module _ (alpha : Float) (q g : List Float) (A : Held alpha) (Q : Each1 Held q) (G : Each1 Held g) (l : length q ≡ 8) (m : length g ≡ 8) where
  pub sum_numbers : (s : List Float) → Finite alpha → Finites q → Finites g → ((i : ℕ) → i < 8 → val s i ≡ wide_sum alpha (val q i) (val g i)) → (i : ℕ) → i < 8 → T (not (is_nan (val s i)))
  sum_numbers s a qs gs e i h = subst (λ (x : Float). T (not (is_nan x))) (sym (e i h)) (fused_number binary64 alpha (val q i) (val g i) a (qs i h) (gs i h))

  pub all_settled : (s : List Float) (b : List ℕ) (r : List Float) → ((i : ℕ) → i < 8 → T (not (is_nan (val s i)))) → ((i : ℕ) → i < 8 → val s i ≡ wide_sum alpha (val q i) (val g i))
      → ((i : ℕ) → i < 8 → lane b i ≡ to_bits binary64 (val s i)) → ((i : ℕ) → i < 8 → Decided (lane b i)) → ((i : ℕ) → i < 8 → val r i ≡ of_bits binary64 (tidied (lane b i)))
      → (i : ℕ) → i < 8 → val r i ≡ fused alpha (val q i) (val g i)
  all_settled s b r N e is d rs i h =
      rs i h ∙ ap (λ (n : ℕ). of_bits binary64 (tidied n)) (is i h)
      ∙ settled (val s i) (subst (λ (x : Float). T (fits binary64 x)) (sym (e i h)) (add-fits binary64 (mul binary64 alpha (val q i)) (val g i))) (N i h) alpha (val q i) (val g i) A
      (Each1-get_or Held q i nan (omega arith) Q) (Each1-get_or Held g i nan (omega arith) G) (e i h) (subst Decided (is i h) (d i h))

pub one_lanes : (alpha : Float) (q g : List Float) → length q ≡ 8 → length g ≡ 8 → One alpha → (i : ℕ) → i < 8 → val (zip2 (add binary32) q g) i ≡ fused alpha (val q i) (val g i)
one_lanes alpha q g l m o i h = lane_of (add binary32) q g i nan nan nan l m h ∙ sym (first_one alpha (val q i) (val g i) o)
