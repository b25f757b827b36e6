-- What the tests of eight lanes tell of each. Assumes nothing.
use Rattle.std.proofs.Common.{◌≡◌, ℕ, ◌+◌, ◌-◌, ◌%◌, ◌<◌, Bool, true, false, not, T, List, map, length, get_or, replicate, nat_eq, nat_lt, bit_and, bit_or, refl, sym, ap, ap₂, ◌∙◌, subst, arith, inl, inr, ◌⊎◌, true≢false, eqb-true, ltb-true}
use Rattle.std.proofs.lemmas.Nat.{and_mask}
use borrow.Author.Tests.{eqb-false}
use Rattle.std.specs.Bool.{beq}
use lib.Lanes.{zip2, mask_l, top}
use lib.Ieee.{Float, nan, inf, fin, binary32, add, sub, neg, eq}
use lib.Ieee.Scale.{finite}
use Rattle.lanes.specs.Lanes.{Finites, Decided, lane, high_word, low_word}
use Rattle.lanes.proofs.Vectors.{len, lane_of, lane_splat, mask, all_lanes, either_both}

-- ---- a value less itself
abbrev less : Float → Float
less x = sub binary32 x x

other_sign : (s : Bool) → beq s (not s) ≡ false
other_sign true = refl
other_sign false = refl

less_inf : (s : Bool) → less (inf s) ≡ nan
unfolding sub add neg
less_inf s = rw (other_sign s)

left_finite : (x y : Float) → eq (less x) y ≡ true → T (finite x)
unfolding sub add neg eq
left_finite nan y e = absurd (true≢false (sym e))
left_finite (inf s) y e = absurd (true≢false (sym e ∙ ap (λ (z : Float). eq z y) (less_inf s)))
left_finite (fin s m d) y e = tt

never : (x : Float) → eq x nan ≡ false
unfolding eq
never nan = refl
never (inf s) = refl
never (fin s m d) = refl

right_finite : (x y : Float) → eq x (less y) ≡ true → T (finite y)
unfolding sub add neg
right_finite x nan e = absurd (true≢false (sym e ∙ never x))
right_finite x (inf s) e = absurd (true≢false (sym e ∙ ap (eq x) (less_inf s) ∙ never x))
right_finite x (fin s m d) e = tt

abbrev level : Float → Float → ℕ
level x y = mask (eq x y)

abbrev minus_self : List Float → List Float
minus_self v = zip2 (sub binary32) v v

pub guarded : (q g : List Float) → length q ≡ 8 → length g ≡ 8
    → nat_eq (mask_l (map (top 31) (zip2 level (minus_self q) (minus_self g))) % 18446744073709551616) 255 ≡ true → Finites q × Finites g
guarded q g l m e = (λ i h. left_finite (get_or q i nan) (less (get_or g i nan)) (same i h), λ i h. right_finite (less (get_or q i nan)) (get_or g i nan) (same i h))
  where
    Q : length (minus_self q) ≡ 8
    Q = len (sub binary32) q q l l

    G : length (minus_self g) ≡ 8
    G = len (sub binary32) g g m m

    set : (b : Bool) → top 31 (mask b) ≡ true → b ≡ true
    set true t = refl
    set false t = absurd (true≢false (sym t))

    same : (i : ℕ) → i < 8 → eq (less (get_or q i nan)) (less (get_or g i nan)) ≡ true
    same i h =
        let is = lane_of level (minus_self q) (minus_self g) i nan nan 0 Q G h in
        let x = lane_of (sub binary32) q q i nan nan nan l l h in
        let y = lane_of (sub binary32) g g i nan nan nan m m h in
        set _ (subst (λ (z : ℕ). top 31 z ≡ true) (is ∙ ap₂ level x y) (all_lanes (zip2 level (minus_self q) (minus_self g)) i (len level (minus_self q) (minus_self g) Q G) e h))

-- ---- the words of a pattern
abbrev same : ℕ → ℕ → ℕ
same x y = mask (nat_eq x y)

abbrev other : ℕ → ℕ → ℕ
other x y = mask (not (nat_eq x y))

abbrev smaller : ℕ → ℕ → ℕ
smaller x y = mask (nat_lt x y)

abbrev minus : ℕ → ℕ → ℕ
minus x y = (x + (4294967296 - y)) % 4294967296

not_same : (b : Bool) → not b ≡ true → b ≡ false
not_same true e = absurd (true≢false (sym e))
not_same false e = refl

pattern : (n : ℕ)
    → ((nat_eq (high_word n) 0 ≡ true) × (nat_eq (low_word n) 0 ≡ true)) ⊎ ((nat_lt (minus (high_word n) 941621248) 264241152 ≡ true) × (not (nat_eq (bit_and (low_word n) 536870911) 268435456) ≡ true))
    → Decided n
pattern n (inl e) =
    let a = eqb-true (high_word n) 0 e.0 in
    let b = eqb-true (low_word n) 0 e.1 in
    inl (omega arith)
pattern n (inr e) =
    let a = ltb-true (minus (high_word n) 941621248) 264241152 e.0 in
    let b = eqb-false (bit_and (low_word n) 536870911) 268435456 (not_same _ e.1) in
    let c = and_mask (low_word n) 29 in
    inr (record { lo = omega arith; hi = omega arith; untied = λ t. b (c ∙ omega arith) })

module _ (b high low : List ℕ) (H : length high ≡ 8) (L : length low ≡ 8) (hs : (i : ℕ) → i < 8 → lane high i ≡ high_word (lane b i)) (ls : (i : ℕ) → i < 8 → lane low i ≡ low_word (lane b i)) where
  -- the four tests
  abbrev one : List ℕ
  one = zip2 same high (replicate 8 0)

  abbrev two : List ℕ
  two = zip2 same low (replicate 8 0)

  abbrev moved : List ℕ
  moved = zip2 minus high (replicate 8 941621248)

  abbrev near : List ℕ
  near = zip2 smaller moved (replicate 8 264241152)

  abbrev cut : List ℕ
  cut = zip2 bit_and low (replicate 8 536870911)

  abbrev untied : List ℕ
  untied = zip2 other cut (replicate 8 268435456)

  pub all_decided : nat_eq (mask_l (map (top 31) (zip2 bit_or (zip2 bit_and one two) (zip2 bit_and near untied))) % 18446744073709551616) 255 ≡ true → (i : ℕ) → i < 8 → Decided (lane b i)
  all_decided e i h =
      let O = len same high (replicate 8 0) H refl in
      let W = len same low (replicate 8 0) L refl in
      let V = len minus high (replicate 8 941621248) H refl in
      let N = len smaller moved (replicate 8 264241152) V refl in
      let C = len bit_and low (replicate 8 536870911) L refl in
      let U = len other cut (replicate 8 268435456) C refl in
      let x = lane high i in
      let y = lane low i in
      let z = zip2 bit_and one two in
      let w = zip2 bit_and near untied in
      let Z = len bit_and one two O W in
      let Y = len bit_and near untied N U in
      let t = all_lanes (zip2 bit_or z w) i (len bit_or z w Z Y) e h in
      let first : get_or z i 0 ≡ bit_and (same x 0) (same y 0) = lane_of bit_and one two i 0 0 0 O W h ∙ ap₂ bit_and (lane_splat same high 0 i 0 0 H h) (lane_splat same low 0 i 0 0 L h) in
      let second : get_or w i 0 ≡ bit_and (smaller (minus x 941621248) 264241152) (other (bit_and y 536870911) 268435456) =
      lane_of bit_and near untied i 0 0 0 N U h
      ∙ ap₂ bit_and (lane_splat smaller moved 264241152 i 0 0 V h ∙ ap (λ (u : ℕ). smaller u 264241152) (lane_splat minus high 941621248 i 0 0 H h))
      (lane_splat other cut 268435456 i 0 0 C h ∙ ap (λ (u : ℕ). other u 268435456) (lane_splat bit_and low 536870911 i 0 0 L h)) in
      let r = either_both (nat_eq x 0) (nat_eq y 0) (nat_lt (minus x 941621248) 264241152) (not (nat_eq (bit_and y 536870911) 268435456))
      (subst (λ (u : ℕ). top 31 u ≡ true) (lane_of bit_or z w i 0 0 0 Z Y h ∙ ap₂ bit_or first second) t) in
      pattern (lane b i)
      (subst (λ (u : ℕ). ((nat_eq u 0 ≡ true) × (nat_eq (low_word (lane b i)) 0 ≡ true)) ⊎ ((nat_lt (minus u 941621248) 264241152 ≡ true) × (not (nat_eq (bit_and (low_word (lane b i)) 536870911) 268435456) ≡ true))) (hs i h)
      (subst (λ (u : ℕ). ((nat_eq x 0 ≡ true) × (nat_eq u 0 ≡ true)) ⊎ ((nat_lt (minus x 941621248) 264241152 ≡ true) × (not (nat_eq (bit_and u 536870911) 268435456) ≡ true))) (ls i h) r))
