-- Facts of the lanes of a vector. Assumes nothing.
use Rattle.std.proofs.Common.{◌≡◌, ℕ, zero, suc, ◌/◌, ◌%◌, ◌^◌, ◌<◌, Bool, true, false, cond, T, List, map, length, get_or, replicate, nat_eq, bit_and, bit_or, refl, sym, ap, ◌∙◌, subst, arith, inl, inr, ◌⊎◌, true≢false, eqb→eq}
use Rattle.std.proofs.lemmas.List.{get_or-map, length-map}
use Rattle.std.proofs.lemmas.Simd.{Each1-from_get_or, get_or-zip2, get_or-replicate, length-zip2, bit_mask_l, mask_l-mod}
use lib.Lanes.{zip2, Each1, mask_l, top}

-- a fact of each of the eight
pub each : {X : Type 0} (P : X → Type 0) (v : List X) (d : X) → length v ≡ 8 → ((i : ℕ) → i < 8 → P (get_or v i d)) → Each1 P v
each P v d l h = Each1-from_get_or P v d (λ i k. h i (omega arith))

pub len : {X Y Z : Type 0} (f : X → Y → Z) (v : List X) (w : List Y) → length v ≡ 8 → length w ≡ 8 → length (zip2 f v w) ≡ 8
len f v w l m = length-zip2 f v w (l ∙ sym m) ∙ l

-- an operator's lane
pub lane_of : {X Y Z : Type 0} (f : X → Y → Z) (v : List X) (w : List Y) (i : ℕ) (c : X) (d : Y) (e : Z) → length v ≡ 8 → length w ≡ 8 → i < 8
    → get_or (zip2 f v w) i e ≡ f (get_or v i c) (get_or w i d)
lane_of f v w i c d e l m h = get_or-zip2 f v w i c d e (omega arith) (omega arith)

-- with the same value in each lane of the second
pub lane_splat : {X Y Z : Type 0} (f : X → Y → Z) (v : List X) (y : Y) (i : ℕ) (c : X) (e : Z) → length v ≡ 8 → i < 8
    → get_or (zip2 f v (replicate 8 y)) i e ≡ f (get_or v i c) y
lane_splat f v y i c e l h = lane_of f v (replicate 8 y) i c y e l refl h ∙ ap (f (get_or v i c)) (get_or-replicate 8 i y y h)

bit_of_all : (i : ℕ) → i < 8 → 255 / 2 ^ i % 2 ≡ 1
bit_of_all zero h = refl
bit_of_all (suc zero) h = refl
bit_of_all (suc (suc zero)) h = refl
bit_of_all (suc (suc (suc zero))) h = refl
bit_of_all (suc (suc (suc (suc zero)))) h = refl
bit_of_all (suc (suc (suc (suc (suc zero))))) h = refl
bit_of_all (suc (suc (suc (suc (suc (suc zero)))))) h = refl
bit_of_all (suc (suc (suc (suc (suc (suc (suc zero))))))) h = refl
bit_of_all (suc (suc (suc (suc (suc (suc (suc (suc i)))))))) h = absurd (omega arith)

set : (b : Bool) → ◌≡◌ {A = ℕ} (cond b 1 0) 1 → b ≡ true
set true e = refl
set false e = absurd (omega arith)

-- where all are set, each is
pub all_set : (v : List ℕ) (i : ℕ) → length v ≡ 8 → mask_l (map (top 31) v) ≡ 255 → i < 8 → top 31 (get_or v i 0) ≡ true
all_set v i l e h =
    sym (get_or-map (top 31) v i 0 false (omega arith))
    ∙ set (get_or (map (top 31) v) i false) (sym (bit_mask_l (map (top 31) v) i) ∙ ap (λ (z : ℕ). z / 2 ^ i % 2) e ∙ bit_of_all i h)

-- the mask of a comparison
abbrev pub mask : Bool → ℕ
mask b = cond b 4294967295 0

pub all_lanes : (v : List ℕ) (i : ℕ) → length v ≡ 8 → nat_eq (mask_l (map (top 31) v) % 18446744073709551616) 255 ≡ true → i < 8 → top 31 (get_or v i 0) ≡ true
all_lanes v i l e h = all_set v i l (sym (mask_l-mod (map (top 31) v) 64 (omega (arith, length-map v (top 31)))) ∙ eqb→eq _ 255 (subst T (sym e) tt)) h

pub either_both : (a b c d : Bool) → top 31 (bit_or (bit_and (mask a) (mask b)) (bit_and (mask c) (mask d))) ≡ true → ((a ≡ true) × (b ≡ true)) ⊎ ((c ≡ true) × (d ≡ true))
either_both true true c d e = inl (refl, refl)
either_both true false true true e = inr (refl, refl)
either_both true false true false e = absurd (true≢false (sym e))
either_both true false false true e = absurd (true≢false (sym e))
either_both true false false false e = absurd (true≢false (sym e))
either_both false true true true e = inr (refl, refl)
either_both false true true false e = absurd (true≢false (sym e))
either_both false true false true e = absurd (true≢false (sym e))
either_both false true false false e = absurd (true≢false (sym e))
either_both false false true true e = inr (refl, refl)
either_both false false true false e = absurd (true≢false (sym e))
either_both false false false true e = absurd (true≢false (sym e))
either_both false false false false e = absurd (true≢false (sym e))
