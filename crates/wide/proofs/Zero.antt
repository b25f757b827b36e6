-- A product with a zero is a zero, which every format has, and so are the halves of zeros. Assumes nothing.
use mathlib.Core.Path.{◌≡◌, refl, sym, ap, ◌∙◌, subst}
use mathlib.Core.Bool.{Bool, true, true≢false}
use Prim.Native.Nat.{ℕ, zero, suc, ◌*◌, ◌^◌, ◌<◌}
use native.Mathlib.Nat.{lt_irrefl, zero-lt-suc, zero-mul, mul-zero, mul-pos}
use lib.IntN.{ℤ, negsuc, ◌+ℤ◌}
use lib.Dec.{T, eqb, eqb→eq}
use lib.Pow.{pow_pos}
use lib.Ieee.{Float, nan, inf, fin, binary32, unlike, up, down, level, round, add, mul, eq, of_bits}
use lib.Ieee.Fits.{up_pos, down_pos, and_l}
use lib.Ieee.Exact.{HasValue, round_exact}
use Rattle.float.specs.Ops.{product, fused, half, midpoint}
use Rattle.float.specs.Names.{f0}
use Rattle.float.proofs.Wider.{add_same}
use Rattle.float.proofs.SumCases.{add_value}

-- x is +0 or -0
abbrev pub Zero : Float → Type 0
Zero nan = ⊥
Zero (inf s) = ⊥
Zero (fin s m e) = m ≡ 0

no_size : (s t : Bool) (m n : ℕ) (e d : ℤ) → n ≡ 0 → T (level s (m * up e * down d) t (n * up d * down e)) → m ≡ 0
no_size s t zero n e d k h = refl
no_size s t (suc m) n e d k h =
    let A = suc m * up e * down d in
    let B = n * up d * down e in
    let none : B ≡ 0 = ap (λ (x : ℕ). x * up d * down e) k ∙ ap (λ (x : ℕ). x * down e) (zero-mul (up d)) ∙ zero-mul (down e) in
    absurd (lt_irrefl 0 (subst (λ (x : ℕ). 0 < x) (eqb→eq A B (and_l (eqb A B) _ h) ∙ none) (mul-pos (mul-pos (zero-lt-suc m) (up_pos e)) (down_pos d))))

like_zero : (x y : Float) → Zero y → eq x y ≡ true → Zero x
unfolding eq
like_zero nan y k h = absurd (true≢false (sym h))
like_zero (inf s) nan k h = absurd k
like_zero (inf s) (inf t) k h = absurd k
like_zero (inf s) (fin t n d) k h = absurd (true≢false (sym h))
like_zero (fin s m e) nan k h = absurd k
like_zero (fin s m e) (inf t) k h = absurd k
like_zero (fin s m e) (fin t n d) k h = no_size s t m n e d k (subst T (sym h) tt)

pub is_zero : (x : Float) → eq x f0 ≡ true → Zero x
unfolding of_bits
is_zero x h = like_zero x f0 refl h

-- ---- the product
valued : (s : Bool) (m : ℕ) (e : ℤ) (c : ℕ) → m ≡ 0 → HasValue (fin s m e) s 0 c
valued s m e c h = (refl, ap (λ (x : ℕ). x * up e * c) h ∙ ap (λ (x : ℕ). x * c) (zero-mul (up e)) ∙ zero-mul c ∙ sym (zero-mul (down e)))

rounded_zero : (s : Bool) (num den : ℕ) → 0 < den → num ≡ 0 → HasValue (round binary32 s num den) s 0 den
rounded_zero s num den P h =
    subst (λ (x : ℕ). HasValue (round binary32 s num den) s x den) h
    (round_exact binary32 s num den 0 0 P (pow_pos 24) (pow_pos 277) (ap (λ (x : ℕ). x * 2 ^ 149) h ∙ sym (zero-mul den)))

same_product : (s t : Bool) (m n : ℕ) (e d : ℤ) (c : Float) → m * n ≡ 0 → m * up e * (n * up d) ≡ 0
    → fused (fin s m e) (fin t n d) c ≡ add binary32 (mul binary32 (fin s m e) (fin t n d)) c
unfolding fused product mul
same_product s t m n e d c h k =
    let den = down e * down d in
    let P : 0 < den = mul-pos (down_pos e) (down_pos d) in
    add_same binary32 (product (fin s m e) (fin t n d)) (mul binary32 (fin s m e) (fin t n d)) c (unlike s t) 0 den P
    (valued (unlike s t) (m * n) (e +ℤ d) den h) (rounded_zero (unlike s t) (m * up e * (n * up d)) den P k)

pub first_zero : (a b c : Float) → Zero a → fused a b c ≡ add binary32 (mul binary32 a b) c
unfolding fused product mul
first_zero nan b c h = absurd h
first_zero (inf s) b c h = absurd h
first_zero (fin s m e) nan c h = refl
first_zero (fin s m e) (inf t) c h = refl
first_zero (fin s m e) (fin t n d) c h =
    same_product s t m n e d c (ap (λ (x : ℕ). x * n) h ∙ zero-mul n)
    (ap (λ (x : ℕ). x * up e * (n * up d)) h ∙ ap (λ (x : ℕ). x * (n * up d)) (zero-mul (up e)) ∙ zero-mul (n * up d))

pub second_zero : (a b c : Float) → Zero b → fused a b c ≡ add binary32 (mul binary32 a b) c
unfolding fused product mul
second_zero a nan c h = absurd h
second_zero a (inf s) c h = absurd h
second_zero nan (fin t n d) c h = refl
second_zero (inf s) (fin t n d) c h = refl
second_zero (fin s m e) (fin t n d) c h =
    same_product s t m n e d c (ap (λ (x : ℕ). m * x) h ∙ mul-zero m)
    (ap (λ (x : ℕ). m * up e * (x * up d)) h ∙ ap (λ (x : ℕ). m * up e * x) (zero-mul (up d)) ∙ mul-zero (m * up e))

-- ---- the half sum
pub both_zero : (a b : Float) → Zero a → Zero b → midpoint a b ≡ add binary32 a b
unfolding midpoint half
both_zero nan b h k = absurd h
both_zero (inf s) b h k = absurd h
both_zero (fin s m e) nan h k = absurd k
both_zero (fin s m e) (inf t) h k = absurd k
both_zero (fin s m e) (fin t n d) h k =
    add_value binary32 (half (fin s m e)) (half (fin t n d)) s t 0 0 1 (pow_pos 0) (valued s m (e +ℤ negsuc 0) 1 h) (valued t n (d +ℤ negsuc 0) 1 k)
    ∙ sym (add_value binary32 (fin s m e) (fin t n d) s t 0 0 1 (pow_pos 0) (valued s m e 1 h) (valued t n d 1 k))
