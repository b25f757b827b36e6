-- A fused product with a summand that is 0: the product rounded, unless that is exactly 0.
use mathlib.Core.Path.{◌≡◌, refl, sym, ap, ◌∙◌}
use mathlib.Core.Bool.{Bool, true, false, cond, true≢false}
use Prim.Native.Nat.{ℕ, zero, suc, ◌*◌, ◌<◌}
use native.Mathlib.Nat.{mul-pos, zero-lt-suc, zero-mul}
use lib.Dec.{eqb-suc-zero}
use lib.IntN.{ℤ}
use lib.Lanes.{top}
use lib.Ieee.{Float, nan, inf, fin, binary32, unlike, up, down, round, add, mul, eq, ne, of_bits}
use lib.Ieee.Fits.{up_pos, down_pos}
use lib.Ieee.Exact.{HasValue}
use Rattle.float.specs.Ops.{product, fused, fused_at}
use Rattle.float.specs.Names.{f0}
use Rattle.float.proofs.Values.{product_value}
use Rattle.float.proofs.SumCases.{add_value}
use Rattle.float.proofs.Sums.{zero_right}
use Rattle.wide.proofs.Zero.{Zero, is_zero, second_zero}

-- 0 is 0, of either sign
zero_eq : (s : Bool) (e : ℤ) → eq (fin s 0 e) f0 ≡ true
unfolding eq of_bits
zero_eq true e = simp zero-mul
zero_eq false e = simp zero-mul

not_zero : (s : Bool) (e : ℤ) → ne (fin s 0 e) f0 ≡ true → ⊥
unfolding ne
not_zero s e h = true≢false (sym (rw zero_eq at h))

none : (s : Bool) (e : ℤ) → eq (fin s 0 e) f0 ≡ false → ⊥
none s e h = true≢false (sym (zero_eq s e) ∙ h)

-- a value that is not 0, and a 0
added : (x g : Float) (s : Bool) (a c : ℕ) → 0 < c → 0 < a → HasValue x s a c → Zero g → add binary32 x g ≡ round binary32 s a c
added x nan s a c p l v z = absurd z
added x (inf t) s a c p l v z = absurd z
added x (fin t m e) s a c p l v z =
    let zero_value : HasValue (fin t m e) t 0 c = (refl, ap (λ (k : ℕ). k * up e * c) z ∙ simp zero-mul) in
    add_value binary32 x (fin t m e) s t a 0 c p v zero_value ∙ zero_right s t a c l

infinite : (s : Bool) (g : Float) → Zero g → add binary32 (inf s) g ≡ inf s
unfolding add
infinite s nan z = absurd z
infinite s (inf t) z = absurd z
infinite s (fin t m e) z = refl

pub product_alone : (alpha v g : Float) → ne alpha f0 ≡ true → eq v f0 ≡ false → Zero g → fused alpha v g ≡ mul binary32 alpha v
unfolding fused fused_at product mul add
product_alone nan v g some h z = refl
product_alone (inf s) nan g some h z = refl
product_alone (inf s) (inf t) g some h z = infinite (unlike s t) g z
product_alone (inf s) (fin t zero d) g some h z = absurd (none t d h)
product_alone (inf s) (fin t (suc n) d) g some h z = rw eqb-suc-zero (infinite (unlike s t) g z)
product_alone (fin s m e) nan g some h z = refl
product_alone (fin s zero e) (inf t) g some h z = absurd (not_zero s e some)
product_alone (fin s (suc m) e) (inf t) g some h z = rw eqb-suc-zero (infinite (unlike s t) g z)
product_alone (fin s zero e) (fin t n d) g some h z = absurd (not_zero s e some)
product_alone (fin s (suc m) e) (fin t zero d) g some h z = absurd (none t d h)
product_alone (fin s (suc m) e) (fin t (suc n) d) g some h z =
    let x = fin s (suc m) e in
    let y = fin t (suc n) d in
    added (product x y) g (unlike s t) (suc m * up e * (suc n * up d)) (down e * down d) (mul-pos (down_pos e) (down_pos d))
    (mul-pos (mul-pos (zero-lt-suc m) (up_pos e)) (mul-pos (zero-lt-suc n) (up_pos d)))
    (product_value x y s t (suc m * up e) (suc n * up d) (down e) (down d) (refl, refl) (refl, refl)) z

pub lane : (alpha v g : Float) → ne alpha f0 ≡ true → eq g f0 ≡ true
    → cond (top 31 (cond (eq v f0) 4294967295 0)) (add binary32 (mul binary32 alpha v) g) (mul binary32 alpha v) ≡ fused alpha v g
lane alpha v g some h =
    (let P : Bool → Type 0 = λ b. eq v f0 ≡ b → cond (top 31 (cond b 4294967295 0)) (add binary32 (mul binary32 alpha v) g) (mul binary32 alpha v) ≡ fused alpha v g in
    elim (eq v f0) as P [ true ↦ λ e. sym (second_zero alpha v g (is_zero v e)) | false ↦ λ e. sym (product_alone alpha v g some e (is_zero g h)) ]) refl
