-- A product with 1 is the other factor. Assumes nothing.
use mathlib.Core.Path.{◌≡◌, refl, sym, ap, ◌∙◌, subst}
use mathlib.Core.Bool.{Bool, true, false, cond, true≢false}
use Prim.Native.Nat.{ℕ, zero, suc, ◌*◌, ◌<◌}
use native.Mathlib.Nat.{lt_irrefl, zero-mul, one-mul}
use native.Mathlib.Omega.{arith}
use borrow.Author.Tests.{ne_eqb}
use lib.IntN.{ℤ}
use lib.Dec.{T, eqb, eqb→eq}
use lib.Ieee.{Float, nan, inf, fin, binary32, unlike, up, down, level, add, eq, of_bits}
use lib.Ieee.Fits.{down_pos, and_l, and_r}
use lib.Ieee.Exact.{HasValue}
use Rattle.float.specs.Ops.{product, fused}
use Rattle.float.specs.Names.{f1}
use Rattle.float.proofs.Wider.{add_same}
use Rattle.float.proofs.Values.{product_value}

-- x is 1
abbrev pub One : Float → Type 0
One x = HasValue x false 1 1

some : (m : ℕ) (e : ℤ) → m * up e * 1 ≡ 1 * down e → m * up e * 1 ≡ 0 → ⊥
some m e h k = lt_irrefl 0 (subst (λ (x : ℕ). 0 < x) (sym (one-mul (down e)) ∙ sym h ∙ k) (down_pos e))

plus : (s : Bool) (m : ℕ) (e : ℤ) → T (level s (m * up e * 1) false (1 * down e)) → One (fin s m e)
plus false m e h = (refl, eqb→eq (m * up e * 1) (1 * down e) (and_l (eqb (m * up e * 1) (1 * down e)) _ h))
plus true m e h =
    let p = eqb→eq (m * up e * 1) (1 * down e) (and_l (eqb (m * up e * 1) (1 * down e)) _ h) in
    absurd (some m e p (eqb→eq (m * up e * 1) 0 (and_r (eqb (m * up e * 1) (1 * down e)) _ h)))

pub is_one : (x : Float) → eq x f1 ≡ true → One x
unfolding eq of_bits
is_one nan h = absurd (true≢false (sym h))
is_one (inf s) h = absurd (true≢false (sym h))
is_one (fin s m e) h = plus s m e (subst T (sym h) tt)

like : (t : Bool) → unlike false t ≡ t
like true = refl
like false = refl

with_inf : (s t : Bool) (m : ℕ) (e : ℤ) → One (fin s m e) → product (fin s m e) (inf t) ≡ inf t
unfolding product
with_inf true t m e h = absurd (true≢false h.0)
with_inf false t zero e h = absurd (some 0 e h.1 (ap (λ (x : ℕ). x * 1) (zero-mul (up e)) ∙ zero-mul 1))
with_inf false t (suc m) e h = ap (λ (z : Bool). cond z nan (inf (unlike false t))) (ne_eqb (suc m) 0 (λ i. omega arith)) ∙ ap inf (like t)

pub first_one : (a b c : Float) → One a → fused a b c ≡ add binary32 b c
unfolding fused product
first_one nan b c h = absurd h
first_one (inf s) b c h = absurd h
first_one (fin s m e) nan c h = refl
first_one (fin s m e) (inf t) c h = ap (λ (x : Float). add binary32 x c) (with_inf s t m e h)
first_one (fin s m e) (fin t n d) c h =
    add_same binary32 (product (fin s m e) (fin t n d)) (fin t n d) c t (1 * (n * up d)) (1 * down d) (subst (λ (x : ℕ). 0 < x) (sym (one-mul (down d))) (down_pos d))
    (subst (λ (u : Bool). HasValue (product (fin s m e) (fin t n d)) u (1 * (n * up d)) (1 * down d)) (like t)
    (product_value (fin s m e) (fin t n d) false t 1 (n * up d) 1 (down d) h (refl, refl)))
    (refl, ap (λ (x : ℕ). n * up d * x) (one-mul (down d)) ∙ ap (λ (x : ℕ). x * down d) (sym (one-mul (n * up d))))
