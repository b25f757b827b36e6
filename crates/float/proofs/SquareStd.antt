-- `square` is what std says of `powi(2)`: 1 times the square, which changes nothing. Assumes nothing.
use Rattle.std.proofs.Common.{◌≡◌, ◌*◌, ◌^◌, ◌<◌, ◌≤◌, ℕ, true, false, T, Bool, pos, refl, sym, ap, ap₂, ◌∙◌, subst, lt_of_lt_of_le, one-mul, lit<, pow_pos, pow_mono, shl_lt, arith, ◌+◌}
use Rattle.std.specs.Float.{powi, pow_by_squaring}
use lib.Ieee.{Float, nan, inf, fin, binary32, unlike, round, mul, fits}
use lib.Ieee.Fits.{mul-fits}
use lib.Ieee.Exact.{HasValue}
use Rattle.float.specs.Ops.{square}
use Rattle.float.proofs.Wider.{Parts, parts, mul_value}
use Rattle.float.proofs.Exactly.{same_value, exact_at}

abbrev one : Float
one = fin false 1 (pos 0)

like : (t : Bool) → unlike false t ≡ t
like true = refl
like false = refl

finite_times : (x : Float) → T (fits binary32 x) → (p : Parts x) → mul binary32 one x ≡ x
finite_times x t p =
    same_value (mul binary32 one x) x p.s a (mul-fits binary32 one x) t
    (subst (λ (z : Float). HasValue z p.s a (2 ^ 149)) (sym is) (exact_at p.s a (record { q = p.m; j = p.x; few = p.m_lt; is = refl }) under)) p.value
  where
    a : ℕ
    a = p.m * 2 ^ p.x

    room : (j : ℕ) → j ≤ 253 → 24 + j ≤ 277
    room j h = omega arith

    under : p.m * 2 ^ p.x < 2 ^ 277
    under = lt_of_lt_of_le (shl_lt 24 p.x p.m_lt) (pow_mono (room p.x p.x_le))

    is : mul binary32 one x ≡ round binary32 p.s (p.m * 2 ^ p.x) (2 ^ 149)
    is =
        mul_value binary32 one x false p.s 1 (p.m * 2 ^ p.x) 1 (2 ^ 149) (lit< tt) (pow_pos 149) (refl, refl) p.value
        ∙ ap₂ (λ (b : Bool) (z : ℕ). round binary32 b z (2 ^ 149)) (like p.s) (one-mul (p.m * 2 ^ p.x))

one_times : (x : Float) → T (fits binary32 x) → mul binary32 one x ≡ x
unfolding mul
one_times nan t = refl
one_times (inf s) t = ap inf (like s)
one_times (fin s m e) t = finite_times (fin s m e) t (parts (fin s m e) t tt)

pub square_std : (x : Float) → powi binary32 x (pos 2) ≡ square x
unfolding powi pow_by_squaring square
square_std x = one_times (mul binary32 x x) (mul-fits binary32 x x)
