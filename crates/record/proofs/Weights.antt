-- A legal weight by std's tests, and products that fit.
use mathlib.Core.Path.{◌≡◌, sym, ◌∙◌}
use Prim.Native.Nat.{ℕ, ◌*◌, ◌^◌, ◌<◌}
use native.Mathlib.Nat.{le_of_lt, lt_of_le_of_lt, mul-lt-mul_of_pos_right, mul-le-mul_left}
use mathlib.Core.Bool.{Bool, true, false, not, true≢false}
use lib.Pow.{pow_pos}
use lib.Ieee.{Float, nan, inf, fin}
use Rattle.std.specs.Float.{float_is_finite, is_sign_negative}
use Rattle.calls.specs.Run.{weight}

-- std's two tests
pub finite_weight : (x : Float) {b r : Bool} → b ≡ float_is_finite x → b ≡ true → r ≡ not (is_sign_negative x) → r ≡ weight x
unfolding float_is_finite is_sign_negative weight
finite_weight nan e t h = absurd (true≢false (sym t ∙ e))
finite_weight (inf s) e t h = absurd (true≢false (sym t ∙ e))
finite_weight (fin s m d) e t h = h

pub no_weight : (x : Float) {b : Bool} → b ≡ float_is_finite x → b ≡ false → b ≡ weight x
unfolding float_is_finite weight
no_weight nan e f = f
no_weight (inf s) e f = f
no_weight (fin s m d) e f = absurd (true≢false (sym e ∙ f))

-- a product of two u32 fits a u64
pub product_fits : {a b : ℕ} → a < 2 ^ 32 → b < 2 ^ 32 → a * b < 2 ^ 64
product_fits {a} {b} ha hb = lt_of_le_of_lt (mul-le-mul_left a (le_of_lt hb)) (mul-lt-mul_of_pos_right ha (pow_pos 32))
