-- Places of rows and channels, and parts of a looped state.
use mathlib.Core.Path.{◌≡◌, refl, ap, ◌∙◌}
use mathlib.Core.Logic.{◌≢◌}
use Prim.Native.Nat.{ℕ, zero, suc, ◌+◌, ◌*◌, ◌≤◌, ◌<◌}
use native.Mathlib.Nat.{mul_comm, add-mul, one-mul}
use native.Mathlib.Omega.{arith}
use Rattle.fold.specs.Fold.{upto}
use Rattle.fold.proofs.Grid.{row_end}
use Rattle.gradients.specs.Tv.{px_idx}

-- what a part of the state does while the state is looped over
pub upto_part : {A B : Type 0} (part : A → B) (f : ℕ → A → A) (g : ℕ → B → B) → ((k : ℕ) (a : A) → part (f k a) ≡ g k (part a)) → (n : ℕ) (a : A) → part (upto f n a) ≡ upto g n (part a)
unfolding upto
upto_part part f g h zero a = refl
upto_part part f g h (suc n) a = h n (upto f n a) ∙ ap (g n) (upto_part part f g h n a)

pub next_row : (y W : ℕ) → (y + 1) * W ≡ y * W + W
next_row y W = add-mul y 1 W ∙ ap (λ (z : ℕ). y * W + z) (one-mul W)

-- a place of channel c lies before those of a later channel
pub px_before : (W H c d r x k : ℕ) → c < d → r < H → x < W → d * (W * H) ≤ k → px_idx W H c r x ≢ k
px_before W H c d r x k l h m p e =
    let a = row_end c d (W * H) l in
    let b = row_end r H W h in
    let z = mul_comm W H in
    let i : c * (W * H) + (r * W + x) < c * (W * H) + H * W = omega arith in
    omega (arith, ap (λ (t : ℕ). c * (W * H) + t) z)
