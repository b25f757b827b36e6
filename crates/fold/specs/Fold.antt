-- A counted loop of the Rust, `for k in 0..n`, as a function.
use Rattle.std.specs.Prelude.{ℕ, zero, suc}

module _ {ℓ} {A : Type ℓ} where
  -- the state a after the turns 0, 1, .., n - 1, where turn k makes `f k a` of a
  unfoldable pub upto : (ℕ → A → A) → ℕ → A → A
  upto f zero a = a
  upto f (suc k) a = f k (upto f k a)
