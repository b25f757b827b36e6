-- Lists by their values.
use Rattle.std.specs.Prelude.{List, [], ◌∷◌, ℕ, zero, suc}

module _ {A : Type 0} where
  -- f 0, f 1, .., f (n - 1)
  unfoldable pub listed : (ℕ → A) → ℕ → List A
  listed f zero = []
  listed f (suc n) = f zero ∷ listed (λ k. f (suc k)) n
