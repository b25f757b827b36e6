-- Lists put together of pieces.
use Rattle.std.specs.Prelude.{List, [], ◌++◌, ℕ}
use Rattle.fold.specs.Fold.{upto}

module _ {A : Type 0} where
  -- f 0, f 1, .., f (n - 1), one after the other
  abbrev pub join_upto : (ℕ → List A) → ℕ → List A
  join_upto f n = upto (λ k xs. xs ++ f k) n []
