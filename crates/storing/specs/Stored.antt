-- What storing values in a lent buffer leaves.
use Rattle.std.specs.Prelude.{ℕ, ◌+◌, ◌≡◌, List, length}
use Rattle.std.proofs.lemmas.List.Edits.{sets}

-- The values vs were stored from place n on, as far as there is room, and r is the next place
pub record Stored {A : Type 0} (entry exit : List A) (n r : ℕ) (vs : List A) : Type 0 where
  pub next : r ≡ n + length vs
  pub last : exit ≡ sets entry n vs
