-- The definitions at small lists, computed.
use mathlib.Core.Path.{◌≡◌, refl}
use mathlib.Core.List.{List, [], ◌∷◌, ◌++◌}
use Prim.Native.Nat.{ℕ}
use Rattle.fold.specs.Fold.{upto}
use Rattle.fold.specs.Part.{splice}

-- the turns go from 0 up
pub in_turn : upto (λ k (xs : List ℕ). xs ++ (k ∷ [])) 3 [] ≡ 0 ∷ 1 ∷ 2 ∷ []
unfolding upto
in_turn = refl

-- one value put in the place of the second
pub put_back : splice {A = ℕ} (1 ∷ 2 ∷ 3 ∷ []) 1 2 (9 ∷ []) ≡ 1 ∷ 9 ∷ 3 ∷ []
put_back = refl
