-- The one of three values that a channel's number names.
use Rattle.std.specs.Prelude.{ℕ, List, get_or, cond, eqb}

module _ {A : Type 0} where
  -- the first for 0, the second for 1, and the third for every number above 1
  abbrev pub of_three : ℕ → A → A → A → A
  of_three c x y z = cond (eqb c 0) x (cond (eqb c 1) y z)

  -- the same of a list; `none` stands for a value that the list has not
  abbrev pub three_at : A → ℕ → List A → A
  three_at none c xs = of_three c (get_or xs 0 none) (get_or xs 1 none) (get_or xs 2 none)
