-- A lent part of a list.
use Rattle.std.specs.Prelude.{List, ◌++◌, ℕ, ◌-◌, take, drop}

module _ {ℓ} {A : Type ℓ} where
  -- `xs[a..e]`: the values from place a on that stand before place e
  abbrev pub part : List A → ℕ → ℕ → List A
  part xs a e = take (e - a) (drop a xs)

  -- xs once a lent `&mut xs[a..e]` is back, holding ys
  abbrev pub splice : List A → ℕ → ℕ → List A → List A
  splice xs a e ys = take a xs ++ (ys ++ drop (e - a) (drop a xs))
