-- What a call on lent slices gives.
use Rattle.std.specs.Prelude.{ℕ, zero, suc, List}

-- the answer's number, and the slice that was lent to be written, as it is afterwards
pub record Filled (A : Type 0) : Type 0 where
  pub number : ℕ
  pub written : List A

module _ {A : Type 0} where
  abbrev pub filled : ℕ → List A → Filled A
  filled n xs = record { number = n; written = xs }

  -- a call whose tests give the number n: without a refusal the new values, and with one the old, "a refusal leaves .. unchanged"
  abbrev pub fill : ℕ → List A → List A → Filled A
  fill zero new old = filled 0 new
  fill (suc n) new old = filled (suc n) old
