-- Refusals: what each test gives, a number of the table or 0 for none, in the order of the tests.
use Rattle.std.specs.Prelude.{ℕ, zero, suc, Bool, ◌&&◌, cond, List, [], ◌∷◌, leb, ℤ, nat_abs}
use Rattle.std.specs.List.{list_all}

abbrev pub Tests : Type 0
Tests = List ℕ

-- the first that isn't 0 counts; 0 if all are
abbrev pub first : Tests → ℕ
first [] = 0
first (zero ∷ ts) = first ts
first (suc n ∷ ts) = suc n

-- a number's test
abbrev pub test : ℕ → Bool → ℕ
test n b = cond b n 0

-- a test of every value
module _ {A : Type 0} where
  abbrev pub all : (A → Bool) → List A → Bool
  all = list_all

-- "quantiser not 1 to 255" is 4, "level beyond ±2,047" is 5
abbrev pub table_ok : ℕ → Bool
table_ok q = leb 1 q && leb q 255

abbrev pub level_ok : ℤ → Bool
level_ok d = leb (nat_abs d) 2047
