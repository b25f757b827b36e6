-- Eight sums at once, and the bit patterns of those that f64 decides.
use Rattle.std.specs.Prelude.{◌≡◌, ℕ, List, ◌+◌, ◌*◌, ◌/◌, ◌%◌, ◌<◌, ◌≤◌, ◌⊎◌, T, Float, get_or}
use Rattle.std.specs.Float.{binary64}
use Rattle.std.specs.Float.Ieee.{add, mul}
use Rattle.float.specs.Names.{val}
use lib.Ieee.Scale.{finite}

-- no NaN and no infinity, of one value and of eight
abbrev pub Finite : Float → Type 0
Finite x = T (finite x)

abbrev pub Finites : List Float → Type 0
Finites v = (i : ℕ) → i < 8 → Finite (val v i)

-- lane i of a vector of whole numbers
abbrev pub lane : List ℕ → ℕ → ℕ
lane v i = get_or v i 0

-- the sum in f64
abbrev pub wide_sum : Float → Float → Float → Float
wide_sum a q g = add binary64 (mul binary64 a q) g

-- the words of a pattern, the upper one without the sign
abbrev pub high_word : ℕ → ℕ
high_word n = n / 4294967296 % 2147483648

abbrev pub low_word : ℕ → ℕ
low_word n = n % 4294967296

-- the pattern is a clear sum's: the size, at 2 ^ 63, from 2 ^ -125 to below 2 ^ 127, and the 29
-- digits that are to go not a one and 28 zeros
pub record ClearPattern (n : ℕ) : Type 0 where
  pub lo : 4044232465378705408 ≤ n % 9223372036854775808
  pub hi : n % 9223372036854775808 < 5179139571476070400
  pub untied : n % 9223372036854775808 % 536870912 ≡ 268435456 → ⊥

-- or it is a zero's
abbrev pub Decided : ℕ → Type 0
Decided n = (n % 9223372036854775808 ≡ 0) ⊎ ClearPattern n

-- the last 29 digits rounded away
abbrev pub tidied : ℕ → ℕ
tidied n = (n + 268435456) / 536870912 * 536870912
