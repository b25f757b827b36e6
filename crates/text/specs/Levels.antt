-- "only a level may carry a minus, and never before 0"; "level beyond ±2,047" is 5.
use Rattle.refusal.specs.declared.Refusal.TheVariants as refusal
use Rattle.refusal.specs.declared.Refusal.{Refusal}
use Rattle.std.specs.Prelude.{ℕ, List, [], ◌∷◌, cond, eqb, leb, ℤ, pos, neg_ℤ, Some, None, Ok, Err, Option, Result}
use Rattle.text.specs.Numbers.{number_of}

-- a number, with no minus before it
abbrev pub from_zero : Option ℕ → Result ℤ Refusal
from_zero (Some n) = cond (leb n 2047) (Ok (pos n)) (Err refusal.Level)
from_zero None = Err refusal.Form

-- a number after a minus
abbrev pub below_zero : Option ℕ → Result ℤ Refusal
below_zero (Some n) = cond (eqb n 0) (Err refusal.Form) (cond (leb n 2047) (Ok (neg_ℤ (pos n))) (Err refusal.Level))
below_zero None = Err refusal.Form

-- a level, with a minus (45) or without
unfoldable pub level_of : List ℕ → Result ℤ Refusal
level_of [] = Err refusal.Form
level_of (b ∷ l) = cond (eqb b 45) (below_zero (number_of l)) (from_zero (number_of (b ∷ l)))

-- its value; 0 for a field that is none
abbrev pub level_value : Result ℤ Refusal → ℤ
level_value (Ok z) = z
level_value (Err k) = pos 0
