-- What a field says under the rule of its place: its refusal, or its value.
-- "spelling (1) before range".
use Rattle.refusal.specs.declared.Refusal.TheVariants as refusal
use Rattle.refusal.specs.declared.Refusal.{Refusal}
use Rattle.std.specs.Prelude.{ℕ, ◌%◌, List, [], ◌∷◌, Bool, false, cond, ◌&&◌, ◌||◌, eqb, leb, ℤ, Some, None, Ok, Err, Option, Result}
use Rattle.std.specs.Int.Signed.{le_z}
use Rattle.contents.specs.declared.Weight.{Weight}
use Rattle.text.specs.declared.field.Rule.{Rule}
use Rattle.text.specs.declared.field.Rule.TheVariants as rule
use Rattle.text.specs.declared.field.Field.{Field}
use Rattle.text.specs.declared.field.Field.TheVariants as field
use Rattle.refusal.specs.Refusal as table
use Rattle.text.specs.Numbers.{number_of}
use Rattle.text.specs.Weights.{weight_of}
use Rattle.text.specs.Levels.{level_of}

-- just the letter t
abbrev pub letter : ℕ → List ℕ → Bool
letter t [] = false
letter t (b ∷ []) = eqb b t
letter t (b ∷ (d ∷ l)) = false

-- "multiples of 8, 8 to 512", with the most in place of 512
abbrev pub is_side : ℕ → ℕ → Bool
is_side most n = (eqb (n % 8) 0 && leb 8 n) && leb n most

-- a number: 1 where it is misspelt, k where it is out of range
abbrev pub number_field : Refusal → (ℕ → Bool) → Option ℕ → Result Field Refusal
number_field k ok (Some n) = cond (ok n) (Ok field.Good) (Err k)
number_field k ok None = Err refusal.Form

-- "quantiser not 1 to 255" is 4
abbrev pub quantiser_field : Option ℕ → Result Field Refusal
quantiser_field (Some n) = cond (leb 1 n && leb n 255) (Ok (field.Quantiser n)) (Err refusal.Table)
quantiser_field None = Err refusal.Form

-- "three iteration counts (0 to 1,000)", else 2; "15 .. an iteration count within 1,000 but above the caller's limit" (M-106)
abbrev pub count_field : ℕ → Option ℕ → Result Field Refusal
count_field most (Some n) = cond (leb n 1000) (cond (leb n most) (Ok field.Good) (Err refusal.Page)) (Err refusal.Size)
count_field most None = Err refusal.Form

abbrev pub weight_field : Result Weight Refusal → Result Field Refusal
weight_field (Ok w) = Ok field.Good
weight_field (Err k) = Err k

-- "lines `B` with 64 levels"; "`G` with 64 pairs, low then high"; "14 "range", low above high, checked after 5 on the same pair" (M-105)
abbrev pub level_field : Result ℤ Refusal → Result Field Refusal
level_field (Ok z) = Ok (field.Level z)
level_field (Err k) = Err k

abbrev pub low_field : Result ℤ Refusal → Result Field Refusal
low_field (Ok z) = Ok (field.Low z)
low_field (Err k) = Err k

abbrev pub high_field : ℤ → Result ℤ Refusal → Result Field Refusal
high_field low (Ok z) = cond (le_z low z) (Ok (field.High z)) (Err refusal.Range)
high_field low (Err k) = Err k

-- "side, channel count, iterations .. against the rules" is 2, and the number of any other range stands in its rule; "a bad
-- mode letter is 1", and so is any other bad letter
unfoldable pub field_of : Rule → List ℕ → Result Field Refusal
field_of (rule.Tag t) f = cond (letter t f) (Ok field.Good) (Err refusal.Form)
field_of (rule.Range k low high) f = number_field k (λ n. leb low n && leb n high) (number_of f)
field_of (rule.Count most) f = count_field most (number_of f)
field_of (rule.Side most) f = number_field refusal.Size (is_side most) (number_of f)
field_of rule.Channels f = number_field refusal.Size (λ n. eqb n 1 || eqb n 3) (number_of f)
field_of (rule.Letters a b) f = cond (letter a f || letter b f) (Ok field.Good) (Err refusal.Form)
field_of rule.Weight f = weight_field (weight_of f)
field_of rule.Quantiser f = quantiser_field (number_of f)
field_of rule.Level f = level_field (level_of f)
field_of rule.Low f = low_field (level_of f)
field_of (rule.High low) f = high_field low (level_of f)

-- The number of a field's fault, if it has one
abbrev pub fault_in : Result Field Refusal → Option ℕ
fault_in (Err k) = Some (table.number_of k)
fault_in (Ok x) = None

-- What a field adds to the tables, to the lows and to the highs: "a `B` level stands in both"; a bad one adds nothing
abbrev pub tables_in : Result Field Refusal → List ℕ
tables_in (Err k) = []
tables_in (Ok (field.Quantiser n)) = n ∷ []
tables_in (Ok (field.Level z)) = []
tables_in (Ok (field.Low z)) = []
tables_in (Ok (field.High z)) = []
tables_in (Ok field.Good) = []

abbrev pub lows_in : Result Field Refusal → List ℤ
lows_in (Err k) = []
lows_in (Ok (field.Quantiser n)) = []
lows_in (Ok (field.Level z)) = z ∷ []
lows_in (Ok (field.Low z)) = z ∷ []
lows_in (Ok (field.High z)) = []
lows_in (Ok field.Good) = []

abbrev pub highs_in : Result Field Refusal → List ℤ
highs_in (Err k) = []
highs_in (Ok (field.Quantiser n)) = []
highs_in (Ok (field.Level z)) = z ∷ []
highs_in (Ok (field.Low z)) = []
highs_in (Ok (field.High z)) = z ∷ []
highs_in (Ok field.Good) = []
