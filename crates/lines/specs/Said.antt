-- What the field before a field said: by it the rule of a high has its low.
use Rattle.std.specs.Prelude.{ℕ, zero, suc, List, [], cond, eqb, get_or, Ok, Result}
use Rattle.refusal.specs.declared.Refusal.{Refusal}
use Rattle.text.specs.declared.field.Rule.{Rule}
use Rattle.text.specs.declared.field.Rule.TheVariants as rule
use Rattle.text.specs.declared.field.Field.{Field}
use Rattle.text.specs.declared.field.Field.TheVariants as field
use Rattle.text.specs.Fields.{field_of}

-- What the field before field i said; before the first there is none
abbrev pub said_before : List Rule → List (List ℕ) → ℕ → Result Field Refusal
said_before rs fs zero = Ok field.Good
said_before rs fs (suc i) = field_of (get_or rs i (rule.Tag 0)) (get_or fs i [])

-- The rule of field i of a line `G`, by what the field before it said: after a low its high, else a low, and first the tag
abbrev pub range_rule : ℕ → Field → Rule
range_rule i (field.Low z) = rule.High z
range_rule i (field.Quantiser q) = cond (eqb i 0) (rule.Tag 71) rule.Low
range_rule i (field.Level z) = cond (eqb i 0) (rule.Tag 71) rule.Low
range_rule i (field.High z) = cond (eqb i 0) (rule.Tag 71) rule.Low
range_rule i field.Good = cond (eqb i 0) (rule.Tag 71) rule.Low
