-- What a good field says.
use Rattle.std.proofs.Common.{Some, Ok, Option, Result}
use Rattle.refusal.specs.declared.Refusal.{Refusal}
use Prim.Native.Nat.{ℕ, ◌%◌, ◌≤◌}
use mathlib.Core.Path.{◌≡◌, sym, ◌∙◌}
use mathlib.Core.List.{List}
use mathlib.Core.Bool.{true}
use lib.IntN.{ℤ}
use lib.Signed.{le_z}
use borrow.Author.Tests.{eq-eqb, ne_eqb, le-leb}
use Rattle.contents.specs.declared.Weight.{Weight}
use Rattle.text.specs.declared.field.Rule.TheVariants as rule
use Rattle.text.specs.declared.field.Field.TheVariants as field
use Rattle.text.specs.Numbers.{number_of}
use Rattle.text.specs.Weights.{weight_of}
use Rattle.text.specs.Levels.{level_of}
use Rattle.text.specs.Fields.{field_of}

-- A number in a range

module _ (f : List ℕ) (r : Option ℕ) (n : ℕ) (e : r ≡ number_of f) (p : r ≡ Some n) where
  pub range_in : (k : Refusal) (low high : ℕ) → low ≤ n → n ≤ high → Ok field.Good ≡ field_of (rule.Range k low high) f
  unfolding field_of
  range_in k low high l u = rw (sym e ∙ p, le-leb _ _ l, le-leb _ _ u)

  pub count_in : (most : ℕ) → n ≤ 1000 → n ≤ most → Ok field.Good ≡ field_of (rule.Count most) f
  unfolding field_of
  count_in most l u = rw (sym e ∙ p, le-leb _ _ l, le-leb _ _ u)

  pub side_in : (high : ℕ) → n % 8 ≡ 0 → 8 ≤ n → n ≤ high → Ok field.Good ≡ field_of (rule.Side high) f
  unfolding field_of
  side_in high o l u = rw (sym e ∙ p, eq-eqb _ _ o, le-leb _ _ l, le-leb _ _ u)

  pub channels_one : n ≡ 1 → Ok field.Good ≡ field_of rule.Channels f
  unfolding field_of
  channels_one o = rw (sym e ∙ p, eq-eqb _ _ o)

  pub channels_three : (n ≡ 1 → ⊥) → n ≡ 3 → Ok field.Good ≡ field_of rule.Channels f
  unfolding field_of
  channels_three o q = rw (sym e ∙ p, ne_eqb _ _ o, eq-eqb _ _ q)

  pub quantiser_in : 1 ≤ n → n ≤ 255 → Ok (field.Quantiser n) ≡ field_of rule.Quantiser f
  unfolding field_of
  quantiser_in l u = rw (sym e ∙ p, le-leb _ _ l, le-leb _ _ u)

-- A weight

pub weight_is : (f : List ℕ) (r : Result Weight Refusal) → r ≡ weight_of f → (w : Weight) → r ≡ Ok w → Ok field.Good ≡ field_of rule.Weight f
unfolding field_of
weight_is f r e w p = rw (sym e ∙ p)

-- Levels, and the ends of a range

module _ (f : List ℕ) (z : ℤ) (e : level_of f ≡ Ok z) where
  pub level-of : field_of rule.Level f ≡ Ok (field.Level z)
  unfolding field_of
  level-of = rw e

  pub low_of : field_of rule.Low f ≡ Ok (field.Low z)
  unfolding field_of
  low_of = rw e

  pub high_of : (low : ℤ) → le_z low z ≡ true → field_of (rule.High low) f ≡ Ok (field.High z)
  unfolding field_of
  high_of low h = rw (e, h)
