-- What a field with no fault says, and which fields add nothing to the levels or to the tables.
use Rattle.std.proofs.Common.{Some, None, Ok, Err, Option, Result}
use Rattle.refusal.specs.declared.Refusal.TheVariants as refusal
use Rattle.refusal.specs.declared.Refusal.{Refusal}
use Prim.Native.Nat.{ℕ, zero, suc, ◌%◌, ◌≤◌}
use mathlib.Core.Path.{◌≡◌, refl}
use mathlib.Core.List.{List, [], ◌∷◌}
use mathlib.Core.Bool.{Bool, true, false, cond, ◌&&◌, ◌||◌}
use mathlib.Core.Logic.{◌⊎◌, inl, inr}
use native.Mathlib.Omega.{arith}
use lib.Dec.{eqb, leb, ltb}
use lib.IntN.{ℤ, pos, neg_ℤ}
use lib.Signed.{le_z}
use borrow.Author.Tests.{eqb-true, leb-true, ltb-true}
use Rattle.contents.specs.declared.Weight.{Weight}
use Rattle.contents.specs.declared.Weight.TheVariants as weight
use Rattle.text.specs.declared.field.Rule.{Rule}
use Rattle.text.specs.declared.field.Rule.TheVariants as rule
use Rattle.text.specs.declared.field.Field.{Field}
use Rattle.text.specs.declared.field.Field.TheVariants as field
use Rattle.text.specs.Numbers.{number_of, number_value}
use Rattle.text.specs.Weights.{bit_form, whole_weight, or_whole, after_letter, weight_of, weight_in}
use Rattle.contents.specs.Legal.{Between, LegalSide, LegalWeight, LegalLevel}
use Rattle.text.specs.Levels.{from_zero, below_zero, level_of}
use Rattle.text.specs.Fields.{letter, is_side, number_field, count_field, quantiser_field, weight_field, level_field, low_field, high_field, field_of, fault_in, lows_in, highs_in, tables_in}
use Rattle.digits.proofs.Both.{both_left, both_right}

-- Tests

either : (a b : Bool) → (a || b) ≡ true → (a ≡ true) ⊎ (b ≡ true)
either true b e = inl refl
either false b e = inr e

never : {k : ℕ} {A : Type 0} → Some k ≡ None → A
never e = let z : ◌≡◌ {A = ℕ} 0 1 = cc in let y : ⊥ = omega arith in absurd y

no_fault : (b : Bool) (k : Refusal) → fault_in (cond b (Ok field.Good) (Err k)) ≡ None → b ≡ true
no_fault true k e = refl
no_fault false k e = never e

-- a side by its test
pub side_is : (most n : ℕ) → is_side most n ≡ true → LegalSide most n
side_is most n e =
    let l = both_left (eqb (n % 8) 0 && leb 8 n) (leb n most) e in
    record {
      whole = eqb-true (n % 8) 0 (both_left (eqb (n % 8) 0) (leb 8 n) l);
      low = leb-true 8 n (both_right (eqb (n % 8) 0) (leb 8 n) l);
      top = leb-true n most (both_right (eqb (n % 8) 0 && leb 8 n) (leb n most) e);
    }

-- Numbers

number_good : (k : Refusal) (ok : ℕ → Bool) (r : Option ℕ) → fault_in (number_field k ok r) ≡ None → ok (number_value r) ≡ true
number_good k ok (Some n) e = no_fault (ok n) k e
number_good k ok None e = never e

module _ (f : List ℕ) where
  pub range_good : (k : Refusal) (low high : ℕ) → fault_in (field_of (rule.Range k low high) f) ≡ None → Between low high (number_value (number_of f))
  unfolding field_of
  range_good k low high e =
      let n = number_value (number_of f) in
      let g : (leb low n && leb n high) ≡ true = number_good k (λ n. leb low n && leb n high) (number_of f) e in
      record { low = leb-true low n (both_left (leb low n) (leb n high) g); top = leb-true n high (both_right (leb low n) (leb n high) g) }

  pub count_good : (most : ℕ) → fault_in (field_of (rule.Count most) f) ≡ None → (number_of f ≡ Some (number_value (number_of f))) × (number_value (number_of f) ≤ 1000) × (number_value (number_of f) ≤ most)
  unfolding field_of
  count_good most e = by (number_of f) e
    where
      two : (n : ℕ) (a b : Bool) → leb n 1000 ≡ a → leb n most ≡ b → fault_in (cond a (cond b (Ok field.Good) (Err refusal.Page)) (Err refusal.Size)) ≡ None → (n ≤ 1000) × (n ≤ most)
      two n true true p q o = (leb-true n 1000 p, leb-true n most q)
      two n true false p q o = never o
      two n false b p q o = never o

      by : (r : Option ℕ) → fault_in (count_field most r) ≡ None → (r ≡ Some (number_value r)) × (number_value r ≤ 1000) × (number_value r ≤ most)
      by (Some n) o = let t = two n (leb n 1000) (leb n most) refl refl o in (refl, t.0, t.1)
      by None o = never o

  pub side_good : (most : ℕ) → fault_in (field_of (rule.Side most) f) ≡ None → LegalSide most (number_value (number_of f))
  unfolding field_of
  side_good most e = side_is most (number_value (number_of f)) (number_good refusal.Size (is_side most) (number_of f) e)

  pub channels_good : fault_in (field_of rule.Channels f) ≡ None → (number_value (number_of f) ≡ 1) ⊎ (number_value (number_of f) ≡ 3)
  unfolding field_of
  channels_good e = by (either (eqb n 1) (eqb n 3) (number_good refusal.Size (λ n. eqb n 1 || eqb n 3) (number_of f) e))
    where
      n : ℕ
      n = number_value (number_of f)

      by : (eqb n 1 ≡ true) ⊎ (eqb n 3 ≡ true) → (n ≡ 1) ⊎ (n ≡ 3)
      by (inl q) = inl (eqb-true n 1 q)
      by (inr q) = inr (eqb-true n 3 q)

  -- Weights

  pub weight_good : fault_in (field_of rule.Weight f) ≡ None → LegalWeight (weight_in (weight_of f))
  unfolding field_of weight_of
  weight_good e = either_form (bit_form f) e
    where
      bits : (n : ℕ) (b : Bool) → ltb n 0x7f800000 ≡ b
          → fault_in (weight_field (cond b (Ok (weight.Bits n)) (Err refusal.Weight))) ≡ None
          → LegalWeight (weight_in (cond b (Ok (weight.Bits n)) (Err refusal.Weight)))
      bits n true p o = ltb-true n 0x7f800000 p
      bits n false p o = never o

      whole : (n : ℕ) (b : Bool) → leb n 255 ≡ b
          → fault_in (weight_field (cond b (Ok (weight.Whole n)) (Err refusal.Weight))) ≡ None
          → LegalWeight (weight_in (cond b (Ok (weight.Whole n)) (Err refusal.Weight)))
      whole n true p o = leb-true n 255 p
      whole n false p o = never o

      whole_form : (r : Option ℕ) → fault_in (weight_field (whole_weight r)) ≡ None → LegalWeight (weight_in (whole_weight r))
      whole_form (Some n) o = whole n (leb n 255) refl o
      whole_form None o = never o

      either_form : (b : Option ℕ) → fault_in (weight_field (or_whole f b)) ≡ None → LegalWeight (weight_in (or_whole f b))
      either_form (Some n) o = bits n (ltb n 0x7f800000) refl o
      either_form None o = whole_form (number_of (after_letter 119 f)) o

-- Quantisers and levels

-- one quantiser from 1 to 255
abbrev OneTable : Result Field Refusal → Type 0
OneTable x = (q : ℕ) × (x ≡ Ok (field.Quantiser q)) × Between 1 255 q

table_good : (r : Option ℕ) → fault_in (quantiser_field r) ≡ None → OneTable (quantiser_field r)
table_good (Some n) e = two (leb 1 n) (leb n 255) refl refl e
  where
    two : (a b : Bool) → leb 1 n ≡ a → leb n 255 ≡ b → fault_in (cond (a && b) (Ok (field.Quantiser n)) (Err refusal.Table)) ≡ None → OneTable (cond (a && b) (Ok (field.Quantiser n)) (Err refusal.Table))
    two true true p q o = (n, refl, record { low = leb-true 1 n p; top = leb-true n 255 q })
    two true false p q o = never o
    two false b p q o = never o
table_good None e = never e

pub quantiser_good : (f : List ℕ) → fault_in (field_of rule.Quantiser f) ≡ None → (q : ℕ) × (field_of rule.Quantiser f ≡ Ok (field.Quantiser q)) × Between 1 255 q
unfolding field_of
quantiser_good f e = table_good (number_of f) e

abbrev OneLevel : Result ℤ Refusal → Type 0
OneLevel r = (z : ℤ) × (r ≡ Ok z) × LegalLevel z

-- no level
abbrev Wrong : Result ℤ Refusal → Type 0
Wrong r = (k : Refusal) × (r ≡ Err k)

from-zero : (r : Option ℕ) → OneLevel (from_zero r) ⊎ Wrong (from_zero r)
from-zero (Some n) = two (leb n 2047) refl
  where
    two : (a : Bool) → leb n 2047 ≡ a → OneLevel (cond a (Ok (pos n)) (Err refusal.Level)) ⊎ Wrong (cond a (Ok (pos n)) (Err refusal.Level))
    two true p = inl (pos n, refl, leb-true n 2047 p)
    two false p = inr (refusal.Level, refl)
from-zero None = inr (refusal.Form, refl)

minus : (n : ℕ) → n ≤ 2047 → LegalLevel (neg_ℤ (pos n))
minus zero h = omega arith
minus (suc n) h = omega arith

below-zero : (r : Option ℕ) → OneLevel (below_zero r) ⊎ Wrong (below_zero r)
below-zero (Some n) = two (eqb n 0) (leb n 2047) refl
  where
    two : (a b : Bool) → leb n 2047 ≡ b
        → OneLevel (cond a (Err refusal.Form) (cond b (Ok (neg_ℤ (pos n))) (Err refusal.Level)))
        ⊎ Wrong (cond a (Err refusal.Form) (cond b (Ok (neg_ℤ (pos n))) (Err refusal.Level)))
    two true b p = inr (refusal.Form, refl)
    two false true p = inl (neg_ℤ (pos n), refl, minus n (leb-true n 2047 p))
    two false false p = inr (refusal.Level, refl)
below-zero None = inr (refusal.Form, refl)

-- what a level's field says: a legal level, or a fault
level_or : (f : List ℕ) → OneLevel (level_of f) ⊎ Wrong (level_of f)
unfolding level_of
level_or [] = inr (refusal.Form, refl)
level_or (b ∷ l) = two (eqb b 45)
  where
    two : (a : Bool) → OneLevel (cond a (below_zero (number_of l)) (from_zero (number_of (b ∷ l)))) ⊎ Wrong (cond a (below_zero (number_of l)) (from_zero (number_of (b ∷ l))))
    two true = below-zero (number_of l)
    two false = from-zero (number_of (b ∷ l))

pub level_good : (f : List ℕ) → fault_in (field_of rule.Level f) ≡ None → OneLevel (level_of f)
unfolding field_of
level_good f e = by (level_or f)
  where
    by : OneLevel (level_of f) ⊎ Wrong (level_of f) → OneLevel (level_of f)
    by (inl g) = g
    by (inr w) = never (rw w.1 at e)

pub low_good : (f : List ℕ) → fault_in (field_of rule.Low f) ≡ None → OneLevel (level_of f)
unfolding field_of
low_good f e = by (level_or f)
  where
    by : OneLevel (level_of f) ⊎ Wrong (level_of f) → OneLevel (level_of f)
    by (inl g) = g
    by (inr w) = never (rw w.1 at e)

-- the highest level of a range is not below its lowest
pub high_good : (low : ℤ) (f : List ℕ) → fault_in (field_of (rule.High low) f) ≡ None → (z : ℤ) × (level_of f ≡ Ok z) × LegalLevel z × (le_z low z ≡ true)
unfolding field_of
high_good low f e = by (level_or f)
  where
    above : (z : ℤ) (b : Bool) → le_z low z ≡ b → fault_in (cond b (Ok (field.High z)) (Err refusal.Range)) ≡ None → le_z low z ≡ true
    above z true p o = p
    above z false p o = never o

    by : OneLevel (level_of f) ⊎ Wrong (level_of f) → (z : ℤ) × (level_of f ≡ Ok z) × LegalLevel z × (le_z low z ≡ true)
    by (inl g) = (g.0, g.1, g.2, above g.0 (le_z low g.0) refl (rw g.1 at e))
    by (inr w) = never (rw w.1 at e)

-- Only a quantiser adds to the tables, only levels to the lows and the highs

abbrev pub adds_table : Rule → Bool
adds_table (rule.Tag t) = false
adds_table (rule.Range k low high) = false
adds_table (rule.Count most) = false
adds_table (rule.Side most) = false
adds_table rule.Channels = false
adds_table (rule.Letters a b) = false
adds_table rule.Weight = false
adds_table rule.Quantiser = true
adds_table rule.Level = false
adds_table rule.Low = false
adds_table (rule.High low) = false

abbrev pub adds_level : Rule → Bool
adds_level (rule.Tag t) = false
adds_level (rule.Range k low high) = false
adds_level (rule.Count most) = false
adds_level (rule.Side most) = false
adds_level rule.Channels = false
adds_level (rule.Letters a b) = false
adds_level rule.Weight = false
adds_level rule.Quantiser = false
adds_level rule.Level = true
adds_level rule.Low = true
adds_level (rule.High low) = true

-- a field that holds no level, and one that holds no quantiser
abbrev NoLevel : Result Field Refusal → Type 0
NoLevel x = (lows_in x ≡ []) × (highs_in x ≡ [])

abbrev Bare : Result Field Refusal → Type 0
Bare x = (tables_in x ≡ []) × NoLevel x

bare_cond : (b : Bool) (k : Refusal) → Bare (cond b (Ok field.Good) (Err k))
bare_cond true k = (refl, (refl, refl))
bare_cond false k = (refl, (refl, refl))

bare_number : (k : Refusal) (ok : ℕ → Bool) (r : Option ℕ) → Bare (number_field k ok r)
bare_number k ok (Some n) = bare_cond (ok n) k
bare_number k ok None = (refl, (refl, refl))

bare_count : (most : ℕ) (r : Option ℕ) → Bare (count_field most r)
bare_count most (Some n) = two (leb n 1000) (leb n most)
  where
    two : (a b : Bool) → Bare (cond a (cond b (Ok field.Good) (Err refusal.Page)) (Err refusal.Size))
    two true b = bare_cond b refusal.Page
    two false b = (refl, (refl, refl))
bare_count most None = (refl, (refl, refl))

bare_weight : (r : Result Weight Refusal) → Bare (weight_field r)
bare_weight (Ok w) = (refl, (refl, refl))
bare_weight (Err k) = (refl, (refl, refl))

no_level : (r : Option ℕ) → NoLevel (quantiser_field r)
no_level (Some n) = two (leb 1 n && leb n 255)
  where
    two : (b : Bool) → NoLevel (cond b (Ok (field.Quantiser n)) (Err refusal.Table))
    two true = (refl, refl)
    two false = (refl, refl)
no_level None = (refl, refl)

no_table : (r : Result ℤ Refusal) → tables_in (level_field r) ≡ []
no_table (Ok z) = refl
no_table (Err k) = refl

no_table_low : (r : Result ℤ Refusal) → tables_in (low_field r) ≡ []
no_table_low (Ok z) = refl
no_table_low (Err k) = refl

no_table_high : (low : ℤ) (r : Result ℤ Refusal) → tables_in (high_field low r) ≡ []
no_table_high low (Ok z) = two (le_z low z)
  where
    two : (b : Bool) → tables_in (cond b (Ok (field.High z)) (Err refusal.Range)) ≡ []
    two true = refl
    two false = refl
no_table_high low (Err k) = refl

pub tables_none : (r : Rule) (f : List ℕ) → adds_table r ≡ false → tables_in (field_of r f) ≡ []
unfolding field_of
tables_none (rule.Tag t) f e = (bare_cond (letter t f) refusal.Form).0
tables_none (rule.Range k low high) f e = (bare_number k (λ n. leb low n && leb n high) (number_of f)).0
tables_none (rule.Count most) f e = (bare_count most (number_of f)).0
tables_none (rule.Side most) f e = (bare_number refusal.Size (is_side most) (number_of f)).0
tables_none rule.Channels f e = (bare_number refusal.Size (λ n. eqb n 1 || eqb n 3) (number_of f)).0
tables_none (rule.Letters a b) f e = (bare_cond (letter a f || letter b f) refusal.Form).0
tables_none rule.Weight f e = (bare_weight (weight_of f)).0
tables_none rule.Quantiser f e = let z : ◌≡◌ {A = ℕ} 0 1 = cc in let y : ⊥ = omega arith in absurd y
tables_none rule.Level f e = no_table (level_of f)
tables_none rule.Low f e = no_table_low (level_of f)
tables_none (rule.High low) f e = no_table_high low (level_of f)

pub levels_none : (r : Rule) (f : List ℕ) → adds_level r ≡ false → (lows_in (field_of r f) ≡ []) × (highs_in (field_of r f) ≡ [])
unfolding field_of
levels_none (rule.Tag t) f e = (bare_cond (letter t f) refusal.Form).1
levels_none (rule.Range k low high) f e = (bare_number k (λ n. leb low n && leb n high) (number_of f)).1
levels_none (rule.Count most) f e = (bare_count most (number_of f)).1
levels_none (rule.Side most) f e = (bare_number refusal.Size (is_side most) (number_of f)).1
levels_none rule.Channels f e = (bare_number refusal.Size (λ n. eqb n 1 || eqb n 3) (number_of f)).1
levels_none (rule.Letters a b) f e = (bare_cond (letter a f || letter b f) refusal.Form).1
levels_none rule.Weight f e = (bare_weight (weight_of f)).1
levels_none rule.Quantiser f e = no_level (number_of f)
levels_none rule.Level f e = let z : ◌≡◌ {A = ℕ} 0 1 = cc in let y : ⊥ = omega arith in absurd y
levels_none rule.Low f e = let z : ◌≡◌ {A = ℕ} 0 1 = cc in let y : ⊥ = omega arith in absurd y
levels_none (rule.High low) f e = let z : ◌≡◌ {A = ℕ} 0 1 = cc in let y : ⊥ = omega arith in absurd y
