-- A good field is written as its value is, and so has few bytes.
use Rattle.std.proofs.Common.{Some, None, Ok, Err, Option, Result}
use Rattle.refusal.specs.declared.Refusal.TheVariants as refusal
use Rattle.refusal.specs.declared.Refusal.{Refusal}
use Prim.Native.Nat.{ℕ, zero, suc, ◌+◌, ◌/◌, ◌%◌, ◌≤◌}
use mathlib.Core.Path.{◌≡◌, refl, ap}
use mathlib.Core.List.{List, [], ◌∷◌, ◌++◌}
use mathlib.Core.Bool.{Bool, true, false, cond, ◌&&◌, ◌||◌}
use mathlib.Core.Logic.{◌⊎◌, inl, inr}
use native.Mathlib.Omega.{arith}
use lib.ListN.{length, length-append}
use lib.Dec.{eqb, leb, ltb}
use borrow.Author.Tests.{eqb-true, ltb-true, ltb-false}
use Rattle.contents.specs.declared.Weight.{Weight}
use Rattle.text.specs.declared.field.Rule.TheVariants as rule
use Rattle.text.specs.declared.field.Field.TheVariants as field
use Rattle.text.specs.Numbers.{number_of, number_value}
use Rattle.text.specs.Weights.{weight_of, weight_in}
use Rattle.text.specs.Fields.{letter, is_side, number_field, quantiser_field, weight_field, field_of, fault_in}
use Rattle.text.specs.Written.{weight_text}
use Rattle.digits.specs.Written.{digits_of, decimal}
use Rattle.text.proofs.GoodLaws.{range_good, count_good, channels_good, quantiser_good, weight_good}
use Rattle.text.proofs.DecimalLaws.{number_canonical}
use Rattle.digits.proofs.Lengths.{decimal_length}
use Rattle.text.proofs.SpellingLaws.{weight_canonical, weight_length}

never : {k : ℕ} {A : Type 0} → Some k ≡ None → A
never e = let z : ◌≡◌ {A = ℕ} 0 1 = cc in let y : ⊥ = omega arith in absurd y

-- a larger number has no fewer digits
digits_grow : (k m n : ℕ) → m ≤ n → length (digits_of k m) ≤ length (digits_of k n)
digits_grow zero m n h = omega arith
digits_grow (suc k) m n h = two (ltb m 10) (ltb n 10) refl refl (digits_grow k (m / 10) (n / 10) (omega arith))
  where
    two : (a b : Bool) → ltb m 10 ≡ a → ltb n 10 ≡ b → length (digits_of k (m / 10)) ≤ length (digits_of k (n / 10))
        → length (cond a ((48 + m) ∷ []) (digits_of k (m / 10) ++ (48 + m % 10) ∷ [])) ≤ length (cond b ((48 + n) ∷ []) (digits_of k (n / 10) ++ (48 + n % 10) ∷ []))
    two true true p q ih = omega arith
    two true false p q ih = omega (arith, length-append (digits_of k (n / 10)) ((48 + n % 10) ∷ []))
    two false true p q ih = let y : ⊥ = omega (arith, ltb-false m 10 p, ltb-true n 10 q) in absurd y
    two false false p q ih = omega (arith, length-append (digits_of k (m / 10)) ((48 + m % 10) ∷ []), length-append (digits_of k (n / 10)) ((48 + n % 10) ∷ []))

pub decimal_grow : (m n : ℕ) → m ≤ n → length (decimal m) ≤ length (decimal n)
unfolding decimal
decimal_grow m n h = digits_grow 6 m n h

-- Numbers

is_number : (k : Refusal) (ok : ℕ → Bool) (r : Option ℕ) → fault_in (number_field k ok r) ≡ None → r ≡ Some (number_value r)
is_number k ok (Some n) e = refl
is_number k ok None e = never e

module _ (f : List ℕ) where
  as_written : number_of f ≡ Some (number_value (number_of f)) → decimal (number_value (number_of f)) ≡ f
  as_written e = number_canonical f (number_value (number_of f)) e

  pub range_as : (k : Refusal) (low high : ℕ) → fault_in (field_of (rule.Range k low high) f) ≡ None → decimal (number_value (number_of f)) ≡ f
  unfolding field_of
  range_as k low high e = as_written (is_number k (λ n. leb low n && leb n high) (number_of f) e)

  -- a number from low to high is no longer than the number n, if high is not above it
  pub range_short : (k : Refusal) (low high n : ℕ) → high ≤ n → fault_in (field_of (rule.Range k low high) f) ≡ None → length f ≤ length (decimal n)
  range_short k low high n h e = omega (arith, ap length (range_as k low high e), decimal_grow (number_value (number_of f)) n (omega (arith, (range_good f k low high e).top)))

  pub count_as : (most : ℕ) → fault_in (field_of (rule.Count most) f) ≡ None → decimal (number_value (number_of f)) ≡ f
  count_as most e = as_written (count_good f most e).0

  pub count_short : (most : ℕ) → fault_in (field_of (rule.Count most) f) ≡ None → length f ≤ 4
  count_short most e = omega (arith, ap length (count_as most e), decimal_length 3 (number_value (number_of f)) (omega (arith, (count_good f most e).1)))

  pub side_as : (most : ℕ) → fault_in (field_of (rule.Side most) f) ≡ None → decimal (number_value (number_of f)) ≡ f
  unfolding field_of
  side_as most e = as_written (is_number refusal.Size (is_side most) (number_of f) e)

  pub side_short : (most n : ℕ) → number_value (number_of f) ≤ n → fault_in (field_of (rule.Side most) f) ≡ None → length f ≤ length (decimal n)
  side_short most n h e = omega (arith, ap length (side_as most e), decimal_grow (number_value (number_of f)) n h)

  pub channels_as : fault_in (field_of rule.Channels f) ≡ None → decimal (number_value (number_of f)) ≡ f
  unfolding field_of
  channels_as e = as_written (is_number refusal.Size (λ n. eqb n 1 || eqb n 3) (number_of f) e)

  pub channels_short : fault_in (field_of rule.Channels f) ≡ None → length f ≤ 1
  channels_short e = by (channels_good f e)
    where
      by : (number_value (number_of f) ≡ 1) ⊎ (number_value (number_of f) ≡ 3) → length f ≤ 1
      by (inl q) = omega (arith, ap length (channels_as e), decimal_length 0 (number_value (number_of f)) (omega arith))
      by (inr q) = omega (arith, ap length (channels_as e), decimal_length 0 (number_value (number_of f)) (omega arith))

  -- Letters

  letter_as : (t : ℕ) (g : List ℕ) → letter t g ≡ true → t ∷ [] ≡ g
  letter_as t [] e = let z : ◌≡◌ {A = ℕ} 0 1 = cc in let y : ⊥ = omega arith in absurd y
  letter_as t (b ∷ []) e = rw (eqb-true b t e)
  letter_as t (b ∷ (d ∷ l)) e = let z : ◌≡◌ {A = ℕ} 0 1 = cc in let y : ⊥ = omega arith in absurd y

  pub tag_as : (t : ℕ) → fault_in (field_of (rule.Tag t) f) ≡ None → t ∷ [] ≡ f
  unfolding field_of
  tag_as t e = by (letter t f) refl e
    where
      by : (b : Bool) → letter t f ≡ b → fault_in (cond b (Ok field.Good) (Err refusal.Form)) ≡ None → t ∷ [] ≡ f
      by true p o = letter_as t f p
      by false p o = never o

  pub letters_as : (t u : ℕ) → fault_in (field_of (rule.Letters t u) f) ≡ None → cond (letter t f) t u ∷ [] ≡ f
  unfolding field_of
  letters_as t u e = by (letter t f) (letter u f) refl refl e
    where
      by : (a b : Bool) → letter t f ≡ a → letter u f ≡ b → fault_in (cond (a || b) (Ok field.Good) (Err refusal.Form)) ≡ None → cond a t u ∷ [] ≡ f
      by true b p q o = letter_as t f p
      by false true p q o = letter_as u f q
      by false false p q o = never o

  pub tag_short : (t : ℕ) → fault_in (field_of (rule.Tag t) f) ≡ None → length f ≤ 1
  tag_short t e = omega (arith, ap length (tag_as t e))

  pub letters_short : (t u : ℕ) → fault_in (field_of (rule.Letters t u) f) ≡ None → length f ≤ 1
  letters_short t u e = omega (arith, ap length (letters_as t u e))

  -- Weights and quantisers

  pub weight_as : fault_in (field_of rule.Weight f) ≡ None → weight_text (weight_in (weight_of f)) ≡ f
  unfolding field_of
  weight_as e = weight_canonical f (weight_in (weight_of f)) (is (weight_of f) e)
    where
      is : (r : Result Weight Refusal) → fault_in (weight_field r) ≡ None → r ≡ Ok (weight_in r)
      is (Ok w) o = refl
      is (Err k) o = never o

  pub weight_short : fault_in (field_of rule.Weight f) ≡ None → length f ≤ 9
  weight_short e = omega (arith, ap length (weight_as e), weight_length (weight_in (weight_of f)) (weight_good f e))

  pub quantiser_as : (q : ℕ) → field_of rule.Quantiser f ≡ Ok (field.Quantiser q) → decimal q ≡ f
  unfolding field_of
  quantiser_as q e = by (number_of f) refl e
    where
      inside : (n : ℕ) → number_of f ≡ Some n → (b : Bool) → cond b (Ok (field.Quantiser n)) (Err refusal.Table) ≡ Ok (field.Quantiser q) → decimal q ≡ f
      inside n p true o = let same : n ≡ q = cc in rw (← same) (number_canonical f n p)
      inside n p false o = let z : ◌≡◌ {A = ℕ} 0 1 = cc in let y : ⊥ = omega arith in absurd y

      by : (r : Option ℕ) → number_of f ≡ r → quantiser_field r ≡ Ok (field.Quantiser q) → decimal q ≡ f
      by (Some n) p o = inside n p (leb 1 n && leb n 255) o
      by None p o = let z : ◌≡◌ {A = ℕ} 0 1 = cc in let y : ⊥ = omega arith in absurd y

  pub quantiser_short : fault_in (field_of rule.Quantiser f) ≡ None → length f ≤ 3
  quantiser_short e =
      let g = quantiser_good f e in
      omega (arith, ap length (quantiser_as g.0 g.1), decimal_length 2 g.0 (omega (arith, g.2.top)))
