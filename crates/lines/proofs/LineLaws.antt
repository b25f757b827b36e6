-- The rule of a field by its place in the line.
use Rattle.std.proofs.Common.{Ok, Err, Result}
use Rattle.refusal.specs.declared.Refusal.TheVariants as refusal
use Rattle.refusal.specs.declared.Refusal.{Refusal}
use Prim.Native.Nat.{ℕ, zero, suc, ◌+◌, ◌-◌, ◌*◌, ◌/◌, ◌%◌, ◌<◌, ◌≤◌}
use mathlib.Core.Path.{◌≡◌, refl, sym, ap, ◌∙◌}
use mathlib.Core.List.{List, [], ◌∷◌, ◌++◌}
use mathlib.Core.Bool.{Bool, true, false, cond}
use native.Mathlib.Omega.{arith}
use lib.ListN.{length, get_or, take, drop, replicate, get_or-replicate}
use lib.Seq.{get_or-append-add, get_or-drop}
use lib.Dec.{eqb}
use lib.IntN.{ℤ}
use borrow.Author.Tests.{ne_eqb, eqb-true, eqb-false}
use Rattle.text.specs.declared.field.Rule.{Rule}
use Rattle.text.specs.declared.field.Rule.TheVariants as rule
use Rattle.text.specs.declared.field.Field.{Field}
use Rattle.text.specs.declared.field.Field.TheVariants as field
use Rattle.text.specs.Numbers.{number_at}
use Rattle.text.specs.Levels.{level_of, level_value}
use Rattle.std.specs.Int.Signed.{le_z}
use Rattle.text.specs.Fields.{letter, low_field, high_field, field_of}
use Rattle.contents.specs.declared.Limits.{Limits}
use Rattle.contents.specs.declared.Header.{Header}
use Rattle.lines.specs.declared.Tag.{Tag}
use Rattle.lines.specs.declared.Tag.TheVariants as tags
use Rattle.lines.specs.Lines.{letter_of, rules_of, count, factor, own_side, header_rules, choice_rules, hold_rules, any_number, mark_rules, channel_rules, block_rules, pair_rules, range_rules}
use Rattle.contents.specs.Hold.{measured}
use Rattle.lines.specs.Said.{said_before, range_rule}

-- Rules by place

past : (xs ys : List Rule) (i : ℕ) (d : Rule) → length xs ≤ i → get_or (xs ++ ys) i d ≡ get_or ys (i - length xs) d
past xs ys i d h =
    let e : length xs + (i - length xs) ≡ i = omega arith in
    rw e at (get_or-append-add xs ys (i - length xs) d)

module _ (limits : Limits) (fs : List (List ℕ)) (i : ℕ) where
  pub header_side : (i ≡ 0 → ⊥) → i ≤ 2 → rule.Side limits.side ≡ get_or (header_rules limits fs) i (rule.Tag 0)
  header_side = two i
    where
      two : (i : ℕ) → (i ≡ 0 → ⊥) → i ≤ 2 → rule.Side limits.side ≡ get_or (header_rules limits fs) i (rule.Tag 0)
      two zero h k = absurd (h refl)
      two (suc zero) h k = refl
      two (suc (suc zero)) h k = refl
      two (suc (suc (suc n))) h k = let z : ⊥ = omega arith in absurd z

  pub header_shown : (j : ℕ) → 3 ≤ i → i ≤ 4 → j ≡ i - 2 → rule.Range refusal.Size 1 (number_at fs j) ≡ get_or (header_rules limits fs) i (rule.Tag 0)
  header_shown j h k e = rw e (two i h k)
    where
      two : (i : ℕ) → 3 ≤ i → i ≤ 4 → rule.Range refusal.Size 1 (number_at fs (i - 2)) ≡ get_or (header_rules limits fs) i (rule.Tag 0)
      two (suc (suc (suc zero))) h k = refl
      two (suc (suc (suc (suc zero)))) h k = refl
      two zero h k = absurd (omega arith)
      two (suc zero) h k = absurd (omega arith)
      two (suc (suc zero)) h k = absurd (omega arith)
      two (suc (suc (suc (suc (suc n))))) h k = absurd (omega arith)

  pub header_count : 7 ≤ i → i ≤ 9 → count limits ≡ get_or (header_rules limits fs) i (rule.Tag 0)
  header_count h k =
      let e : get_or (header_rules limits fs) i (rule.Tag 0) ≡ get_or (count limits ∷ count limits ∷ count limits ∷ replicate 6 rule.Weight) (i - 7) (rule.Tag 0) =
      past (take 7 (header_rules limits fs)) (count limits ∷ count limits ∷ count limits ∷ replicate 6 rule.Weight) i (rule.Tag 0) h in
      rw e (three (i - 7) (omega arith))
    where
      three : (j : ℕ) → j ≤ 2 → count limits ≡ get_or (count limits ∷ count limits ∷ count limits ∷ replicate 6 rule.Weight) j (rule.Tag 0)
      three zero k = refl
      three (suc zero) k = refl
      three (suc (suc zero)) k = refl
      three (suc (suc (suc n))) k = let z : ⊥ = omega arith in absurd z

  pub header_weight : 9 < i → i < 16 → rule.Weight ≡ get_or (header_rules limits fs) i (rule.Tag 0)
  header_weight h k =
      sym (past (take 10 (header_rules limits fs)) (replicate 6 rule.Weight) i (rule.Tag 0) (omega arith)
      ∙ get_or-replicate 6 (i - 10) rule.Weight (rule.Tag 0) (omega arith))

module _ (i : ℕ) where
  pub channel_side : (i ≡ 0 → ⊥) → i ≤ 2 → own_side ≡ get_or channel_rules i (rule.Tag 0)
  channel_side = two i
    where
      two : (i : ℕ) → (i ≡ 0 → ⊥) → i ≤ 2 → own_side ≡ get_or channel_rules i (rule.Tag 0)
      two zero h k = absurd (h refl)
      two (suc zero) h k = refl
      two (suc (suc zero)) h k = refl
      two (suc (suc (suc n))) h k = let z : ⊥ = omega arith in absurd z

  pub channel_factor : 2 < i → i ≤ 4 → factor ≡ get_or channel_rules i (rule.Tag 0)
  channel_factor = two i
    where
      two : (i : ℕ) → 2 < i → i ≤ 4 → factor ≡ get_or channel_rules i (rule.Tag 0)
      two zero h k = let z : ⊥ = omega arith in absurd z
      two (suc zero) h k = let z : ⊥ = omega arith in absurd z
      two (suc (suc zero)) h k = let z : ⊥ = omega arith in absurd z
      two (suc (suc (suc zero))) h k = refl
      two (suc (suc (suc (suc zero)))) h k = refl
      two (suc (suc (suc (suc (suc n))))) h k = let z : ⊥ = omega arith in absurd z

  pub channel_quantiser : 4 < i → i < 69 → rule.Quantiser ≡ get_or channel_rules i (rule.Tag 0)
  channel_quantiser h k =
      sym (past (take 5 channel_rules) (replicate 64 rule.Quantiser) i (rule.Tag 0) (omega arith)
      ∙ get_or-replicate 64 (i - 5) rule.Quantiser (rule.Tag 0) (omega arith))

  pub block_level : (i ≡ 0 → ⊥) → i < 65 → rule.Level ≡ get_or block_rules i (rule.Tag 0)
  block_level h k =
      sym (past (take 1 block_rules) (replicate 64 rule.Level) i (rule.Tag 0) (omega arith)
      ∙ get_or-replicate 64 (i - 1) rule.Level (rule.Tag 0) (omega arith))

-- by turns a low and a high, which knows the low before it
module _ (d : Rule) where
  pair_low : (n : ℕ) (fs : List (List ℕ)) (j : ℕ) → j < n → get_or (pair_rules n fs) (2 * j) d ≡ rule.Low
  pair_low zero fs j h = let z : ⊥ = omega arith in absurd z
  pair_low (suc n) fs zero h = refl
  pair_low (suc n) fs (suc j) h = let e : 2 * suc j ≡ suc (suc (2 * j)) = omega arith in rw e (pair_low n (drop 2 fs) j (omega arith))

  pair_high : (n : ℕ) (fs : List (List ℕ)) (j : ℕ) → j < n → get_or (pair_rules n fs) (suc (2 * j)) d ≡ rule.High (level_value (level_of (get_or fs (2 * j) [])))
  pair_high zero fs j h = let z : ⊥ = omega arith in absurd z
  pair_high (suc n) fs zero h = refl
  pair_high (suc n) fs (suc j) h =
      let e : 2 * suc j ≡ suc (suc (2 * j)) = omega arith in
      let q : 2 + 2 * j ≡ suc (suc (2 * j)) = omega arith in
      rw e (pair_high n (drop 2 fs) j (omega arith) ∙ ap (λ (f : List ℕ). rule.High (level_value (level_of f))) (get_or-drop 2 fs (2 * j) [] ∙ ap (λ (k : ℕ). get_or fs k []) q))

-- the rule of the next field, by what a field said: after a low its high, after another a low
after_low : (i : ℕ) (f : List ℕ) (x : Field) → Ok x ≡ field_of rule.Low f → range_rule i x ≡ rule.High (level_value (level_of f))
unfolding field_of
after_low i f x e = two (level_of f) e
  where
    two : (r : Result ℤ Refusal) → Ok x ≡ low_field r → range_rule i x ≡ rule.High (level_value r)
    two (Ok z) e = let same : x ≡ field.Low z = cc in rw same
    two (Err k) e = cc

after_high : (i : ℕ) (low : ℤ) (f : List ℕ) (x : Field) → Ok x ≡ field_of (rule.High low) f → range_rule (suc i) x ≡ rule.Low
unfolding field_of
after_high i low f x e = two (level_of f) e
  where
    two : (r : Result ℤ Refusal) → Ok x ≡ high_field low r → range_rule (suc i) x ≡ rule.Low
    two (Ok z) e = fits (le_z low z) e
      where
        fits : (b : Bool) → Ok x ≡ cond b (Ok (field.High z)) (Err refusal.Range) → range_rule (suc i) x ≡ rule.Low
        fits true e = let same : x ≡ field.High z = cc in rw (same, ne_eqb (suc i) 0 (λ q. omega arith))
        fits false e = cc
    two (Err k) e = cc

after_tag : (i t : ℕ) (f : List ℕ) (x : Field) → Ok x ≡ field_of (rule.Tag t) f → range_rule (suc i) x ≡ rule.Low
unfolding field_of
after_tag i t f x e = two (letter t f) e
  where
    two : (b : Bool) → Ok x ≡ cond b (Ok field.Good) (Err refusal.Form) → range_rule (suc i) x ≡ rule.Low
    two true e = let same : x ≡ field.Good = cc in rw (same, ne_eqb (suc i) 0 (λ q. omega arith))
    two false e = cc

-- behind the tag the place says nothing
range_later : (i : ℕ) (x : Field) → range_rule 1 x ≡ range_rule (suc i) x
range_later i (field.Low z) = refl
range_later i (field.Quantiser q) = sym (ap (λ (b : Bool). cond b (rule.Tag 71) rule.Low) (ne_eqb (suc i) 0 (λ q. omega arith)))
range_later i (field.Level z) = sym (ap (λ (b : Bool). cond b (rule.Tag 71) rule.Low) (ne_eqb (suc i) 0 (λ q. omega arith)))
range_later i (field.High z) = sym (ap (λ (b : Bool). cond b (rule.Tag 71) rule.Low) (ne_eqb (suc i) 0 (λ q. omega arith)))
range_later i field.Good = sym (ap (λ (b : Bool). cond b (rule.Tag 71) rule.Low) (ne_eqb (suc i) 0 (λ q. omega arith)))

-- the rule of field i of a line G is the one by the field before
range_at : (fs : List (List ℕ)) (i : ℕ) (last : Field) → i < 129 → Ok last ≡ said_before (range_rules fs) fs i → range_rule i last ≡ get_or (range_rules fs) i (rule.Tag 0)
range_at fs zero last h e = let same : last ≡ field.Good = cc in rw same
range_at fs (suc zero) last h e = after_tag 0 71 (get_or fs 0 []) last e
range_at fs (suc (suc k)) last h e = turn (eqb (k % 2) 0) refl
  where
    said : (n : ℕ) (r : Rule) → suc k ≡ n → get_or (range_rules fs) n (rule.Tag 0) ≡ r → Ok last ≡ field_of r (get_or fs n [])
    said n r q p = e ∙ ap (λ (n : ℕ). field_of (get_or (range_rules fs) n (rule.Tag 0)) (get_or fs n [])) q ∙ ap (λ (r : Rule). field_of r (get_or fs n [])) p

    -- a low, after a high
    odd : (j : ℕ) → k ≡ suc (2 * j) → range_rule (suc (suc k)) last ≡ get_or (range_rules fs) (suc (suc k)) (rule.Tag 0)
    odd j q =
        let fs' = drop 1 fs in
        let n : suc k ≡ suc (suc (2 * j)) = omega (arith, q) in
        let m : suc k ≡ 2 * suc j = omega (arith, q) in
        after_high (suc k) _ _ last (said _ _ n (pair_high (rule.Tag 0) 64 fs' j (omega (arith, q, h))))
        ∙ sym (ap (λ (n : ℕ). get_or (range_rules fs) (suc n) (rule.Tag 0)) m ∙ pair_low (rule.Tag 0) 64 fs' (suc j) (omega (arith, q, h)))

    -- a high, after its low
    even : (j : ℕ) → k ≡ 2 * j → range_rule (suc (suc k)) last ≡ get_or (range_rules fs) (suc (suc k)) (rule.Tag 0)
    even j q =
        let fs' = drop 1 fs in
        let n : suc k ≡ suc (2 * j) = omega (arith, q) in
        let f = get_or fs (suc (2 * j)) [] in
        let one : 1 + 2 * j ≡ suc (2 * j) = omega arith in
        let same : get_or fs' (2 * j) [] ≡ f = get_or-drop 1 fs (2 * j) [] ∙ ap (λ (n : ℕ). get_or fs n []) one in
        after_low (suc (suc k)) f last (said _ _ n (pair_low (rule.Tag 0) 64 fs' j (omega (arith, q, h))))
        ∙ sym (ap (λ (n : ℕ). get_or (range_rules fs) (suc n) (rule.Tag 0)) n ∙ pair_high (rule.Tag 0) 64 fs' j (omega (arith, q, h)) ∙ ap (λ (f : List ℕ). rule.High (level_value (level_of f))) same)

    turn : (b : Bool) → eqb (k % 2) 0 ≡ b → range_rule (suc (suc k)) last ≡ get_or (range_rules fs) (suc (suc k)) (rule.Tag 0)
    turn true q = even (k / 2) (omega (arith, eqb-true (k % 2) 0 q))
    turn false q = odd (k / 2) (omega (arith, eqb-false (k % 2) 0 q))

-- the same behind the tag, where the code doesn't ask for the place
pub range_behind : (fs : List (List ℕ)) (i : ℕ) (last : Field) → (i ≡ 0 → ⊥) → i < 129 → Ok last ≡ said_before (range_rules fs) fs i → range_rule 1 last ≡ get_or (range_rules fs) i (rule.Tag 0)
range_behind fs zero last o h e = absurd (o refl)
range_behind fs (suc i) last o h e = range_later i last ∙ range_at fs (suc i) last h e

module _ (h : Header) (i : ℕ) where
  pub hold_most : (c : ℕ) → 1 ≤ i → i < 4 → c ≡ i - 1 → rule.Range refusal.Hold 0 (measured h c) ≡ get_or (hold_rules h) i (rule.Tag 0)
  hold_most c l k e = rw e (three i l k)
    where
      three : (i : ℕ) → 1 ≤ i → i < 4 → rule.Range refusal.Hold 0 (measured h (i - 1)) ≡ get_or (hold_rules h) i (rule.Tag 0)
      three zero l k = absurd (omega arith)
      three (suc zero) l k = refl
      three (suc (suc zero)) l k = refl
      three (suc (suc (suc zero))) l k = refl
      three (suc (suc (suc (suc j)))) l k = absurd (omega arith)

module _ (i : ℕ) where
  pub mark_number : (i ≡ 0 → ⊥) → i < 4 → any_number ≡ get_or mark_rules i (rule.Tag 0)
  mark_number = three i
    where
      three : (i : ℕ) → (i ≡ 0 → ⊥) → i < 4 → any_number ≡ get_or mark_rules i (rule.Tag 0)
      three zero o k = absurd (o refl)
      three (suc zero) o k = refl
      three (suc (suc zero)) o k = refl
      three (suc (suc (suc zero))) o k = refl
      three (suc (suc (suc (suc j)))) o k = let z : ⊥ = omega arith in absurd z

-- the rule of the first field is the line's tag
pub first_rule : (t : Tag) (limits : Limits) (h : Header) (fs : List (List ℕ)) → rule.Tag (letter_of t) ≡ get_or (rules_of (letter_of t) limits h fs) 0 (rule.Tag 0)
unfolding rules_of
first_rule tags.Header limits h fs = refl
first_rule tags.Rounding limits h fs = refl
first_rule tags.Start limits h fs = refl
first_rule tags.Hold limits h fs = refl
first_rule tags.Channel limits h fs = refl
first_rule tags.Block limits h fs = refl
first_rule tags.Range limits h fs = refl
first_rule tags.Mark limits h fs = refl
first_rule tags.End limits h fs = refl

-- the second of two letters' rules
pub choice_second : (tag a b i : ℕ) → (i ≡ 0 → ⊥) → i < 2 → rule.Letters a b ≡ get_or (choice_rules tag a b) i (rule.Tag 0)
choice_second tag a b zero o k = absurd (o refl)
choice_second tag a b (suc zero) o k = refl
choice_second tag a b (suc (suc i)) o k = let z : ⊥ = omega arith in absurd z

pub ruleset later_rules = (choice_second, block_level, mark_number)

pub ruleset rules = (hold_most, header_side, header_shown, header_count, header_weight, channel_side, channel_factor)
