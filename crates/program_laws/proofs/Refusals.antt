-- A text is refused by a number of the table other than that of a blown channel, at a line counted from 1.
use Rattle.std.proofs.Common.{ℕ, zero, suc, ◌+◌, ◌≡◌, ◌≤◌, Bool, true, false, cond, not, ◌&&◌, ◌||◌, List, [], ◌∷◌, length, drop, replicate, refl, arith, Some, None, Option, Ok, Err, Result, ℤ, pos}
use Rattle.std.specs.Prelude.{neg_ℤ}
use Rattle.std.specs.Int.Signed.{le_z}
use lib.Dec.{eqb, ltb, leb}
use Rattle.refusal.specs.declared.Refusal.{Refusal}
use Rattle.refusal.specs.declared.Refusal.TheVariants as refusal
use Rattle.refusal.specs.Refusal as table
use Rattle.contents.specs.declared.Limits.{Limits}
use Rattle.contents.specs.declared.Header.{Header}
use Rattle.contents.specs.declared.Weight.{Weight}
use Rattle.contents.specs.declared.Weight.TheVariants as weight
use Rattle.contents.specs.Sheets.{Held, nothing}
use Rattle.text.specs.declared.field.Rule.{Rule}
use Rattle.text.specs.declared.field.Rule.TheVariants as rule
use Rattle.text.specs.declared.field.Field.{Field}
use Rattle.text.specs.declared.field.Field.TheVariants as field
use Rattle.text.specs.Numbers.{number_of}
use Rattle.text.specs.Weights.{after_letter, bit_form, whole_weight, or_whole, weight_of}
use Rattle.text.specs.Levels.{from_zero, below_zero, level_of}
use Rattle.text.specs.Pieces.{split}
use Rattle.text.specs.Fields.{letter, number_field, quantiser_field, count_field, weight_field, level_field, low_field, high_field, field_of, fault_in}
use Rattle.progress.specs.declared.State.{State}
use Rattle.progress.specs.Progress.{blank, line_tag, covers, opened, exists, taken_if}
use Rattle.lines.specs.declared.Record.{Record}
use Rattle.lines.specs.declared.Record.TheVariants as line
use Rattle.lines.specs.Lines.{header_rules, rounding_rules, start_rules, hold_rules, channel_rules, block_rules, pair_rules, range_rules, mark_rules, end_rules, rules_of, first_fault, fields_fault, or_else, holding, record_of}
use Rattle.sheet.specs.Reading.{Outcome, Contents, contents, is_twice, taken_of, is_last, line_fault, nothing_left, on_fault, on_taken, read_from, read_text}
use Rattle.sheet.specs.Reading.Outcome.{Gives, Refused}
use Rattle.program.specs.Printed.{limits}

-- a number of the table, but for that of a blown channel
abbrev pub Tabled : ℕ → Type 0
Tabled k = (r : Refusal) × (table.number_of r ≡ k) × (k ≡ 10 → ⊥)

-- a fault has such a number
abbrev TabledFault : Option ℕ → Type 0
TabledFault None = Unit {0}
TabledFault (Some k) = Tabled k

-- a refusal has such a number, and a line counted from 1
abbrev pub TabledRefusal : Outcome Contents → Type 0
TabledRefusal (Gives c) = Unit {0}
TabledRefusal (Refused k line) = Tabled k × (1 ≤ line)

-- ---- a field's fault

-- it is not that a channel blew
abbrev Calm : Refusal → Type 0
Calm r = table.number_of r ≡ 10 → ⊥

module _ {A : Type 0} where
  abbrev CalmResult : Result A Refusal → Type 0
  CalmResult (Ok x) = Unit {0}
  CalmResult (Err r) = Calm r

  either_result : (b : Bool) (x y : Result A Refusal) → CalmResult x → CalmResult y → CalmResult (cond b x y)
  either_result true x y p q = p
  either_result false x y p q = q

abbrev CalmRule : Rule → Type 0
CalmRule (rule.Range k low high) = Calm k
CalmRule (rule.Tag t) = Unit {0}
CalmRule (rule.Count most) = Unit {0}
CalmRule (rule.Side most) = Unit {0}
CalmRule rule.Channels = Unit {0}
CalmRule (rule.Letters a b) = Unit {0}
CalmRule rule.Weight = Unit {0}
CalmRule rule.Quantiser = Unit {0}
CalmRule rule.Level = Unit {0}
CalmRule rule.Low = Unit {0}
CalmRule (rule.High low) = Unit {0}

form : Calm refusal.Form
form e = absurd (omega arith)

size : Calm refusal.Size
size e = absurd (omega arith)

number_calm : (k : Refusal) (ok : ℕ → Bool) (n : Option ℕ) → Calm k → CalmResult (number_field k ok n)
number_calm k ok (Some n) h = either_result (ok n) (Ok field.Good) (Err k) tt h
number_calm k ok None h = form

count_calm : (most : ℕ) (n : Option ℕ) → CalmResult (count_field most n)
count_calm most (Some n) =
    either_result (leb n 1000) (cond (leb n most) (Ok field.Good) (Err refusal.Page)) (Err refusal.Size)
    (either_result (leb n most) (Ok field.Good) (Err refusal.Page) tt (λ e. absurd (omega arith))) size
count_calm most None = form

quantiser_calm : (n : Option ℕ) → CalmResult (quantiser_field n)
quantiser_calm (Some n) = either_result (leb 1 n && leb n 255) (Ok (field.Quantiser n)) (Err refusal.Table) tt (λ e. absurd (omega arith))
quantiser_calm None = form

whole_calm : (n : Option ℕ) → CalmResult (whole_weight n)
whole_calm (Some n) = either_result (leb n 255) (Ok (weight.Whole n)) (Err refusal.Weight) tt (λ e. absurd (omega arith))
whole_calm None = form

weight_calm : (f : List ℕ) → CalmResult (weight_of f)
unfolding weight_of
weight_calm f = by (bit_form f)
  where
    by : (n : Option ℕ) → CalmResult (or_whole f n)
    by (Some n) = either_result (ltb n 0x7f800000) (Ok (weight.Bits n)) (Err refusal.Weight) tt (λ e. absurd (omega arith))
    by None = whole_calm (number_of (after_letter 119 f))

level_calm : (f : List ℕ) → CalmResult (level_of f)
unfolding level_of
level_calm [] = form
level_calm (b ∷ l) = either_result (eqb b 45) (below_zero (number_of l)) (from_zero (number_of (b ∷ l))) (below (number_of l)) (from (number_of (b ∷ l)))
  where
    from : (n : Option ℕ) → CalmResult (from_zero n)
    from (Some n) = either_result (leb n 2047) (Ok (pos n)) (Err refusal.Level) tt (λ e. absurd (omega arith))
    from None = form

    below : (n : Option ℕ) → CalmResult (below_zero n)
    below (Some n) =
        either_result (eqb n 0) (Err refusal.Form) (cond (leb n 2047) (Ok (neg_ℤ (pos n))) (Err refusal.Level)) form
        (either_result (leb n 2047) (Ok (neg_ℤ (pos n))) (Err refusal.Level) tt (λ e. absurd (omega arith)))
    below None = form

as_weight : (w : Result Weight Refusal) → CalmResult w → CalmResult (weight_field w)
as_weight (Ok w) h = tt
as_weight (Err k) h = h

as_level : (z : Result ℤ Refusal) → CalmResult z → CalmResult (level_field z)
as_level (Ok z) h = tt
as_level (Err k) h = h

as_low : (z : Result ℤ Refusal) → CalmResult z → CalmResult (low_field z)
as_low (Ok z) h = tt
as_low (Err k) h = h

as_high : (low : ℤ) (z : Result ℤ Refusal) → CalmResult z → CalmResult (high_field low z)
as_high low (Ok z) h = either_result (le_z low z) (Ok (field.High z)) (Err refusal.Range) tt (λ e. absurd (omega arith))
as_high low (Err k) h = h

field_calm : (r : Rule) (f : List ℕ) → CalmRule r → CalmResult (field_of r f)
unfolding field_of
field_calm (rule.Tag t) f h = either_result (letter t f) (Ok field.Good) (Err refusal.Form) tt form
field_calm (rule.Range k low high) f h = number_calm k _ (number_of f) h
field_calm (rule.Count most) f h = count_calm most (number_of f)
field_calm (rule.Side most) f h = number_calm refusal.Size _ (number_of f) size
field_calm rule.Channels f h = number_calm refusal.Size _ (number_of f) size
field_calm (rule.Letters a b) f h = either_result (letter a f || letter b f) (Ok field.Good) (Err refusal.Form) tt form
field_calm rule.Weight f h = as_weight (weight_of f) (weight_calm f)
field_calm rule.Quantiser f h = quantiser_calm (number_of f)
field_calm rule.Level f h = as_level (level_of f) (level_calm f)
field_calm rule.Low f h = as_low (level_of f) (level_calm f)
field_calm (rule.High low) f h = as_high low (level_of f) (level_calm f)

-- ---- the rules of a line

abbrev CalmRules : List Rule → Type 0
CalmRules [] = Unit {0}
CalmRules (r ∷ rs) = CalmRule r × CalmRules rs

replicate_calm : (n : ℕ) (r : Rule) → CalmRule r → CalmRules (replicate n r)
replicate_calm zero r h = tt
replicate_calm (suc n) r h = (h, replicate_calm n r h)

pairs_calm : (n : ℕ) (fs : List (List ℕ)) → CalmRules (pair_rules n fs)
pairs_calm zero fs = tt
pairs_calm (suc n) fs = (tt, (tt, pairs_calm n (drop 2 fs)))

either_rules : (b : Bool) (x y : List Rule) → CalmRules x → CalmRules y → CalmRules (cond b x y)
either_rules true x y p q = p
either_rules false x y p q = q

hold : Calm refusal.Hold
hold e = absurd (omega arith)

factor_calm : Calm refusal.Factor
factor_calm e = absurd (omega arith)

rules_calm : (tag : ℕ) (given : Limits) (h : Header) (fs : List (List ℕ)) → CalmRules (rules_of tag given h fs)
unfolding rules_of
rules_calm tag given h fs =
    let header : CalmRules (header_rules given fs) = (tt, (tt, (tt, (size, (size, (tt, (tt, (tt, (tt, (tt, replicate_calm 6 rule.Weight tt)))))))))) in
    let channel : CalmRules channel_rules = (tt, (tt, (tt, (factor_calm, (factor_calm, replicate_calm 64 rule.Quantiser tt))))) in
    either_rules (eqb tag 66) block_rules _ (tt, replicate_calm 64 rule.Level tt)
    (either_rules (eqb tag 71) (range_rules fs) _ (tt, pairs_calm 64 (drop 1 fs))
    (either_rules (eqb tag 67) channel_rules _ channel
    (either_rules (eqb tag 83) (header_rules given fs) _ header
    (either_rules (eqb tag 70) rounding_rules _ (tt, (tt, tt))
    (either_rules (eqb tag 65) start_rules _ (tt, (tt, tt))
    (either_rules (eqb tag 72) (hold_rules h) _ (tt, (hold, (hold, (hold, tt))))
    (either_rules (eqb tag 78) mark_rules end_rules (tt, (form, (form, (form, tt)))) (tt, tt))))))))

-- ---- a line's fault

or_tabled : (x : Result Field Refusal) (y : Option ℕ) → CalmResult x → TabledFault y → TabledFault (or_else (fault_in x) y)
or_tabled (Ok x) y c h = h
or_tabled (Err r) y c h = (r, refl, c)

first_tabled : (rs : List Rule) (fs : List (List ℕ)) → CalmRules rs → TabledFault (first_fault rs fs)
first_tabled [] fs h = tt
first_tabled (r ∷ rs) [] h = tt
first_tabled (r ∷ rs) (f ∷ fs) h = or_tabled (field_of r f) (first_fault rs fs) (field_calm r f h.0) (first_tabled rs fs h.1)

either_fault : (b : Bool) (x y : Option ℕ) → TabledFault x → TabledFault y → TabledFault (cond b x y)
either_fault true x y p q = p
either_fault false x y p q = q

cut : Calm refusal.Cut
cut e = absurd (omega arith)

fields_tabled : (rs : List Rule) (fs : List (List ℕ)) → CalmRules rs → TabledFault (fields_fault rs fs)
unfolding fields_fault
fields_tabled rs fs h = either_fault (eqb (length fs) (length rs)) (first_fault rs fs) (Some 1) (first_tabled rs fs h) (refusal.Form, refl, form)

line_tabled : (rs : List Rule) (p : List ℕ) (rest : List (List ℕ)) → CalmRules rs → TabledFault (line_fault rs p rest)
unfolding line_fault
line_tabled rs p rest h =
    either_fault (ltb 1024 (length p)) (Some 1) (cond (is_last rest) (Some 7) (fields_fault rs (split 9 p))) (refusal.Form, refl, form)
    (either_fault (is_last rest) (Some 7) (fields_fault rs (split 9 p)) (refusal.Cut, refl, cut) (fields_tabled rs (split 9 p) h))

-- ---- what a good line does

taken_calm : (s : State) (twice : Bool) (rec : Record) → CalmResult (taken_if s twice rec)
unfolding taken_if
taken_calm s twice (line.Header h) = tt
taken_calm s twice (line.Channel c) = either_result (covers s.sheet.header c) (Ok (opened s c)) (Err refusal.Size) tt size
taken_calm s twice (line.Setting x) = tt
taken_calm s twice line.Block = tt
taken_calm s twice (line.Mark m) = either_result (exists s.sheet m && not twice) (Ok s) (Err refusal.Mark) tt (λ e. absurd (omega arith))

-- ---- a text's refusal

on-fault : (f : Option ℕ) (at : ℕ) (x : Outcome Contents) → 1 ≤ at → TabledFault f → TabledRefusal x → TabledRefusal (on_fault f at x)
on-fault None at x h l m = m
on-fault (Some k) at x h l m = (l, h)

on-taken : (t : Result State Refusal) (at : ℕ) (f : State → Outcome Contents) → CalmResult t → 1 ≤ at → ((s : State) → TabledRefusal (f s)) → TabledRefusal (on_taken t at f)
on-taken (Ok s) at f c h l = l s
on-taken (Err r) at f c h l = ((r, refl, c), h)

either : (b : Bool) (x y : Outcome Contents) → TabledRefusal x → TabledRefusal y → TabledRefusal (cond b x y)
either true x y p q = p
either false x y p q = q

from_tabled : (limits : Limits) (s : State) (H : Held) (at : ℕ) (ps : List (List ℕ)) → 1 ≤ at → TabledRefusal (read_from limits s H at ps)
from_tabled limits s H at [] h = ((refusal.Cut, refl, cut), h)
from_tabled limits s H at (p ∷ rest) h =
    let fs = split 9 p in
    let tag = line_tag s fs in
    let rs = rules_of tag limits s.sheet.header fs in
    let E = cond (nothing_left rest) (contents s.sheet H) (Refused 7 (at + 1)) in
    let more = on_taken (taken_of s H.marks (record_of tag fs)) at (λ t. read_from limits t (holding H s.sheet tag rs fs) (at + 1) rest) in
    on-fault (line_fault rs p rest) at (cond (eqb tag 69) E more) h (line_tabled rs p rest (rules_calm tag limits s.sheet.header fs))
    (either (eqb tag 69) E more
    (either (nothing_left rest) (contents s.sheet H) (Refused 7 (at + 1)) tt ((refusal.Cut, refl, cut), omega arith))
    (on-taken (taken_of s H.marks (record_of tag fs)) at (λ t. read_from limits t (holding H s.sheet tag rs fs) (at + 1) rest) (taken_calm s (is_twice s.sheet H.marks (record_of tag fs)) (record_of tag fs)) h
    (λ t. from_tabled limits t (holding H s.sheet tag rs fs) (at + 1) rest (omega arith))))

pub refusal_tabled : (text : List ℕ) → TabledRefusal (read_text limits text)
unfolding read_text
refusal_tabled text = from_tabled limits blank nothing 1 (split 10 text) (omega arith)
