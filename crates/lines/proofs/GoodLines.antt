-- Lines with no fault: each field is good, and what they add to the levels and the tables.
use Rattle.std.proofs.Common.{Some, None, Option, Result}
use Rattle.refusal.specs.declared.Refusal.{Refusal}
use Prim.Native.Nat.{ℕ, zero, suc, ◌<◌, ◌≤◌}
use mathlib.Core.Path.{◌≡◌, refl, sym, ap, ◌∙◌}
use mathlib.Core.List.{List, [], ◌∷◌, ◌++◌, append-nil}
use mathlib.Core.Bool.{Bool, true, false, not, ◌&&◌}
use native.Mathlib.Omega.{arith}
use lib.ListN.{length, get_or, drop, replicate, drop_of_length-le}
use lib.Seq.{drop-cons}
use borrow.Author.Tests.{not-true}
use Rattle.text.specs.declared.field.Rule.{Rule}
use Rattle.text.specs.declared.field.Rule.TheVariants as rule
use Rattle.text.specs.declared.field.Field.{Field}
use Rattle.text.specs.Pieces.{split}
use Rattle.text.specs.Fields.{field_of, fault_in, lows_in, highs_in, tables_in}
use Rattle.digits.specs.Written.{joined}
use Rattle.text.proofs.JoinLaws.{joined_split}
use Rattle.text.proofs.GoodLaws.{adds_table, adds_level, tables_none, levels_none, quantiser_good}
use Rattle.digits.proofs.Both.{both_left, both_right}
use Rattle.contents.specs.declared.Sheet.{Sheet}
use Rattle.contents.specs.Sheets.{lent, Held, held}
use Rattle.lines.specs.Lines.{factor, own_side, channel_rules, or_else, first_fault, line_adds, kind_of, marks_in, holding}
use Rattle.contents.specs.Legal.{LegalQuantisers}

pub or_left : (k m : Option ℕ) → or_else k m ≡ None → k ≡ None
or_left None m e = refl
or_left (Some k) m e = e

pub or_right : (k m : Option ℕ) → or_else k m ≡ None → m ≡ None
or_right None m e = e
or_right (Some k) m e = let z : ◌≡◌ {A = ℕ} 0 1 = cc in let y : ⊥ = omega arith in absurd y

pub fault_at : (rs : List Rule) (fs : List (List ℕ)) (i : ℕ) → first_fault rs fs ≡ None → i < length rs → i < length fs → fault_in (field_of (get_or rs i (rule.Tag 0)) (get_or fs i [])) ≡ None
fault_at [] fs i e h k = let y : ⊥ = omega arith in absurd y
fault_at (r ∷ rs) [] i e h k = let y : ⊥ = omega arith in absurd y
fault_at (r ∷ rs) (f ∷ fs) zero e h k = or_left (fault_in (field_of r f)) (first_fault rs fs) e
fault_at (r ∷ rs) (f ∷ fs) (suc i) e h k = fault_at rs fs i (or_right (fault_in (field_of r f)) (first_fault rs fs) e) (omega arith) (omega arith)

fault_nil : (rs : List Rule) → first_fault rs [] ≡ None
fault_nil [] = refl
fault_nil (r ∷ rs) = refl

pub fault_drop : (i : ℕ) (rs : List Rule) (fs : List (List ℕ)) → first_fault rs fs ≡ None → first_fault (drop i rs) (drop i fs) ≡ None
fault_drop zero rs fs e = e
fault_drop (suc i) [] fs e = refl
fault_drop (suc i) (r ∷ rs) [] e = fault_nil (drop i rs)
fault_drop (suc i) (r ∷ rs) (f ∷ fs) e = fault_drop i rs fs (or_right (fault_in (field_of r f)) (first_fault rs fs) e)

-- Rules that add nothing

abbrev pub none_of : (Rule → Bool) → List Rule → Bool
none_of adds [] = true
none_of adds (r ∷ rs) = not (adds r) && none_of adds rs

module _ {A : Type 0} (add : Result Field Refusal → List A) (adds : Rule → Bool) (None : (r : Rule) (f : List ℕ) → adds r ≡ false → add (field_of r f) ≡ []) where
  adds_nil : (rs : List Rule) → line_adds add rs [] ≡ []
  adds_nil [] = refl
  adds_nil (r ∷ rs) = refl

  adds_skip : (rs qs : List Rule) (fs : List (List ℕ)) → none_of adds rs ≡ true → line_adds add (rs ++ qs) fs ≡ line_adds add qs (drop (length rs) fs)
  adds_skip [] qs fs e = refl
  adds_skip (r ∷ rs) qs [] e = sym (adds_nil qs)
  adds_skip (r ∷ rs) qs (f ∷ fs) e =
      rw (None r f (not-true (adds r) (both_left (not (adds r)) (none_of adds rs) e))) (adds_skip rs qs fs (both_right (not (adds r)) (none_of adds rs) e))

  adds_none : (rs : List Rule) (fs : List (List ℕ)) → none_of adds rs ≡ true → line_adds add rs fs ≡ []
  adds_none rs fs e = sym (ap (λ (x : List Rule). line_adds add x fs) (append-nil rs)) ∙ adds_skip rs [] fs e

pub tables_skip : (rs qs : List Rule) (fs : List (List ℕ)) → none_of adds_table rs ≡ true → line_adds tables_in (rs ++ qs) fs ≡ line_adds tables_in qs (drop (length rs) fs)
tables_skip = adds_skip tables_in adds_table tables_none

pub lows_skip : (rs qs : List Rule) (fs : List (List ℕ)) → none_of adds_level rs ≡ true → line_adds lows_in (rs ++ qs) fs ≡ line_adds lows_in qs (drop (length rs) fs)
lows_skip = adds_skip lows_in adds_level (λ r f e. (levels_none r f e).0)

pub highs_skip : (rs qs : List Rule) (fs : List (List ℕ)) → none_of adds_level rs ≡ true → line_adds highs_in (rs ++ qs) fs ≡ line_adds highs_in qs (drop (length rs) fs)
highs_skip = adds_skip highs_in adds_level (λ r f e. (levels_none r f e).1)

pub tables_without : (rs : List Rule) (fs : List (List ℕ)) → none_of adds_table rs ≡ true → line_adds tables_in rs fs ≡ []
tables_without = adds_none tables_in adds_table tables_none

pub lows_without : (rs : List Rule) (fs : List (List ℕ)) → none_of adds_level rs ≡ true → line_adds lows_in rs fs ≡ []
lows_without = adds_none lows_in adds_level (λ r f e. (levels_none r f e).0)

pub highs_without : (rs : List Rule) (fs : List (List ℕ)) → none_of adds_level rs ≡ true → line_adds highs_in rs fs ≡ []
highs_without = adds_none highs_in adds_level (λ r f e. (levels_none r f e).1)

-- a line that adds nothing, and a channel's line
pub holds_none : (H : Held) (s : Sheet) (g : ℕ) (rs : List Rule) (fs : List (List ℕ)) → kind_of g ≡ [] → marks_in s g fs ≡ [] → none_of adds_level rs ≡ true → none_of adds_table rs ≡ true → holding H s g rs fs ≡ H
holds_none H s g rs fs k m l t =
    rw (lows_without rs fs l, highs_without rs fs l, tables_without rs fs t, k, m, append-nil H.lent.lows, append-nil H.lent.highs, append-nil H.lent.tables, append-nil H.ranged, append-nil H.marks)

abbrev pub with_table : Held → List ℕ → Held
with_table H qs = held (lent H.lent.lows H.lent.highs (H.lent.tables ++ qs)) H.ranged H.marks

pub holds_table : (H : Held) (s : Sheet) (fs : List (List ℕ)) → holding H s 67 channel_rules fs ≡ with_table H (line_adds tables_in (replicate 64 rule.Quantiser) (drop 5 fs))
holds_table H s fs =
    rw (
      lows_without channel_rules fs refl,
      highs_without channel_rules fs refl,
      tables_skip (rule.Tag 67 ∷ own_side ∷ own_side ∷ factor ∷ factor ∷ []) (replicate 64 rule.Quantiser) fs refl,
      append-nil H.lent.lows,
      append-nil H.lent.highs,
      append-nil H.ranged,
      append-nil H.marks,
    )

-- A run of quantisers

pub all_quantisers : (n : ℕ) (fs : List (List ℕ)) → length fs ≡ n → first_fault (replicate n rule.Quantiser) fs ≡ None
    → LegalQuantisers (line_adds tables_in (replicate n rule.Quantiser) fs) × (length (line_adds tables_in (replicate n rule.Quantiser) fs) ≡ n)
all_quantisers zero [] h e = (tt, refl)
all_quantisers zero (f ∷ fs) h e = let y : ⊥ = omega arith in absurd y
all_quantisers (suc n) [] h e = let y : ⊥ = omega arith in absurd y
all_quantisers (suc n) (f ∷ fs) h e =
    let g = quantiser_good f (or_left (fault_in (field_of rule.Quantiser f)) (first_fault (replicate n rule.Quantiser) fs) e) in
    let r = all_quantisers n fs (omega arith) (or_right (fault_in (field_of rule.Quantiser f)) (first_fault (replicate n rule.Quantiser) fs) e) in
    rw g.1 ((g.2, r.0), ap suc r.1)

-- A line by its fields

-- field i, and those after it
pub field_at : (fs : List (List ℕ)) (i : ℕ) (g : List ℕ) (gs : List (List ℕ)) → i < length fs → g ≡ get_or fs i [] → gs ≡ drop (suc i) fs → g ∷ gs ≡ drop i fs
field_at fs i g gs h e q = rw (e, q, drop-cons fs i [] h)

pub no_more : (fs : List (List ℕ)) (i : ℕ) → length fs ≤ i → [] ≡ drop i fs
no_more fs i h = sym (drop_of_length-le fs {i = i} h)

pub row_as : (p : List ℕ) (fs : List (List ℕ)) → fs ≡ split 9 p → joined fs ≡ p
row_as p fs e = ap joined e ∙ joined_split p
