-- A partner can't tell two texts apart that differ only in what is hidden; lines N change nothing of what the staff reads.
use Prim.Native.Nat.{ℕ, suc}
use mathlib.Core.Path.{◌≡◌, refl, ap, ◌∙◌}
use mathlib.Core.Bool.{Bool, true, false, cond}
use mathlib.Core.List.{List, [], ◌∷◌}
use lib.IntN.{ℤ, pos}
use lib.ListN.{length}
use Rattle.contents.specs.declared.Limits.{Limits}
use Rattle.contents.specs.declared.Sheet.{Sheet}
use Rattle.contents.specs.declared.Reader.TheVariants as reader
use Rattle.contents.specs.Sheets.{Lent, lent, Marked, held}
use Rattle.contents.specs.Marks.{hidden, hide, seen_by}
use Rattle.sheet.specs.Reading.{Contents}
use Rattle.sheet.specs.Reading.Outcome.{Gives, Refused}
use Rattle.sheet.specs.Calls.{fits, fitted, sheet_in, lent_after}
use Rattle.grammar.specs.Partner.{SameShown, SameToPartner, PartnerBlind, StaffUnmarked}
use Rattle.grammar.proofs.LegalLaws.{legal, legal_blocks}
use Rattle.grammar.proofs.RoundTrip.{round_trip}

same_shown : (ms : List Marked) (i : ℕ) (xs ys : List ℤ) → SameShown ms i xs ys → hide ms i xs ≡ hide ms i ys
same_shown ms i [] [] h = refl
same_shown ms i [] (y ∷ ys) h = absurd h
same_shown ms i (x ∷ xs) [] h = absurd h
same_shown ms i (x ∷ xs) (y ∷ ys) h = λ k. two (hidden ms i) refl k ∷ same_shown ms (suc i) xs ys h.1 k
  where
    two : (b : Bool) → hidden ms i ≡ b → cond (hidden ms i) (pos 0) x ≡ cond (hidden ms i) (pos 0) y
    two true e = rw e
    two false e = rw e (h.0 e)

same_many : (ms : List Marked) (i : ℕ) (xs ys : List ℤ) → SameShown ms i xs ys → length xs ≡ length ys
same_many ms i [] [] h = refl
same_many ms i [] (y ∷ ys) h = absurd h
same_many ms i (x ∷ xs) [] h = absurd h
same_many ms i (x ∷ xs) (y ∷ ys) h = ap suc (same_many ms (suc i) xs ys h.1)

module _ (one other : Contents) (s : SameToPartner one other) where
  seen_alike : seen_by reader.Partner one.held ≡ seen_by reader.Partner other.held
  seen_alike =
      let m = s.marks in
      let l = same_shown one.held.marks 0 one.held.lent.lows other.held.lent.lows s.lows ∙ ap (λ (ms : List Marked). hide ms 0 other.held.lent.lows) m in
      let h = same_shown one.held.marks 0 one.held.lent.highs other.held.lent.highs s.highs ∙ ap (λ (ms : List Marked). hide ms 0 other.held.lent.highs) m in
      λ i. lent (l i) (h i) (s.tables i)

  fits_alike : (into : Lent) → fits one.held.lent into ≡ fits other.held.lent into
  fits_alike into =
      rw (
        same_many one.held.marks 0 one.held.lent.lows other.held.lent.lows s.lows,
        same_many one.held.marks 0 one.held.lent.highs other.held.lent.highs s.highs,
        s.tables,
      )

  alike : (into : Lent) → (sheet_in (fitted into (Gives one)) ≡ sheet_in (fitted into (Gives other)))
      × (lent_after reader.Partner (fitted into (Gives one)) into ≡ lent_after reader.Partner (fitted into (Gives other)) into)
  alike into = rw (fits_alike into) (two (fits other.held.lent into))
    where
      two : (x : Bool) → (sheet_in (cond x (Gives one) (Refused 8 0)) ≡ sheet_in (cond x (Gives other) (Refused 8 0)))
          × (lent_after reader.Partner (cond x (Gives one) (Refused 8 0)) into ≡ lent_after reader.Partner (cond x (Gives other) (Refused 8 0)) into)
      two true = (ap Gives s.sheet, seen_alike)
      two false = (refl, refl)

pub partner_blind : (limits : Limits) (text text' : List ℕ) (one other : Contents) → PartnerBlind limits text text' one other
partner_blind limits text text' one other = record { seen = λ e f s into. rw (e, f) (alike one other s into) }

pub staff_unmarked : (limits : Limits) (text : List ℕ) (s : Sheet) (b : Lent) (rs : List Bool) (ms : List Marked) → StaffUnmarked limits text s b rs ms
staff_unmarked limits text s b rs ms =
    record {
      same = λ e.
          let k = legal_blocks limits text s (held b rs ms) e in
          round_trip limits s (held b rs []) (legal limits text s (held b rs ms) e) (record { kinds_count = k.kinds_count; kinds = k.kinds }) tt;
      seen = refl;
    }
