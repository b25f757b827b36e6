-- What a partner sees is a function of what reading leaves in the buffers, which hidden levels don't change; what any reader gets is legal.
use Prim.Native.Nat.{ℕ, suc}
use mathlib.Core.Path.{◌≡◌, refl, sym, ap, ◌∙◌}
use mathlib.Core.Bool.{Bool, true, false, cond}
use mathlib.Core.List.{List, [], ◌∷◌}
use native.Mathlib.Omega.{arith}
use borrow.Author.Tests.{eq-eqb}
use lib.IntN.{ℤ, pos}
use lib.ListN.{length}
use lib.Signed.{le_z}
use Rattle.contents.specs.declared.Limits.{Limits}
use Rattle.contents.specs.declared.Sheet.{Sheet}
use Rattle.contents.specs.declared.Reader.{Reader}
use Rattle.contents.specs.declared.Reader.TheVariants as reader
use Rattle.contents.specs.Sheets.{Lent, Marked, Held, held}
use Rattle.contents.specs.Marks.{hidden, hide, seen_by}
use Rattle.contents.specs.Legal.{LegalLevel, LegalLevels, LegalRanges, LegalSheet}
use Rattle.sheet.specs.Reading.{Outcome, Contents, contents, read_text}
use Rattle.sheet.specs.Reading.Outcome.{Gives, Refused}
use Rattle.sheet.specs.Calls.{fits, fitted, sheet_in, lent_after}
use Rattle.grammar.specs.Partner.{SameToPartner}
use Rattle.grammar.proofs.LegalLaws.{legal}
use Rattle.grammar.proofs.CanonicalLaws.{accepts}
use Rattle.grammar.proofs.PartnerLaws.{partner_blind, staff_unmarked}
use Rattle.program.specs.Printed.{limits, says, printed}
use Rattle.program.specs.Partner.{seen_of, seen, DifferHidden, PartnerSees, RefusedAlike, SeenLegal, StaffShown}

-- ---- two texts that differ in hidden levels

fits_itself : (b : Lent) → fits b b ≡ true
fits_itself b = rw (eq-eqb (length b.lows) (length b.lows) refl, eq-eqb (length b.highs) (length b.highs) refl, eq-eqb (length b.tables) (length b.tables) refl) refl

-- read as a partner into buffers that fit the first, both leave what a partner sees
module _ (limits : Limits) (text text' : List ℕ) (one other : Contents) (e : read_text limits text ≡ Gives one) (f : read_text limits text' ≡ Gives other)
    (s : SameToPartner one other) where
  abbrev into : Lent
  into = one.held.lent

  first : fitted into (read_text limits text) ≡ Gives one
  first = ap (fitted into) e ∙ ap (λ (b : Bool). cond b (Gives one) (Refused 8 0)) (fits_itself into)

  second : fitted into (read_text limits text') ≡ cond (fits other.held.lent into) (Gives other) (Refused 8 0)
  second = ap (fitted into) f

  lent_alike : seen_by reader.Partner one.held ≡ seen_by reader.Partner other.held
  lent_alike =
      let b = (partner_blind limits text text' one other).seen e f s into in
      by (fits other.held.lent into)
      (ap sheet_in (sym first) ∙ b.0 ∙ ap sheet_in second)
      (ap (λ (o : Outcome Contents). lent_after reader.Partner o into) (sym first) ∙ b.1 ∙ ap (λ (o : Outcome Contents). lent_after reader.Partner o into) second)
    where
      by : (t : Bool) → Gives one.sheet ≡ sheet_in (cond t (Gives other) (Refused 8 0))
          → seen_by reader.Partner one.held ≡ lent_after reader.Partner (cond t (Gives other) (Refused 8 0)) into
          → seen_by reader.Partner one.held ≡ seen_by reader.Partner other.held
      by true p q = q
      by false p q = absurd (let z : ◌≡◌ {A = ℕ} 0 1 = cc in omega arith)

  seen_same : seen reader.Partner (read_text limits text) ≡ seen reader.Partner (read_text limits text')
  seen_same = ap (seen reader.Partner) e ∙ (λ i. Gives (seen_of (s.sheet i) (lent_alike i))) ∙ sym (ap (seen reader.Partner) f)

pub partner_sees : (limits : Limits) (text text' : List ℕ) (one other : Contents) → DifferHidden limits text text' one other → PartnerSees limits text text' one other
partner_sees limits text text' one other d =
    let e = (accepts limits text one.sheet one.held).all d.legal in
    let f = (accepts limits text' other.sheet other.held).all d.legal' in
    record { accepted = e; accepted' = f; same = seen_same limits text text' one other e f d.alike }

-- ---- refusals

pub refused_alike : (limits : Limits) (text : List ℕ) → RefusedAlike limits text
refused_alike limits text = record { alike = λ who k line. by who k line (read_text limits text) }
  where
    by : (who : Reader) (k line : ℕ) (T : Outcome Contents) → seen who T ≡ Refused k line → T ≡ Refused k line
    by who k line (Gives c) p = absurd (let z : ◌≡◌ {A = ℕ} 0 1 = cc in omega arith)
    by who k line (Refused k' line') p = let number : k' ≡ k = cc in let same : line' ≡ line = cc in (λ i. Refused (number i) (same i))

-- ---- what a reader gets is legal

hide_long : (ms : List Marked) (i : ℕ) (zs : List ℤ) → length (hide ms i zs) ≡ length zs
hide_long ms i [] = refl
hide_long ms i (z ∷ zs) = ap suc (hide_long ms (suc i) zs)

hide_level : (b : Bool) (z : ℤ) → LegalLevel z → LegalLevel (cond b (pos 0) z)
hide_level true z h = omega arith
hide_level false z h = h

hide_levels : (ms : List Marked) (i : ℕ) (zs : List ℤ) → LegalLevels zs → LegalLevels (hide ms i zs)
hide_levels ms i [] h = tt
hide_levels ms i (z ∷ zs) h = (hide_level (hidden ms i) z h.0, hide_levels ms (suc i) zs h.1)

hide_range : (b : Bool) (l h : ℤ) → le_z l h ≡ true → le_z (cond b (pos 0) l) (cond b (pos 0) h) ≡ true
hide_range true l h e = refl
hide_range false l h e = e

hide_ranges : (ms : List Marked) (i : ℕ) (ls hs : List ℤ) → LegalRanges ls hs → LegalRanges (hide ms i ls) (hide ms i hs)
hide_ranges ms i [] hs r = tt
hide_ranges ms i (l ∷ ls) [] r = tt
hide_ranges ms i (l ∷ ls) (h ∷ hs) r = (hide_range (hidden ms i) l h r.0, hide_ranges ms (suc i) ls hs r.1)

pub legal_seen : (limits : Limits) (s : Sheet) (h : Held) → LegalSheet limits s h.lent → (who : Reader) → LegalSheet limits s (seen_by who h)
legal_seen given s h l reader.Staff = l
legal_seen given s h l reader.Partner =
    record {
      limits_legal = l.limits_legal;
      header = l.header;
      hold = l.hold;
      three_channels = l.three_channels;
      channel = l.channel;
      spare = l.spare;
      lows_count = hide_long h.marks 0 h.lent.lows ∙ l.lows_count;
      highs_count = hide_long h.marks 0 h.lent.highs ∙ l.highs_count;
      tables_count = l.tables_count;
      lows = hide_levels h.marks 0 h.lent.lows l.lows;
      highs = hide_levels h.marks 0 h.lent.highs l.highs;
      ranges = hide_ranges h.marks 0 h.lent.lows h.lent.highs l.ranges;
      tables = l.tables;
    }

pub seen_legal : (limits : Limits) (text : List ℕ) (c : Contents) → SeenLegal limits text c
seen_legal limits text c = record { legal = λ e. legal_seen limits c.sheet c.held (legal limits text c.sheet c.held e) }

-- ---- the staff

unmarked : (s : Sheet) (b : Lent) (rs : List Bool) (ms : List Marked) → says (contents s (held b rs ms)) ≡ says (contents s (held b rs []))
unfolding says
unmarked s b rs ms = refl

pub staff_shown : (text : List ℕ) (s : Sheet) (b : Lent) (rs : List Bool) (ms : List Marked) → StaffShown text s b rs ms
unfolding printed
staff_shown text s b rs ms =
    record { same = λ e. ap says e ∙ unmarked s b rs ms ∙ sym (ap says ((staff_unmarked limits text s b rs ms).same e)) }
