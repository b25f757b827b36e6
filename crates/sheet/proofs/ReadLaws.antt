-- Reading, from what two walks give. T is the text's meaning.
use Prim.Native.Nat.{ℕ, suc, ◌+◌, ◌/◌}
use mathlib.Core.Path.{◌≡◌, refl, sym, ap, ◌∙◌}
use mathlib.Core.List.{List, [], ◌∷◌, append-nil}
use mathlib.Core.Bool.{Bool, cond}
use native.Mathlib.Omega.{arith}
use lib.ListN.{length, drop_of_length-le}
use lib.Seq.{sets, sets-eq}
use lib.IntN.{ℤ, pos}
use borrow.Author.Tests.{eq-eqb}
use Rattle.std.specs.Prelude.{Err}
use Rattle.contents.specs.declared.Limits.{Limits}
use Rattle.refusal.specs.Refusal.{number_of}
use Rattle.sheet.specs.declared.walk.Refused as walk
use Rattle.sheet.specs.declared.walk.Walked.{Walked}
use Rattle.contents.specs.declared.Reader.{Reader}
use Rattle.contents.specs.declared.Reader.TheVariants as reader
use Rattle.contents.specs.Sheets.{Lent, lent, Marked, Held}
use Rattle.contents.specs.Marks.{hidden, hide, seen_by}
use Rattle.sheet.specs.Reading.{Outcome, Contents}
use Rattle.sheet.specs.Reading.Outcome.{Gives, Refused}
use Rattle.sheet.specs.Calls.{fitted, reading, sheet_in, lent_after, Reads}
use Rattle.hiding.specs.Shown.{shown_by, shown_to}
use Rattle.sheet.specs.Walk.{Bits, walked_of, Stores, Maps}

all_set : {A : Type 0} (l vs : List A) → length vs ≡ length l → sets l 0 vs ≡ vs
all_set l vs e = sets-eq vs l 0 (omega arith) ∙ rw (drop_of_length-le l {i = 0 + length vs} (omega arith)) (append-nil vs)

-- what the reader gets by the map is what it gets by the marks
module _ (ms : List Marked) (bits : List Bool) (m : Bits ms bits) where
  shown_is : (i : ℕ) (zs : List ℤ) → shown_by bits i zs ≡ hide ms i zs
  shown_is i [] = refl
  shown_is i (z ∷ zs) = rw (m.bit (i / 64)) (ap (λ (x : List ℤ). cond (hidden ms i) (pos 0) z ∷ x) (shown_is (suc i) zs))

seen-is : (who : Reader) (h : Held) (bits : List Bool) → Bits h.marks bits
    → lent (shown_to who bits h.lent.lows) (shown_to who bits h.lent.highs) h.lent.tables ≡ seen_by who h
seen-is reader.Staff h bits m = refl
seen-is reader.Partner h bits m = λ i. lent (shown_is h.marks bits m 0 h.lent.lows i) (shown_is h.marks bits m 0 h.lent.highs i) h.lent.tables

-- A text with the counts w, which the buffers have
record Counts (c : Contents) (w : Walked) : Type 0 where
  sheet : c.sheet ≡ w.sheet
  lows : length c.held.lent.lows ≡ w.lows
  highs : length c.held.lent.highs ≡ w.highs
  tables : length c.held.lent.tables ≡ w.tables

counts : (c : Contents) (w : Walked) → Gives w ≡ walked_of (Gives c) → Counts c w
counts c w q =
    let e : w ≡ record { sheet = c.sheet; lows = length c.held.lent.lows; highs = length c.held.lent.highs; tables = length c.held.lent.tables } = cc in
    rw e (record { sheet = refl; lows = refl; highs = refl; tables = refl })

module _ (who : Reader) (into : Lent) (w : Walked) (g : w.lows ≡ length into.lows) (h : w.highs ≡ length into.highs) (x : w.tables ≡ length into.tables) where
  pub read_sheet : (T : Outcome Contents) (after : Lent) (bits : List Bool) (v : Walked) → Gives w ≡ walked_of T → Gives v ≡ walked_of T → Stores T into after → Maps T bits
      → (Gives v.sheet ≡ sheet_in (fitted into T)) × (lent (shown_to who bits after.lows) (shown_to who bits after.highs) after.tables ≡ lent_after who (fitted into T) into)
  read_sheet (Refused a b) after bits v q r z o = cc
  read_sheet (Gives c) after bits v q r z o =
      let b = c.held.lent in
      let f = counts c w q in
      let lows : length b.lows ≡ length into.lows = f.lows ∙ g in
      let highs : length b.highs ≡ length into.highs = f.highs ∙ h in
      let tables : length b.tables ≡ length into.tables = f.tables ∙ x in
      let l : after.lows ≡ b.lows = z.0 ∙ all_set into.lows b.lows lows in
      let k : after.highs ≡ b.highs = z.1 ∙ all_set into.highs b.highs highs in
      let y : after.tables ≡ b.tables = z.2 ∙ all_set into.tables b.tables tables in
      rw (eq-eqb (length b.lows) (length into.lows) lows, eq-eqb (length b.highs) (length into.highs) highs, eq-eqb (length b.tables) (length into.tables) tables)
      (ap Gives (sym (counts c v r).sheet), (λ i. lent (shown_to who bits (l i)) (shown_to who bits (k i)) (y i)) ∙ seen-is who c.held bits o)

-- a refusal leaves the lent buffers
kept_by : (who : Reader) (T : Outcome Contents) (into after : Lent) (k line : ℕ) → Refused k line ≡ sheet_in T → after ≡ lent_after who T into → after ≡ into
kept_by who (Gives c) into after k line e h = absurd cc
kept_by who (Refused j b) into after k line e h = h

pub refused_kept : (limits : Limits) (text : List ℕ) (who : Reader) (into after : Lent) (f : walk.Refused) → Reads limits who text into after (Err f) → after ≡ into
refused_kept limits text who into after f r = kept_by who (reading limits text into) into after (number_of f.refusal) f.line r.answer r.lent
