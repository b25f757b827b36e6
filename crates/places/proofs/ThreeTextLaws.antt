-- Three texts: where the first two can be stitched, and the last two, both orders give one answer.
use Prim.Native.Nat.{ℕ, ◌+◌}
use mathlib.Core.Path.{◌≡◌, refl, sym, ap, ◌∙◌, subst}
use mathlib.Core.List.{List}
use mathlib.Core.Bool.{Bool, true, false, cond}
use native.Mathlib.Nat.{add_assoc}
use lib.Dec.{leb}
use borrow.Author.Tests.{leb-true}
use Rattle.sheet.specs.Reading.{Outcome, Contents, read_text}
use Rattle.sheet.specs.Reading.Outcome.{Gives, Refused}
use Rattle.grammar.proofs.LegalLaws.{legal, legal_blocks, legal_marks}
use Rattle.seam.specs.Seam.{seam}
use Rattle.stitch.specs.Stitched.{stitched_sheet, stitched_held}
use Rattle.stitch.specs.Calls.{whole, output_of, joining, stitching}
use Rattle.stitch.specs.Calls.Stitch.{Text, Fault}
use Rattle.stitch.proofs.TextLaws.{Pair}
use Rattle.stitch.proofs.LegalLaws.{pair}
use Rattle.stitch.proofs.CallLaws.{fits, output_reads}
use Rattle.places.proofs.SeamLaws.{seam_left, seam_right}
use Rattle.places.proofs.ThreeLaws.{either_first}
use Rattle.places.specs.Output.{EitherOrder}

-- two texts that are stitched
record Both (left right text : List ℕ) : Type 0 where
  one : Contents
  other : Contents
  left_reads : read_text whole left ≡ Gives one
  right_reads : read_text whole right ≡ Gives other
  fit : seam one other ≡ true
  narrow : leb (one.sheet.header.width + other.sheet.header.width) 512 ≡ true
  text_is : output_of one other ≡ text

both : (left right text : List ℕ) → stitching left right ≡ Text text → Both left right text
unfolding stitching
both left right text e = by (read_text whole left) (read_text whole right) refl refl e
  where
    tests : (c d : Contents) → read_text whole left ≡ Gives c → read_text whole right ≡ Gives d → (x : Bool) → seam c d ≡ x → (y : Bool) → leb (c.sheet.header.width + d.sheet.header.width) 512 ≡ y
        → cond x (cond y (Text (output_of c d)) (Fault 2 0 0)) (Fault 16 0 0) ≡ Text text → Both left right text
    tests c d p q false f y g e = absurd cc
    tests c d p q true f false g e = absurd cc
    tests c d p q true f true g e = record { one = c; other = d; left_reads = p; right_reads = q; fit = f; narrow = g; text_is = cc }

    by : (T U : Outcome Contents) → read_text whole left ≡ T → read_text whole right ≡ U → joining T U ≡ Text text → Both left right text
    by (Refused a b) U p q e = absurd cc
    by (Gives c) (Refused a b) p q e = absurd cc
    by (Gives c) (Gives d) p q e = tests c d p q (seam c d) refl (leb (c.sheet.header.width + d.sheet.header.width) 512) refl e

abbrev beside : Contents → Contents → Contents
beside c d = record { sheet = stitched_sheet c.sheet d.sheet; held = stitched_held c.sheet d.sheet c.held d.held }

module _ (left right text : List ℕ) (b : Both left right text) where
  reads : read_text whole text ≡ Gives (beside b.one b.other)
  reads =
      ap (read_text whole) (sym b.text_is)
      ∙ output_reads left right b.one b.other b.left_reads b.right_reads b.fit (leb-true (b.one.sheet.header.width + b.other.sheet.header.width) 512 b.narrow)

  paired : Pair b.one.sheet b.other.sheet b.one.held b.other.held
  paired =
      let c = b.one in
      let d = b.other in
      pair c.sheet d.sheet c.held d.held (legal whole left c.sheet c.held b.left_reads) (legal_blocks whole left c.sheet c.held b.left_reads) (legal whole right d.sheet d.held b.right_reads)
      (legal_blocks whole right d.sheet d.held b.right_reads)
      (fits left right c d b.left_reads b.right_reads b.fit (leb-true (c.sheet.header.width + d.sheet.header.width) 512 b.narrow))
      (legal_marks whole right d.sheet d.held b.right_reads)

-- one text has one contents
one_reading : (text : List ℕ) (c d : Contents) → read_text whole text ≡ Gives c → read_text whole text ≡ Gives d → c ≡ d
one_reading text c d p q = cc

module _ (a b c ab bc : List ℕ) (x : Both a b ab) (y : Both b c bc) where
  -- the middle text's contents
  middle : y.one ≡ x.other
  middle = one_reading b y.one x.other y.left_reads x.right_reads

  fit_last : seam x.other y.other ≡ true
  fit_last = ap (λ (z : Contents). seam z y.other) (sym middle) ∙ y.fit

  pair_last : Pair x.other.sheet y.other.sheet x.other.held y.other.held
  pair_last = subst (λ (z : Contents). Pair z.sheet y.other.sheet z.held y.other.held) middle (paired b c bc y)

  reads_last : read_text whole bc ≡ Gives (beside x.other y.other)
  reads_last = reads b c bc y ∙ ap (λ (z : Contents). Gives (beside z y.other)) middle

  same_output : output_of (beside x.one x.other) y.other ≡ output_of x.one (beside x.other y.other)
  unfolding output_of
  same_output = either_first x.one.sheet x.other.sheet y.other.sheet x.one.held x.other.held y.other.held (paired a b ab x) pair_last

  one_answer : stitching ab c ≡ stitching a bc
  unfolding stitching
  one_answer =
      let A = x.one in
      let B = x.other in
      let C = y.other in
      let h = (legal whole a A.sheet A.held x.left_reads).header in
      let k = (legal whole b B.sheet B.held x.right_reads).header in
      let l = seam_left A B C (paired a b ab x).both pair_last.both h k x.fit fit_last in
      let r = seam_right A B C (paired a b ab x).both pair_last.both h k x.fit fit_last in
      let w = add_assoc A.sheet.header.width B.sheet.header.width C.sheet.header.width in
      (λ i. joining (reads a b ab x i) (y.right_reads i))
      ∙ (λ i. cond (l i) (cond (leb (w i) 512) (Text (same_output i)) (Fault 2 0 0)) (Fault 16 0 0))
      ∙ sym ((λ i. joining (x.left_reads i) (reads_last i)) ∙ (λ i. cond (r i) (cond (leb (A.sheet.header.width + (B.sheet.header.width + C.sheet.header.width)) 512) (Text (output_of A (beside B C))) (Fault 2 0 0)) (Fault 16 0 0)))

pub either_order : (a b c ab bc : List ℕ) → EitherOrder a b c ab bc
either_order a b c ab bc = record { same = λ e f. one_answer a b c ab bc (both a b ab e) (both b c bc f) }
