-- The calls, from what judging gives.
use Prim.Native.Nat.{ℕ, ◌+◌, ◌^◌, ◌≤◌, ◌<◌}
use mathlib.Core.Path.{◌≡◌, refl, sym, ap, ◌∙◌}
use mathlib.Core.List.{List, [], ◌∷◌, ◌++◌, append-nil}
use mathlib.Core.Bool.{Bool, true, false, cond, ◌&&◌}
use mathlib.Core.Logic.{◌⊎◌, ⊎_elim}
use native.Mathlib.Omega.{arith}
use lib.Dec.{eqb, leb}
use lib.ListN.{length, take, drop, replicate, drop_of_length-le}
use lib.Seq.{sets, sets-eq}
use borrow.Author.Tests.{eq-eqb, ne_eqb, leb-true, le-leb}
use Rattle.digits.specs.Written.{decimal}
use Rattle.digits.proofs.Both.{both_left}
use Rattle.std.specs.Prelude.{Result, Ok, Err}
use Rattle.contents.specs.declared.Sheet.{Sheet}
use Rattle.contents.specs.Sheets.{channels_of}
use Rattle.contents.specs.Legal.{LegalSheet, LegalBlocks, LegalMarks}
use Rattle.refusal.specs.Refusal.{number_of}
use Rattle.sheet.specs.declared.Outlined.{Outlined}
use Rattle.sheet.specs.declared.walk.Refused as walk
use Rattle.sheet.specs.Calls.{outline_in, outline_of}
use Rattle.sheet.specs.Reading.{Outcome, Contents, contents, read_text}
use Rattle.sheet.specs.Reading.Outcome.{Gives, Refused}
use Rattle.grammar.specs.Longest.{longest}
use Rattle.grammar.specs.Accepts.{TextOf}
use Rattle.grammar.proofs.CanonicalLaws.{canonical, accepts}
use Rattle.grammar.proofs.LegalLaws.{legal, legal_blocks, legal_marks}
use Rattle.grammar.proofs.RoundTrip.{round_trip}
use Rattle.grammar.proofs.PrefixLaws.{at-most}
use Rattle.stitch.specs.declared.Fit.{Fit}
use Rattle.stitch.specs.declared.Refused as faults
use Rattle.stitch.specs.Numbers.{Numbers, numbers}
use Rattle.seam.specs.Seam.{same_header, same_letters, same_holds, same_channels, same_sheet, same_numbers, seam}
use Rattle.seam.specs.Used.{used_of, holds_used, same_used}
use Rattle.stitch.specs.Stitched.{stitched_sheet, stitched_held}
use Rattle.stitch.specs.Bytes.{stitch_text, in_use_text}
use Rattle.stitch.specs.Calls.{whole, Stitch, output_of, joining, stitching, measuring, sized, answering, out_after, Stitches, FitTogether}
use Rattle.stitch.specs.Calls.Stitch.{Text, Fault}
use Rattle.stitch.specs.Judging.{outlining, neither, judging, fit_of}
use Rattle.stitch.proofs.TextLaws.{in_use, in_use_copied, as_copied}
use Rattle.stitch.proofs.LegalLaws.{Fits, header_fits, sheets_fit, used_is, pair, stitched_legal, stitched_blocks, stitched-marks}

-- A text's outline
pub outlined : (which : ℕ) (T : Outcome Contents) (o : Outlined) → Gives o ≡ outline_of T → Ok o ≡ outlining which T
outlined which (Gives c) o e = let g : o ≡ outline_in c = cc in ap Ok g
outlined which (Refused k line) o e = absurd cc

unread_by : (which k line : ℕ) (T : Outcome Contents) → Refused k line ≡ outline_of T → Err (record { number = k; which = which; line = line }) ≡ outlining which T
unread_by which k line (Gives c) e = absurd cc
unread_by which k line (Refused j b) e = cc

pub unread : (which : ℕ) (T : Outcome Contents) (r : walk.Refused) (n : Numbers) → n ≡ record { number = number_of r.refusal; which = which; line = r.line }
    → Refused (number_of r.refusal) r.line ≡ outline_of T → Err n ≡ outlining which T
unread which T r n e o = ap Err e ∙ unread_by which (number_of r.refusal) r.line T o

-- Whether they fit

-- of sheets with one channel or three the code looks at what `same_sheet` asks for

holds_are : (n : ℕ) (s t : Sheet) → (n ≡ 1) ⊎ (n ≡ 3) → holds_used n s t ≡ same_holds n s t
holds_are n s t x = ⊎_elim (λ e. rw e refl) (λ e. rw e refl) x

used_same : (s t : Sheet) → (s.header.channels ≡ 1) ⊎ (s.header.channels ≡ 3)
    → same_used s t ≡ same_sheet s t
used_same s t x = two (same_header s.header t.header) refl
  where
    w : ℕ
    w = s.header.width

    v : ℕ
    v = t.header.width

    n : ℕ
    n = s.header.channels

    two : (b : Bool) → same_header s.header t.header ≡ b
        → (b && (same_letters s.settings t.settings
        && (holds_used n s t && same_channels w v (used_of n s) (used_of n t))))
        ≡ (b && (same_letters s.settings t.settings
        && (same_holds n s t && same_channels w v (channels_of s) (channels_of t))))
    two false e = refl
    two true e =
        let m = header_fits s.header t.header e in
        let a = holds_are n s t x in
        let b = used_is n s x in
        let c = used_is n t x ∙ ap (λ (k : ℕ). take k t.channels) m in
        λ i. same_letters s.settings t.settings && (a i && same_channels w v (b i) (c i))

-- equal ends need no look
pub itself : (xs : List ℕ) → same_numbers xs xs ≡ true
itself [] = refl
itself (x ∷ xs) = rw (eq-eqb x x refl) (itself xs)

tables_front : (xs ys zs : List ℕ) → length xs ≡ length ys → same_numbers (xs ++ zs) (ys ++ zs) ≡ same_numbers xs ys
tables_front [] [] zs e = itself zs
tables_front [] (y ∷ ys) zs e = absurd (omega arith)
tables_front (x ∷ xs) [] zs e = absurd (omega arith)
tables_front (x ∷ xs) (y ∷ ys) zs e = ap (λ (b : Bool). eqb x y && b) (tables_front xs ys zs (omega arith))

tables_are : (z xs ys : List ℕ) → length xs ≡ length ys → length xs ≤ length z → same_numbers (sets z 0 xs) (sets z 0 ys) ≡ same_numbers xs ys
tables_are z xs ys e h =
    (λ i. same_numbers (sets-eq xs z 0 (omega arith) i) (sets-eq ys z 0 (omega arith) i))
    ∙ ap (λ (n : ℕ). same_numbers (xs ++ drop (0 + length xs) z) (ys ++ drop (0 + n) z)) (sym e)
    ∙ tables_front xs ys (drop (0 + length xs) z) e

-- no legal text is nearly as long as a length may be
few : longest 512 ≤ 100000000
unfolding longest decimal
few = leb-true (longest 512) 100000000 refl

-- Two legal texts with these contents
module _ (left right : List ℕ) (c d : Contents) (p : read_text whole left ≡ Gives c) (q : read_text whole right ≡ Gives d) where
  legal_left : LegalSheet whole c.sheet c.held.lent
  legal_left = legal whole left c.sheet c.held p

  legal_right : LegalSheet whole d.sheet d.held.lent
  legal_right = legal whole right d.sheet d.held q

  used_seam : same_used c.sheet d.sheet ≡ same_sheet c.sheet d.sheet
  used_seam = used_same c.sheet d.sheet legal_left.header.channels

  seam_tables : (z : List ℕ) → length z ≡ 192 → same_sheet c.sheet d.sheet ≡ true
      → same_numbers (sets z 0 c.held.lent.tables) (sets z 0 d.held.lent.tables) ≡ same_numbers c.held.lent.tables d.held.lent.tables
  seam_tables z n e =
      let f = sheets_fit c.sheet d.sheet e in
      let a = legal_left.tables_count in
      let b = legal_right.tables_count in
      let k : c.sheet.header.channels ≤ 3 = ⊎_elim (λ o. omega arith) (λ o. omega arith) legal_left.header.channels in
      tables_are z c.held.lent.tables d.held.lent.tables (omega (arith, a, b, f.channels)) (omega (arith, a))

  -- the text of both
  module _ (e : seam c d ≡ true) (w : c.sheet.header.width + d.sheet.header.width ≤ 512) where
    pub fits : Fits c.sheet d.sheet
    unfolding seam
    fits = sheets_fit c.sheet d.sheet (both_left (same_sheet c.sheet d.sheet) (same_numbers c.held.lent.tables d.held.lent.tables) e)

    blocks_left : LegalBlocks c.held
    blocks_left = legal_blocks whole left c.sheet c.held p

    blocks_right : LegalBlocks d.held
    blocks_right = legal_blocks whole right d.sheet d.held q

    marks_left : LegalMarks c.sheet [] c.held.marks
    marks_left = legal_marks whole left c.sheet c.held p

    marks_right : LegalMarks d.sheet [] d.held.marks
    marks_right = legal_marks whole right d.sheet d.held q

    -- "Reading the output gives exactly the two sheets' blocks at their places"
    pub output_reads : read_text whole (output_of c d) ≡ contents (stitched_sheet c.sheet d.sheet) (stitched_held c.sheet d.sheet c.held d.held)
    unfolding output_of
    output_reads =
        round_trip whole (stitched_sheet c.sheet d.sheet) (stitched_held c.sheet d.sheet c.held d.held)
        (stitched_legal c.sheet d.sheet c.held d.held legal_left blocks_left legal_right blocks_right fits w)
        (stitched_blocks c.sheet d.sheet c.held d.held legal_left blocks_left legal_right blocks_right fits)
        (stitched-marks c.sheet d.sheet c.held d.held legal_left blocks_left legal_right blocks_right fits marks_left marks_right)

    pub text_is : stitch_text c.sheet d.sheet left right ≡ output_of c d
    unfolding output_of
    text_is =
        (λ i. stitch_text c.sheet d.sheet (canonical whole left c.sheet c.held p i) (canonical whole right d.sheet d.held q i))
        ∙ as_copied c.sheet d.sheet c.held d.held (pair c.sheet d.sheet c.held d.held legal_left blocks_left legal_right blocks_right fits marks_right)

    pub in_use_is : in_use_text c.sheet d.sheet left right ≡ output_of c d
    unfolding output_of
    in_use_is =
        (λ i. in_use_text c.sheet d.sheet (canonical whole left c.sheet c.held p i) (canonical whole right d.sheet d.held q i))
        ∙ in_use_copied c.sheet d.sheet c.held d.held
        (in_use c.sheet d.sheet c.held d.held (pair c.sheet d.sheet c.held d.held legal_left blocks_left legal_right blocks_right fits marks_right))

    text_fits : length (output_of c d) < 2 ^ 64
    text_fits = omega (arith, at-most whole (output_of c d) _ output_reads, few)

pub whole_text : (left right : List ℕ) (c d : Contents) → read_text whole left ≡ Gives c → read_text whole right ≡ Gives d → seam c d ≡ true → leb (c.sheet.header.width + d.sheet.header.width) 512 ≡ true
    → stitching left right ≡ Text (output_of c d)
unfolding stitching
whole_text left right c d p q f g = (λ i. joining (p i) (q i)) ∙ (λ i. cond (f i) (cond (g i) (Text (output_of c d)) (Fault 2 0 0)) (Fault 16 0 0))

all_set : (l vs : List ℕ) → length vs ≡ length l → sets l 0 vs ≡ vs
all_set l vs e = sets-eq vs l 0 (omega arith) ∙ rw (drop_of_length-le l {i = 0 + length vs} (omega arith)) (append-nil vs)

-- Two sheets that fit: the text that is copied is what stitching gives, and it has a length
pub record Fitted (left right : List ℕ) (s t : Sheet) : Type 0 where
  pub text : stitching left right ≡ Text (stitch_text s t left right)
  pub short : length (stitch_text s t left right) < 2 ^ 64

fit_by : (left right : List ℕ) (T U : Outcome Contents) → read_text whole left ≡ T → read_text whole right ≡ U → (f : Fit) → Ok f ≡ judging T U → Fitted left right f.left f.right
fit_by left right (Refused k line) U p q f e = absurd cc
fit_by left right (Gives c) (Refused k line) p q f e = absurd cc
fit_by left right (Gives c) (Gives d) p q f e = by (seam c d) refl (leb (c.sheet.header.width + d.sheet.header.width) 512) refl e
  where
    by : (a : Bool) → seam c d ≡ a → (b : Bool) → leb (c.sheet.header.width + d.sheet.header.width) 512 ≡ b
        → Ok f ≡ cond a (cond b (Ok (record { left = c.sheet; right = d.sheet })) (Err (neither 2))) (Err (neither 16)) → Fitted left right f.left f.right
    by false m b n e = absurd cc
    by true m false n e = absurd cc
    by true m true n e =
        let g : f ≡ record { left = c.sheet; right = d.sheet } = cc in
        let w = leb-true (c.sheet.header.width + d.sheet.header.width) 512 n in
        let x : stitch_text f.left f.right left right ≡ output_of c d = ap (λ (k : Fit). stitch_text k.left k.right left right) g ∙ text_is left right c d p q m w in
        record { text = whole_text left right c d p q m n ∙ ap Text (sym x); short = omega (arith, ap length x, text_fits left right c d p q m w) }

-- of sheets that fit, what is copied of as many channels as the headers say is the same text
fit_same : (left right : List ℕ) (T U : Outcome Contents) → read_text whole left ≡ T → read_text whole right ≡ U → (f : Fit) → Ok f ≡ judging T U
    → in_use_text f.left f.right left right ≡ stitch_text f.left f.right left right
fit_same left right (Refused k line) U p q f e = absurd cc
fit_same left right (Gives c) (Refused k line) p q f e = absurd cc
fit_same left right (Gives c) (Gives d) p q f e = by (seam c d) refl (leb (c.sheet.header.width + d.sheet.header.width) 512) refl e
  where
    by : (a : Bool) → seam c d ≡ a → (b : Bool) → leb (c.sheet.header.width + d.sheet.header.width) 512 ≡ b
        → Ok f ≡ cond a (cond b (Ok (record { left = c.sheet; right = d.sheet })) (Err (neither 2))) (Err (neither 16))
        → in_use_text f.left f.right left right ≡ stitch_text f.left f.right left right
    by false m b n e = absurd cc
    by true m false n e = absurd cc
    by true m true n e =
        let g : f ≡ record { left = c.sheet; right = d.sheet } = cc in
        let w = leb-true (c.sheet.header.width + d.sheet.header.width) 512 n in
        ap (λ (k : Fit). in_use_text k.left k.right left right) g
        ∙ in_use_is left right c d p q m w
        ∙ sym (text_is left right c d p q m w)
        ∙ ap (λ (k : Fit). stitch_text k.left k.right left right) (sym g)

-- Two sheets that fit: the same of as many channels as the headers say
pub record InUseFitted (left right : List ℕ) (s t : Sheet) : Type 0 where
  pub text : stitching left right ≡ Text (in_use_text s t left right)
  pub short : length (in_use_text s t left right) < 2 ^ 64

-- of a refusal
abbrev fault : Numbers → Stitch
fault n = Fault n.number n.which n.line

module _ (left right : List ℕ) where
  pub fit : (f : Fit) → Ok f ≡ judging (read_text whole left) (read_text whole right) → Fitted left right f.left f.right
  fit f e = fit_by left right (read_text whole left) (read_text whole right) refl refl f e

  unfit : (n : Numbers) → Err n ≡ judging (read_text whole left) (read_text whole right) → stitching left right ≡ fault n
  unfolding stitching
  unfit n e = by (read_text whole left) (read_text whole right) e
    where
      by : (T U : Outcome Contents) → Err n ≡ judging T U → joining T U ≡ fault n
      by (Refused a b) U e = let g : ◌≡◌ {A = Numbers} (record { number = a; which = 1; line = b }) n = cc in ap fault g
      by (Gives c) (Refused a b) e = let g : ◌≡◌ {A = Numbers} (record { number = a; which = 2; line = b }) n = cc in ap fault g
      by (Gives c) (Gives d) e = tests (seam c d) (leb (c.sheet.header.width + d.sheet.header.width) 512) e
        where
          tests : (a b : Bool) → ◌≡◌ {A = Result Fit Numbers} (Err n) (cond a (cond b (Ok (record { left = c.sheet; right = d.sheet })) (Err (neither 2))) (Err (neither 16)))
              → cond a (cond b (Text (output_of c d)) (Fault 2 0 0)) (Fault 16 0 0) ≡ fault n
          tests false b e = let g : neither 16 ≡ n = cc in ap fault g
          tests true false e = let g : neither 2 ≡ n = cc in ap fault g
          tests true true e = absurd cc

  -- the calls
  pub measured_refused : (n : Numbers) → Err n ≡ judging (read_text whole left) (read_text whole right) → Err n ≡ measuring (stitching left right)
  measured_refused n e = ap measuring (sym (unfit n e))

  pub measured_fit : (f : Fit) → Ok f ≡ judging (read_text whole left) (read_text whole right) → Ok (length (stitch_text f.left f.right left right)) ≡ measuring (stitching left right)
  measured_fit f e = ap measuring (sym (fit f e).text)

  pub stitch_refused : (out : List ℕ) (r : faults.Refused) → Err (numbers r) ≡ judging (read_text whole left) (read_text whole right) → Stitches left right out out (Err r)
  stitch_refused out r e =
      let q = unfit (numbers r) e in
      record { answer = sym (ap (λ (x : Stitch). answering (sized out x)) q); out = sym (ap (λ (x : Stitch). out_after (sized out x) out) q) }

  module _ (f : Fit) (e : Ok f ≡ judging (read_text whole left) (read_text whole right)) (out : List ℕ) where
    pub stitch_length : (length (stitch_text f.left f.right left right) ≡ length out → ⊥) → (r : faults.Refused) → numbers r ≡ neither 8 → Stitches left right out out (Err r)
    stitch_length h r n =
        let z : eqb (length (stitch_text f.left f.right left right)) (length out) ≡ false = ne_eqb (length (stitch_text f.left f.right left right)) (length out) h in
        let g : sized out (stitching left right) ≡ Fault 8 0 0 = ap (sized out) (fit f e).text ∙ ap (λ (b : Bool). cond b (Text (stitch_text f.left f.right left right)) (Fault 8 0 0)) z in
        record { answer = ap Err n ∙ sym (ap answering g); out = sym (ap (λ (x : Stitch). out_after x out) g) }

    pub stitch_done : length (stitch_text f.left f.right left right) ≡ length out → (last : List ℕ) → last ≡ sets out 0 (stitch_text f.left f.right left right) → Stitches left right out last (Ok tt)
    stitch_done h last l =
        let z = eq-eqb (length (stitch_text f.left f.right left right)) (length out) h in
        let g : sized out (stitching left right) ≡ Text (stitch_text f.left f.right left right) =
        ap (sized out) (fit f e).text ∙ ap (λ (b : Bool). cond b (Text (stitch_text f.left f.right left right)) (Fault 8 0 0)) z in
        let a : last ≡ stitch_text f.left f.right left right = l ∙ all_set out (stitch_text f.left f.right left right) h in
        record { answer = sym (ap answering g); out = a ∙ sym (ap (λ (x : Stitch). out_after x out) g) }

-- The same of as many channels as the headers say
module _ (left right : List ℕ) (f : Fit) (e : Ok f ≡ judging (read_text whole left) (read_text whole right)) where
  pub in_use_same : in_use_text f.left f.right left right ≡ stitch_text f.left f.right left right
  in_use_same = fit_same left right (read_text whole left) (read_text whole right) refl refl f e

  pub in_use_fit : InUseFitted left right f.left f.right
  in_use_fit =
      let x = fit left right f e in
      record { text = x.text ∙ ap Text (sym in_use_same); short = omega (arith, ap length in_use_same, x.short) }

  pub in_use_measured : Ok (length (in_use_text f.left f.right left right)) ≡ measuring (stitching left right)
  in_use_measured = ap measuring (sym in_use_fit.text)

  module _ (out : List ℕ) where
    pub in_use_length : (length (in_use_text f.left f.right left right) ≡ length out → ⊥) → (r : faults.Refused) → numbers r ≡ neither 8 → Stitches left right out out (Err r)
    in_use_length h r n = stitch_length left right f e out (λ z. h (ap length in_use_same ∙ z)) r n

    pub in_use_done : length (in_use_text f.left f.right left right) ≡ length out → (last : List ℕ) → last ≡ sets out 0 (in_use_text f.left f.right left right) → Stitches left right out last (Ok tt)
    in_use_done h last l = stitch_done left right f e out (sym (ap length in_use_same) ∙ h) last (l ∙ ap (sets out 0) in_use_same)

-- What judging answers

-- both are read
module _ (left right : List ℕ) (s t : Outlined) where
  pub judge_both : (T U : Outcome Contents) → read_text whole left ≡ T → read_text whole right ≡ U → Ok s ≡ outlining 1 T → Ok t ≡ outlining 2 U → fit_of s.sheet t.sheet s.tables t.tables ≡ judging T U
  unfolding seam
  judge_both (Refused m l) U f g e h = absurd cc
  judge_both (Gives c) (Refused m l) f g e h = absurd cc
  judge_both (Gives c) (Gives d) f g e h =
      let p : outline_in c ≡ s = cc in
      let q : outline_in d ≡ t = cc in
      (λ i. fit_of (sym p i).sheet (sym q i).sheet (sym p i).tables (sym q i).tables)
      ∙ ap
      (λ (x : Bool). cond x (cond (leb (c.sheet.header.width + d.sheet.header.width) 512) (Ok (record { left = c.sheet; right = d.sheet })) (Err (neither 2))) (Err (neither 16)))
      seam_is
    where
      places : List ℕ
      places = replicate 192 0

      by : (x : Bool) → same_sheet c.sheet d.sheet ≡ x
          → (same_sheet c.sheet d.sheet && same_numbers (sets places 0 c.held.lent.tables) (sets places 0 d.held.lent.tables)) ≡ (same_sheet c.sheet d.sheet && same_numbers c.held.lent.tables d.held.lent.tables)
      by false e = rw e
      by true e = rw e (seam_tables left right c d f g places refl e)

      tables : Bool
      tables = same_numbers (sets places 0 c.held.lent.tables) (sets places 0 d.held.lent.tables)

      seam_is : (same_used c.sheet d.sheet && tables) ≡ seam c d
      seam_is =
          ap (λ (b : Bool). b && tables) (used_seam left right c d f g)
          ∙ by (same_sheet c.sheet d.sheet) refl

-- What stitching two texts that fit writes
module _ (left right : List ℕ) (c d : Contents) (f : FitTogether left right c d) where
  pub joined_text : stitching left right ≡ Text (output_of c d)
  joined_text = whole_text left right c d f.left_reads f.right_reads f.fit (le-leb (c.sheet.header.width + d.sheet.header.width) 512 f.wide)

  pub joined_legal : TextOf whole (stitched_sheet c.sheet d.sheet) (stitched_held c.sheet d.sheet c.held d.held) (output_of c d)
  joined_legal =
      (accepts whole (output_of c d) (stitched_sheet c.sheet d.sheet) (stitched_held c.sheet d.sheet c.held d.held)).only
      (output_reads left right c d f.left_reads f.right_reads f.fit f.wide)

  pub joined_copied : stitch_text c.sheet d.sheet left right ≡ output_of c d
  joined_copied = text_is left right c d f.left_reads f.right_reads f.fit f.wide

  pub joined_in_use : in_use_text c.sheet d.sheet left right ≡ output_of c d
  joined_in_use = in_use_is left right c d f.left_reads f.right_reads f.fit f.wide
