-- From what each call promises to the text that is printed.
use mathlib.Core.Path.{◌≡◌, refl, sym, ap, ◌∙◌, subst}
use mathlib.Core.Bool.{Bool, true, false}
use mathlib.Core.List.{List}
use Prim.Native.Nat.{ℕ, zero, suc, ◌+◌, ◌*◌, ◌≤◌, ◌<◌, min}
use native.Mathlib.Nat.{suc-mul, mul-le-mul}
use native.Mathlib.Omega.{arith}
use borrow.Author.Tests.{eq-eqb, le-leb}
use lib.Ieee.{Float}
use lib.ListN.{length, take}
use lib.Seq.{length-take-le}
use Rattle.contents.specs.declared.Header.{Header}
use Rattle.contents.specs.declared.Sheet.{Sheet}
use Rattle.std.specs.Prelude.{Result, Ok, Err, IsOk, nat_le, if◌then◌else◌}
use Rattle.refusal.specs.declared.Refusal.{Refusal}
use Rattle.refusal.specs.declared.Refusal.TheVariants as refusal
use Rattle.refusal.specs.Refusal.{number_of}
use Rattle.sheet.specs.declared.Lengths.{Lengths}
use Rattle.sheet.specs.declared.walk.Refused as walk
use Rattle.sheet.specs.Walk as Walk
use Rattle.contents.specs.Legal.{LegalHeader, LegalSheet}
use Rattle.contents.specs.Sheets.{levels_to, Lent, Marked, held}
use Rattle.contents.specs.declared.Reader.TheVariants as reader
use Rattle.sheet.specs.Reading.{Outcome, Contents, contents, read_text}
use Rattle.sheet.specs.Reading.Outcome.{Gives, Refused}
use Rattle.sheet.specs.Calls.{lengths_of, measuring, fitted, sheet_in, lent_after, Reads}
use Rattle.grammar.proofs.LegalLaws.{legal}
use Rattle.grammar.specs.Longest.{longest, decisive}
use Rattle.grammar.proofs.PrefixLaws.{decides}
use Rattle.digits.specs.Written.{decimal}
use Rattle.start.specs.Coef.{Levels}
use Rattle.start.specs.Buffers.{Buffers}
use Rattle.calls.specs.Buffers.{Plane, Prior, Gradient, Across, Down, Saved, Sized}
use Rattle.calls.specs.Calls.{all_six, lengths}
use Rattle.rounds.specs.declared.Ran.{Ran}
use Rattle.rounds.specs.declared.Ran.TheVariants.{Done}
use Rattle.calls.proofs.Tests.{sized_names}
use Rattle.rounds.specs.Whole.{ending_of, Loan, loan, ClippedAre, Ended, Ends}
use Rattle.solve.specs.Solve.{blend_count, whole_of, planes, blows, totals_of, clipped_at, number_in, answered, SolveIs}
use Rattle.solve.specs.declared.Solved.{Solved}
use Rattle.solve.specs.declared.Solved.TheVariants as solved
use Rattle.rounds.proofs.Ends.{is_done, not_done}
use Rattle.solve.proofs.Laws.{whole_channels}
use Rattle.picture.specs.declared.Rounding.{Rounding}
use Rattle.picture.specs.Finish as Finish
use Rattle.picture.proofs.Pixels.{picture_length}
use Rattle.copying.specs.declared.Writer.{Writer}
use Rattle.output.specs.Output.{Wrote, picture_text, picture_answer, refusal_text, refusal_answer, room as space, Adds}
use Rattle.output.proofs.Fronts.{wrote_as, adds_as, adds_more}
use Rattle.program.specs.Printed.{limits, levels_of, rounding_of, painted, totals_lines, clipped_lines, sheet_text, says, printed, most_picture, most_printed, SixLong}
use Rattle.program.proofs.Clipped.{clipped_small, lines_same}
use Rattle.program.proofs.Accepts.{at-most, accepts}
use Rattle.grammar.proofs.BoundLaws.{LineTo, line_bound}
use Rattle.program.proofs.Sizes.{values_small, finished, picture_fits, written, refused}

-- ---- paint_with: finish does not refuse, and what it leaves, written out

pub finishes : (f : Rounding) (h : Header) → LegalHeader limits h → (ps : List Float) → length ps ≡ h.channels * (h.width * h.height)
    → (rgb rgb' : List ℕ) → length rgb ≡ 3 * (h.picture_width * h.picture_height) → (t : Result Unit Refusal)
    → record { answer = Finish.verdict t; bytes = rgb' } ≡ Finish.finishing f h.width h.height h.picture_width h.picture_height h.channels ps rgb → IsOk t
finishes f h l ps long rgb rgb' room t e = by t (ap (λ (o : Finish.Finished). o.answer) (e ∙ finished h l f ps long rgb room))
  where
    by : (t : Result Unit Refusal) → Finish.verdict t ≡ Finish.done → IsOk t
    by (Ok x) q = refl
    by (Err r) q = absurd (let z : ◌≡◌ {A = ℕ} 0 1 = cc in omega arith)

pub paints : (f : Rounding) (h : Header) → LegalHeader limits h → (ps : List Float) → length ps ≡ h.channels * (h.width * h.height)
    → (rgb rgb' : List ℕ) → length rgb ≡ 3 * (h.picture_width * h.picture_height) → (t : Finish.Verdict)
    → record { answer = t; bytes = rgb' } ≡ Finish.finishing f h.width h.height h.picture_width h.picture_height h.channels ps rgb
    → (u v : Writer) → Adds u (picture_text h.picture_width h.picture_height rgb') v → Adds u (painted f h ps) v
paints f h l ps long rgb rgb' room t e u v w =
    adds_as (written f h ps rgb' (ap (λ (o : Finish.Finished). o.bytes) (e ∙ finished h l f ps long rgb room))) w

-- and its text fits
pub paint_fits : (f : Rounding) (h : Header) → LegalHeader limits h → (ps : List Float) → length ps ≡ h.channels * (h.width * h.height)
    → (rgb rgb' : List ℕ) → length rgb ≡ 3 * (h.picture_width * h.picture_height) → (t : Finish.Verdict)
    → record { answer = t; bytes = rgb' } ≡ Finish.finishing f h.width h.height h.picture_width h.picture_height h.channels ps rgb
    → (room : ℕ) → most_picture ≤ room → picture_answer h.picture_width h.picture_height (length rgb') room ≡ Ok tt
paint_fits f h l ps long rgb rgb' room t e space m =
    let is : rgb' ≡ Finish.picture (Finish.to_byte f) h.width h.height h.picture_width h.picture_height h.channels ps =
    ap (λ (o : Finish.Finished). o.bytes) (e ∙ finished h l f ps long rgb room) in
    picture_fits h l (length rgb') space (ap length is ∙ picture_length (Finish.to_byte f) h.width h.height h.picture_width h.picture_height h.channels ps) m

-- ---- solved_with: how solving a legal sheet ends

pub is_ok : (a : Result Solved Refusal) → IsOk (answered a) → IsOk a
is_ok (Ok x) p = refl
is_ok (Err r) p = p

-- without numbers it is not done
pub none_done : (x : Solved) → ((ks : List ℕ) → x ≡ solved.Done ks → ⊥) → answered (Ok x) ≡ Ok Done → ⊥
none_done (solved.Done ks) f e = f ks refl
none_done solved.Blown f e = let z : ◌≡◌ {A = ℕ} 0 1 = cc e in absurd (omega arith)

module _ (S : Sheet) (b : Lent) (l : LegalSheet limits S b) (B : Buffers)
    (long : SixLong S.header B.plane B.prior B.gradient B.across B.down B.saved) (T₀ : List Float) (room : length T₀ ≡ blend_count S * 2)
    (a : Result Ran Refusal) (ks : List ℕ) (L' : Loan) (said : SolveIs S (levels_of b) b.tables (loan B T₀) a ks L') where
  abbrev ls : Levels
  ls = levels_of b

  abbrev ts : List ℕ
  ts = b.tables

  abbrev size : ℕ
  size = S.header.channels * (S.header.width * S.header.height)

  sized : Sized size B
  sized Plane = long.0
  sized Prior = long.1
  sized Gradient = long.2
  sized Across = long.3
  sized Down = long.4
  sized Saved = long.5

  ended : Ended (blows S ls ts) (whole_of S ls ts) (loan B T₀) (ending_of a) (number_in ks) L'
  ended =
      subst (λ (n : ℕ). Ends n (whole_of S ls ts) (loan B T₀) (ending_of a) (number_in ks) L')
      (accepts limits S b l (lengths all_six B) (sized_names size B sized all_six) (length T₀) room) said

  -- it is not refused
  pub solves : IsOk a
  solves = by a (blows S ls ts) ended
    where
      by : (a : Result Ran Refusal) (b : Bool) → Ended b (whole_of S ls ts) (loan B T₀) (ending_of a) (number_in ks) L' → IsOk a
      by (Ok f) b e = refl
      by (Err r) true e = let z : ◌≡◌ {A = ℕ} 0 1 = cc e.0 in absurd (omega arith)
      by (Err r) false e = let z : ◌≡◌ {A = ℕ} 0 1 = cc e.0 in absurd (omega arith)

  -- done: it did not blow, and the planes, the totals and the numbers are there
  module _ (one : a ≡ Ok Done) where
    not_blown : (b : Bool) → Ended b (whole_of S ls ts) (loan B T₀) (ending_of a) (number_in ks) L'
        → (b ≡ false) × (L' ≡ loan (whole_of S ls ts).buffers (totals_of S ls ts)) × (length L'.buffers.plane ≡ size) × ClippedAre (whole_of S ls ts) (number_in ks)
        × (length L'.totals ≡ length T₀)
    not_blown true e = let z : ◌≡◌ {A = ℕ} 0 1 = cc (e.0, is_done a one) in absurd (omega arith)
    not_blown false e = (refl, e.1, e.2.0 Plane ∙ sized Plane, e.3, e.2.1)

    numbers : (c : ℕ) → c < S.header.channels → number_in ks c ≡ clipped_at S ls ts c
    numbers c h = (not_blown (blows S ls ts) ended).3 c (omega (arith, whole_channels S ls ts))

    pub numbers_small : (c : ℕ) → c < S.header.channels → number_in ks c ≤ 1024
    numbers_small c h = omega (arith, numbers c h, clipped_small S b l c h)

    pub done_long : length L'.buffers.plane ≡ size
    done_long = (not_blown (blows S ls ts) ended).2

    pub done_room : length L'.totals ≡ blend_count S * 2
    done_room = (not_blown (blows S ls ts) ended).4 ∙ room

    pub done_text : (f : Rounding) → f ≡ rounding_of S.settings.rounding → (u v w x : Writer) → Adds u (totals_lines S L'.totals) v → v.at ≤ length u.out.now
        → Adds v (clipped_lines S.header.channels (number_in ks)) w → w.at ≤ length v.out.now → Adds w (painted f S.header L'.buffers.plane) x → Adds u (sheet_text S ls ts) x
    unfolding sheet_text
    done_text f q u v w x t m k n p =
        let d = not_blown (blows S ls ts) ended in
        let sums : L'.totals ≡ totals_of S ls ts = ap (λ (K : Loan). K.totals) d.1 in
        let shown : L'.buffers.plane ≡ planes S ls ts = ap (λ (K : Loan). K.buffers.plane) d.1 in
        rw d.0
        (adds_more m (adds_as (ap (totals_lines S) sums) t)
        (adds_more n (adds_as (lines_same S.header.channels (number_in ks) (clipped_at S ls ts) numbers) k) (adds_as (λ i. painted (q i) S.header (shown i)) p)))

  -- any other answer: it blew
  module _ (other : a ≡ Ok Done → ⊥) where
    blown : (b : Bool) → Ended b (whole_of S ls ts) (loan B T₀) (ending_of a) (number_in ks) L' → b ≡ true
    blown true e = refl
    blown false e = absurd (not_done a other (sym e.0))

    pub blown_text : (u v : Writer) → Adds u (refusal_text 10 0) v → Adds u (sheet_text S ls ts) v
    unfolding sheet_text
    blown_text u v w = rw (blown (blows S ls ts) ended) w

-- ---- read_with: reading into room of the lengths that measuring gave

given : (a b : Lengths) → Gives a ≡ Gives b → a ≡ b
given a b e = cc

module _ (text : List ℕ) (into after : Lent) (r : Result Sheet walk.Refused)
    (room : measuring limits text ≡ Gives (record { levels = length into.lows; tables = length into.tables })) (even : length into.highs ≡ length into.lows)
    (said : Reads limits reader.Staff text into after r) where
  -- what is read has as many highs as lows
  whole : fitted into (read_text limits text) ≡ read_text limits text
  whole = by (read_text limits text) refl room
    where
      by : (T : Outcome Contents) → read_text limits text ≡ T → lengths_of T ≡ Gives (record { levels = length into.lows; tables = length into.tables }) → fitted into T ≡ T
      by (Gives c) q e =
          let b = c.held.lent in
          let k = legal limits text c.sheet c.held q in
          let l : length b.lows ≡ length into.lows = ap (λ (x : Lengths). x.levels) (given _ _ e) in
          let h : length b.highs ≡ length into.highs = k.highs_count ∙ sym k.lows_count ∙ l ∙ sym even in
          let t : length b.tables ≡ length into.tables = ap (λ (x : Lengths). x.tables) (given _ _ e) in
          rw (eq-eqb (length b.lows) (length into.lows) l, eq-eqb (length b.highs) (length into.highs) h, eq-eqb (length b.tables) (length into.tables) t) refl
      by (Refused k at) q e = refl

  -- the sheet and the buffers are what was read, with some kinds of its blocks and some marks
  sheet_read : (s : Sheet) → r ≡ Ok s → (rs : List Bool) × (ms : List Marked) × (read_text limits text ≡ contents s (held after rs ms))
  sheet_read s p =
      by (read_text limits text) (sym (ap Walk.said p) ∙ said.answer ∙ ap sheet_in whole) (said.lent ∙ ap (λ (o : Outcome Contents). lent_after reader.Staff o into) whole)
    where
      by : (T : Outcome Contents) → Gives s ≡ sheet_in T → after ≡ lent_after reader.Staff T into → (rs : List Bool) × (ms : List Marked) × (T ≡ contents s (held after rs ms))
      by (Gives c) e p = let same : c.sheet ≡ s = cc in (c.held.ranged, c.held.marks, λ i. Gives (record { sheet = same i; held = held (sym p i) c.held.ranged c.held.marks }))
      by (Refused k at) e p = absurd (let z : ◌≡◌ {A = ℕ} 0 1 = cc in omega arith)

  pub sheet_legal : (s : Sheet) → r ≡ Ok s → LegalSheet limits s after
  sheet_legal s p = let q = sheet_read s p in legal limits text s (held after q.0 q.1) q.2

  pub sheet-text : (s : Sheet) → r ≡ Ok s → (u v : Writer) → Adds u (sheet_text s (levels_of after) after.tables) v → Adds u (printed text) v
  unfolding printed says
  sheet-text s p u v w = adds_as (ap says (sym (sheet_read s p).2)) w

  -- a refusal was measured before
  pub not_refused : (f : walk.Refused) → r ≡ Err f → ⊥
  not_refused f p = by (read_text limits text) room (sym (ap Walk.said p) ∙ said.answer ∙ ap sheet_in whole)
    where
      by : (T : Outcome Contents) → lengths_of T ≡ Gives (record { levels = length into.lows; tables = length into.tables }) → Refused (number_of f.refusal) f.line ≡ sheet_in T → ⊥
      by (Gives c) m e = let z : ◌≡◌ {A = ℕ} 0 1 = cc in omega arith
      by (Refused k at) m e = let z : ◌≡◌ {A = ℕ} 0 1 = cc in omega arith

-- ---- read_and_solve: how much room that is at most

levels_most : (S : Sheet) (b : Lent) → LegalSheet limits S b → (n : ℕ) → n ≤ S.header.channels → levels_to S n ≤ n * (S.header.width * S.header.height)
levels_most S b l zero h = omega arith
levels_most S b l (suc n) h =
    let x = l.channel n h in
    omega (
      arith,
      levels_most S b l n (omega arith),
      suc-mul n (S.header.width * S.header.height),
      mul-le-mul x.width.top x.height.top,
    )

pub room_small : (text : List ℕ) (n m : ℕ) → measuring limits text ≡ Gives (record { levels = n; tables = m }) → (n ≤ 3072) × (m ≤ 192)
room_small text n m e = by (read_text limits text) refl e
  where
    by : (T : Outcome Contents) → read_text limits text ≡ T → lengths_of T ≡ Gives (record { levels = n; tables = m }) → (n ≤ 3072) × (m ≤ 192)
    by (Gives c) q e =
        let s = c.sheet in
        let l = legal limits text s c.held q in
        let ln : length c.held.lent.lows ≡ n = ap (λ (x : Lengths). x.levels) (given _ _ e) in
        let lm : length c.held.lent.tables ≡ m = ap (λ (x : Lengths). x.tables) (given _ _ e) in (
          omega (arith, l.lows_count, levels_most s c.held.lent l s.header.channels (omega arith), values_small s.header l.header),
          omega (arith, l.tables_count, at-most s.header.channels l.header.channels),
        )
    by (Refused k at) q e = absurd (let z : ◌≡◌ {A = ℕ} 0 1 = cc in omega arith)

-- ---- answer: the refusal of measuring is that of reading

-- the code's constant
abbrev pub decided : ℕ
decided = 39294

pub decisive_32 : decisive 32 ≡ decided
unfolding decisive longest decimal
decisive_32 = refl

module _ (text : List ℕ) (r : Result Lengths walk.Refused) (f : walk.Refused) (e : Walk.said r ≡ measuring limits text) (p : r ≡ Err f) where
  pub refusal_fits : length text ≤ decisive 32 → (room : ℕ) → most_printed ≤ room → refusal_answer f.line room ≡ Ok tt
  refusal_fits h room m = by (read_text limits text) (line_bound limits text) (sym (ap Walk.said p) ∙ e)
    where
      by : (T : Outcome Contents) → LineTo (length text + 2) T → Refused (number_of f.refusal) f.line ≡ lengths_of T → refusal_answer f.line room ≡ Ok tt
      by (Gives c) b q = absurd (let z : ◌≡◌ {A = ℕ} 0 1 = cc in omega arith)
      by (Refused k line) b q = let same : f.line ≡ line = cc in refused f.line room (omega (arith, decisive_32)) m

  pub refusal-text : (u v : Writer) → Adds u (refusal_text (number_of f.refusal) f.line) v → Adds u (printed text) v
  unfolding printed says
  refusal-text u v w = by (read_text limits text) (sym (ap Walk.said p) ∙ e)
    where
      by : (T : Outcome Contents) → Refused (number_of f.refusal) f.line ≡ lengths_of T → Adds u (says T) v
      by (Gives c) q = absurd (let z : ◌≡◌ {A = ℕ} 0 1 = cc in omega arith)
      by (Refused k line) q =
          let number : number_of f.refusal ≡ k = cc in
          let same : f.line ≡ line = cc in
          adds_as (λ i. refusal_text (number i) (same i)) w

-- ---- smooth_text: enough room, and as much of the text as decides

pub part_short : (text : List ℕ) (n : ℕ) → n ≡ min decided (length text) → length (take n text) ≤ decisive 32
part_short text n e = omega (arith, e, decisive_32, length-take-le n text (omega (arith, e)))

pub first_bytes : (text part out : List ℕ) (n : ℕ) (last out' : List ℕ) → Wrote 0 (printed part) out n last → last ≡ out' → part ≡ take decided text
    → Wrote 0 (printed text) out n out'
unfolding printed
first_bytes text part out n last out' w same e =
    wrote_as (ap printed e ∙ ap says (decides limits text decided (omega (arith, decisive_32)))) (rw same at w)

-- what is answered where there is room
abbrev so_many : ℕ → Result ℕ Refusal
so_many n = Ok n

fits_room : (text : List ℕ) (room : ℕ) → most_printed ≤ room → (if nat_le most_printed room then so_many (length (printed text)) else Err refusal.Length) ≡ so_many (length (printed text))
fits_room text room h = rw (le-leb most_printed room h) refl

-- with room for every text none is refused
pub has_room : (text : List ℕ) (room : ℕ) (r : Result ℕ Refusal) → most_printed ≤ room
    → r ≡ (if nat_le most_printed room then Ok (length (printed text)) else Err refusal.Length) → IsOk r
has_room text room r h e = subst IsOk (sym (e ∙ fits_room text room h)) refl

-- and how many bytes that are
pub counted : (text out : List ℕ) (n : ℕ) (out' : List ℕ) → most_printed ≤ length out → Wrote 0 (printed text) out n out'
    → Ok n ≡ (if nat_le most_printed (length out) then Ok (length (printed text)) else Err refusal.Length)
counted text out n out' h w =
    let whole : n ≡ length (printed text) = omega (arith, w.count) in ap so_many whole ∙ sym (fits_room text (length out) h)
