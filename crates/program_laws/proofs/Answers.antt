-- What is printed is an answer: a picture of legal sides after the lines of its runs, or a refusal with a number of the table.
use Rattle.std.proofs.Common.{ℕ, zero, suc, ◌+◌, ◌*◌, ◌^◌, ◌≡◌, ◌<◌, ◌≤◌, ◌⊎◌, inl, inr, Bool, true, false, cond, List, [], ◌∷◌, ◌++◌, length, get_or, replicate, refl, sym, ap, ◌∙◌, subst, arith, append-nil, length-take}
use lib.Ieee.{Float}
use Rattle.std.specs.Float.{nan, binary64}
use Rattle.std.specs.Float.Ieee.{to_bits}
use lib.ListN.{take}
use Rattle.fold.specs.Fold.{upto}
use Rattle.fold.specs.Join.{join_upto}
use Rattle.fold.specs.Part.{part}
use Rattle.refusal.specs.declared.Refusal.{Refusal}
use Rattle.refusal.specs.declared.Refusal.TheVariants as refusal
use Rattle.refusal.specs.Refusal as table
use Rattle.digits.specs.Written.{decimal, hex_of, ended}
use Rattle.contents.specs.declared.Sheet.{Sheet}
use Rattle.contents.specs.Sheets.{Lent}
use Rattle.contents.specs.Legal.{LegalSheet}
use Rattle.sheet.specs.Reading.{Outcome, Contents, read_text}
use Rattle.sheet.specs.Reading.Outcome.{Gives, Refused}
use Rattle.grammar.proofs.LegalLaws.{legal}
use Rattle.grammar.proofs.BoundLaws.{LineTo, line_bound}
use Rattle.grammar.proofs.PrefixLaws.{decides}
use Rattle.start.specs.Coef.{Levels}
use Rattle.solve.specs.Solve.{iterations_at, steps_before, planes, blows, totals_of, clipped_at}
use Rattle.picture.specs.Finish.{to_byte, picture}
use Rattle.output.specs.Output.{each, pixel, row_line, picture_text, refusal_text, step_line, totals_text, clipped_text, numbers_line}
use Rattle.program.specs.Printed.{limits, levels_of, rounding_of, painted, run_lines, totals_lines, clipped_lines, solved_text, sheet_text, says, printed}
use Rattle.program.proofs.Clipped.{clipped_small}
use Rattle.program.proofs.Printing.{decided, decisive_32}
use Rattle.program_laws.specs.Answer.{IsLine, IsParts, IsRun, IsPicture, IsRefusal, IsAnswer}
use Rattle.program_laws.specs.Answer.Kind.{Number, Hex}
use Rattle.program_laws.proofs.Fields.{number, hex, three_bytes, two_numbers, lines_parts, same_kind}
use Rattle.program_laws.proofs.Refusals.{Tabled, TabledRefusal, refusal_tabled}

-- ---- the lines of a picture

total_line : (channel k : ℕ) (totals : List Float) → channel < 10 ^ 6 → k + 1 < 10 ^ 6
    → IsLine 84 (Number channel ∷ Number (k + 1) ∷ Hex 16 ∷ Hex 16 ∷ []) (ended (step_line channel totals k ∷ []))
total_line channel k totals h m =
    let x = to_bits binary64 (get_or totals (k * 2) nan) in
    let y = to_bits binary64 (get_or totals (k * 2 + 1) nan) in
    record {
      fields = decimal channel ∷ decimal (k + 1) ∷ hex_of 16 x ∷ hex_of 16 y ∷ [];
      each = (number channel h, (number (k + 1) m, (hex 16 x, (hex 16 y, tt))));
      bytes = refl;
    }

run_parts : (channel steps : ℕ) (totals : List Float) → channel < 10 ^ 6 → steps ≤ 1000 → IsRun steps channel (totals_text channel steps totals)
unfolding totals_text
run_parts channel steps totals h m =
    lines_parts (λ k. IsLine 84 (Number channel ∷ Number (k + 1) ∷ Hex 16 ∷ Hex 16 ∷ [])) (step_line channel totals) steps
    (λ k l. total_line channel k totals h (omega arith))

pixels_line : (width : ℕ) (rgb : List ℕ) (k : ℕ) → IsLine 82 (replicate width (Hex 6)) (ended (row_line width rgb k ∷ []))
pixels_line width rgb k =
    record {
      fields = each (λ x. pixel rgb (k + x)) width;
      each = same_kind (Hex 6) (λ x. pixel rgb (k + x)) width (λ x. three_bytes _ _ _);
      bytes = refl;
    }

clipped_line : (c n : ℕ) → c < 10 ^ 6 → n < 10 ^ 6 → IsLine 75 (Number c ∷ Number n ∷ []) (clipped_text c n)
unfolding clipped_text
clipped_line c n h k = two_numbers 75 c n h k

-- ---- a refusal

number_small : (r : Refusal) → table.number_of r ≤ 20
number_small refusal.Form = omega arith
number_small refusal.Size = omega arith
number_small refusal.Factor = omega arith
number_small refusal.Table = omega arith
number_small refusal.Level = omega arith
number_small refusal.Weight = omega arith
number_small refusal.Cut = omega arith
number_small refusal.Length = omega arith
number_small refusal.Turn = omega arith
number_small refusal.Blown = omega arith
number_small refusal.Done = omega arith
number_small refusal.Channel = omega arith
number_small refusal.Record = omega arith
number_small refusal.Range = omega arith
number_small refusal.Page = omega arith
number_small refusal.Seam = omega arith
number_small refusal.Hold = omega arith
number_small refusal.Mark = omega arith
number_small refusal.Segment = omega arith
number_small refusal.Precision = omega arith

refused : (k line : ℕ) → Tabled k → 1 ≤ line → line < 10 ^ 6 → IsRefusal (refusal_text k line)
unfolding refusal_text
refused k line t from most =
    record {
      refusal = t.0;
      line = line;
      place = inr ((λ e. t.2 (sym t.1 ∙ ap table.number_of e)), from);
      bytes = subst (λ (n : ℕ). IsLine 88 (Number n ∷ Number line ∷ []) (ended (numbers_line 88 k line ∷ []))) (sym t.1)
          (two_numbers 88 k line (omega (arith, t.1, number_small t.0)) most);
    }

blown_refusal : IsRefusal (refusal_text 10 0)
unfolding refusal_text
blown_refusal =
    record { refusal = refusal.Blown; line = 0; place = inl (refl, refl); bytes = two_numbers 88 10 0 (omega arith) (omega arith) }

-- ---- a solved sheet

-- the first line apart
head_apart : (head rows : List ℕ) → head ++ 10 ∷ rows ≡ (head ++ 10 ∷ []) ++ rows
head_apart [] rows = refl
head_apart (x ∷ head) rows = ap (λ (l : List ℕ). x ∷ l) (head_apart head rows)

module _ (s : Sheet) (b : Lent) (l : LegalSheet limits s b) where
  abbrev ls : Levels
  ls = levels_of b

  abbrev ts : List ℕ
  ts = b.tables

  channels_few : s.header.channels ≤ 3
  channels_few = by l.header.channels
    where
      by : (s.header.channels ≡ 1) ⊎ (s.header.channels ≡ 3) → s.header.channels ≤ 3
      by (inl e) = omega arith
      by (inr e) = omega arith

  -- how many steps the run has whose lines begin with this channel
  steps_of : Bool → ℕ → ℕ
  steps_of true zero = iterations_at s 0
  steps_of true (suc c) = 0
  steps_of false c = iterations_at s c

  steps_few : (joint : Bool) (c : ℕ) → steps_of joint c ≤ 1000
  unfolding steps_of
  steps_few true zero = l.header.iterations 0
  steps_few true (suc c) = omega arith
  steps_few false c = l.header.iterations c

  -- in joint mode all lines are those of channel 0
  joint_part : List Float → ℕ → List ℕ
  joint_part totals zero = totals_text 0 (iterations_at s 0) totals
  joint_part totals (suc c) = []

  joint_join : (totals : List Float) (n : ℕ) → totals_text 0 (iterations_at s 0) totals ≡ join_upto (joint_part totals) (suc n)
  unfolding upto joint_part
  joint_join totals zero = refl
  joint_join totals (suc n) = joint_join totals n ∙ sym (append-nil (join_upto (joint_part totals) (suc n)))

  joint_each : (totals : List Float) (c : ℕ) → c < 3 → IsRun (steps_of true c) c (joint_part totals c)
  unfolding steps_of joint_part upto
  joint_each totals zero h = run_parts 0 (iterations_at s 0) totals (omega arith) (l.header.iterations 0)
  joint_each totals (suc c) h = record { part = λ k. []; bytes = refl; each = λ k less. absurd (omega arith) }

  totals_parts : (totals : List Float) (joint : Bool) → IsParts (λ c. IsRun (steps_of joint c) c) s.header.channels (cond joint (totals_text 0 (iterations_at s 0) totals) (join_upto (run_lines s totals) s.header.channels))
  unfolding steps_of
  totals_parts totals false =
      record {
        part = run_lines s totals;
        bytes = refl;
        each = λ c h. run_parts c (iterations_at s c) (part totals (steps_before s c * 2) (steps_before s (suc c) * 2)) (omega (arith, channels_few)) (l.header.iterations c);
      }
  totals_parts totals true =
      record { part = joint_part totals; bytes = by s.header.channels l.header.channels; each = λ c h. joint_each totals c (omega (arith, channels_few)) }
    where
      by : (n : ℕ) → (n ≡ 1) ⊎ (n ≡ 3) → totals_text 0 (iterations_at s 0) totals ≡ join_upto (joint_part totals) n
      by n (inl e) = joint_join totals 0 ∙ ap (join_upto (joint_part totals)) (sym e)
      by n (inr e) = joint_join totals 2 ∙ ap (join_upto (joint_part totals)) (sym e)

  numbers_parts : IsParts (λ c. IsLine 75 (Number c ∷ Number (clipped_at s ls ts c) ∷ [])) s.header.channels (clipped_lines s.header.channels (clipped_at s ls ts))
  unfolding clipped_lines
  numbers_parts =
      record {
        part = λ c. clipped_text c (clipped_at s ls ts c);
        bytes = refl;
        each = λ c h. clipped_line c (clipped_at s ls ts c) (omega (arith, channels_few)) (omega (arith, clipped_small s b l c h));
      }

  abbrev rgb : List ℕ
  rgb = picture (to_byte (rounding_of s.settings.rounding)) s.header.width s.header.height s.header.picture_width s.header.picture_height s.header.channels (planes s ls ts)

  abbrev sides : List ℕ
  sides = ended (numbers_line 73 s.header.picture_width s.header.picture_height ∷ [])

  abbrev rows : List ℕ
  rows = ended (each (λ y. row_line s.header.picture_width rgb (y * s.header.picture_width)) s.header.picture_height)

  painted_lines : painted (rounding_of s.settings.rounding) s.header (planes s ls ts) ≡ sides ++ rows
  unfolding painted picture_text
  painted_lines = by (numbers_line 73 s.header.picture_width s.header.picture_height)
    where
      by : (head : List ℕ) → ended (head ∷ each (λ y. row_line s.header.picture_width rgb (y * s.header.picture_width)) s.header.picture_height) ≡ ended (head ∷ []) ++ rows
      by head = head_apart head rows

  solved_picture : IsPicture (solved_text s ls ts)
  unfolding totals_lines
  solved_picture =
      let wide : s.header.picture_width ≤ 32 = omega (arith, l.header.shown_width.top, l.header.width.top) in
      let high : s.header.picture_height ≤ 32 = omega (arith, l.header.shown_height.top, l.header.height.top) in
      record {
        channels = s.header.channels;
        steps = steps_of s.header.joint;
        clipped = clipped_at s ls ts;
        width = s.header.picture_width;
        height = s.header.picture_height;
        totals = totals_lines s (totals_of s ls ts);
        numbers = clipped_lines s.header.channels (clipped_at s ls ts);
        sides = sides;
        rows = rows;
        bytes = ap (λ (p : List ℕ). totals_lines s (totals_of s ls ts) ++ (clipped_lines s.header.channels (clipped_at s ls ts) ++ p)) painted_lines;
        one_or_three = l.header.channels;
        few_steps = steps_few s.header.joint;
        few_clipped = λ c h. clipped_small s b l c h;
        wide = (l.header.shown_width.low, wide);
        high = (l.header.shown_height.low, high);
        totals_lines = totals_parts (totals_of s ls ts) s.header.joint;
        numbers_lines = numbers_parts;
        sides_line = two_numbers 73 s.header.picture_width s.header.picture_height (omega arith) (omega arith);
        rows_lines = lines_parts (λ y. IsLine 82 (replicate s.header.picture_width (Hex 6))) (λ y. row_line s.header.picture_width rgb (y * s.header.picture_width)) s.header.picture_height
            (λ y h. pixels_line s.header.picture_width rgb (y * s.header.picture_width));
      }

  sheet_answer : IsAnswer (sheet_text s ls ts)
  unfolding sheet_text
  sheet_answer = by (blows s ls ts)
    where
      by : (blown : Bool) → IsAnswer (cond blown (refusal_text 10 0) (solved_text s ls ts))
      by true = inr blown_refusal
      by false = inl solved_picture

-- ---- a text

take_short : (text : List ℕ) → length (take decided text) ≤ decided
take_short text = omega (arith, length-take decided text)

text_answer : (text : List ℕ) → length text ≤ decided → IsAnswer (printed text)
unfolding printed says
text_answer text short = by (read_text limits text) refl (refusal_tabled text) (line_bound limits text)
  where
    by : (T : Outcome Contents) → read_text limits text ≡ T → TabledRefusal T → LineTo (length text + 2) T → IsAnswer (says T)
    by (Gives c) e t m = sheet_answer c.sheet c.held.lent (legal limits text c.sheet c.held e)
    by (Refused k line) e t m = inr (refused k line t.0 t.1 (omega arith))

pub one_answer : (text : List ℕ) → IsAnswer (printed text)
unfolding printed
one_answer text =
    subst IsAnswer (ap says (decides limits text decided (omega (arith, decisive_32))))
    (text_answer (take decided text) (take_short text))
