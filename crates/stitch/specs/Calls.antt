-- What stitching and measuring promise. Document 02, M-107.
use Rattle.std.specs.Prelude.{ℕ, ◌+◌, ◌≤◌, ◌≡◌, List, true, cond, length, eqb, leb, Result, Ok, Err}
use Rattle.contents.specs.declared.Limits.{Limits}
use Rattle.sheet.specs.Reading.{Outcome, Contents, read_text}
use Rattle.sheet.specs.Reading.Outcome.{Gives, Refused}
use Rattle.grammar.specs.Written.{written}
use Rattle.stitch.specs.declared.Refused as faults
use Rattle.stitch.specs.Numbers.{Numbers, numbered}
use Rattle.seam.specs.Seam.{seam}
use Rattle.stitch.specs.Stitched.{stitched_sheet, stitched_held}

-- One text, or a refusal: its number, which text it is about (1 left, 2 right, 0 neither) and its line there
pub data Stitch : Type 0 where
  Text : List ℕ → Stitch
  Fault : ℕ → ℕ → ℕ → Stitch

-- "valid at limit 1,000", as staff read, with the library's sides
abbrev pub whole : Limits
whole = record { side = 512; iterations = 1000 }

-- the text of two sheets side by side
unfoldable pub output_of : Contents → Contents → List ℕ
unfolding written
output_of c d = written (stitched_sheet c.sheet d.sheet) (stitched_held c.sheet d.sheet c.held d.held)

-- "16 .. any of those needs unmet, after the faults of the left text and then of the right; 2 if the summed width passes 512, after 16"
abbrev pub fitting : Contents → Contents → Stitch
fitting c d = cond (seam c d) (cond (leb (c.sheet.header.width + d.sheet.header.width) 512) (Text (output_of c d)) (Fault 2 0 0)) (Fault 16 0 0)

abbrev pub joining : Outcome Contents → Outcome Contents → Stitch
joining (Refused k line) r = Fault k 1 line
joining (Gives c) (Refused k line) = Fault k 2 line
joining (Gives c) (Gives d) = fitting c d

-- Two texts stitched
unfoldable pub stitching : List ℕ → List ℕ → Stitch
unfolding read_text seam output_of
stitching left right = joining (read_text whole left) (read_text whole right)

-- "the exact length that a measuring call gives", and for any other texts the same refusal as stitching
abbrev pub measuring : Stitch → Result ℕ Numbers
measuring (Text t) = Ok (length t)
measuring (Fault k which line) = Err (record { number = k; which = which; line = line })

-- "otherwise 8; a refusal leaves it unchanged", "8 last": stitching into an output that holds these bytes
abbrev pub sized : List ℕ → Stitch → Stitch
sized out (Text t) = cond (eqb (length t) (length out)) (Text t) (Fault 8 0 0)
sized out (Fault k which line) = Fault k which line

abbrev pub answering : Stitch → Result Unit Numbers
answering (Text t) = Ok tt
answering (Fault k which line) = Err (record { number = k; which = which; line = line })

abbrev pub out_after : Stitch → List ℕ → List ℕ
out_after (Text t) out = t
out_after (Fault k which line) out = out

pub record Stitches (left right before after : List ℕ) (r : Result Unit faults.Refused) : Type 0 where
  pub answer : numbered r ≡ answering (sized before (stitching left right))
  pub out : after ≡ out_after (sized before (stitching left right)) before

-- Two texts that are read and fit side by side, with what they hold
pub record FitTogether (left right : List ℕ) (c d : Contents) : Type 0 where
  pub left_reads : read_text whole left ≡ Gives c
  pub right_reads : read_text whole right ≡ Gives d
  pub fit : seam c d ≡ true
  pub wide : c.sheet.header.width + d.sheet.header.width ≤ 512
