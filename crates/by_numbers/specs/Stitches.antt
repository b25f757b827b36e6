-- The exported stitching calls (document 02, M-107): what they answer and what they leave behind the pointers that they are lent.
use Rattle.std.specs.Prelude.{ℕ, ◌≡◌, List, length}
use Rattle.stitch.specs.Calls.{Stitch, out_after}
use Rattle.stitch.specs.Calls.Stitch.{Text, Fault}

-- the number of a refusal, the text that it is about (1 left, 2 right, 0 neither) and its line there; 0, 0 and 0 where there is none
abbrev pub fault_number : Stitch → ℕ
fault_number (Text t) = 0
fault_number (Fault k which line) = k

abbrev pub fault_text : Stitch → ℕ
fault_text (Text t) = 0
fault_text (Fault k which line) = which

abbrev pub fault_line : Stitch → ℕ
fault_line (Text t) = 0
fault_line (Fault k which line) = line

-- the output's length, or what stood there
abbrev pub length_after : Stitch → ℕ → ℕ
length_after (Text t) old = length t
length_after (Fault k which line) old = old

pub record MeasuresStitched (o : Stitch) (n₀ n which line r : ℕ) : Type 0 where
  pub number : r ≡ fault_number o
  pub text : which ≡ fault_text o
  pub at : line ≡ fault_line o
  pub measured : n ≡ length_after o n₀

pub record StitchesNumbers (o : Stitch) (before after : List ℕ) (which line r : ℕ) : Type 0 where
  pub number : r ≡ fault_number o
  pub text : which ≡ fault_text o
  pub at : line ≡ fault_line o
  pub out : after ≡ out_after o before
