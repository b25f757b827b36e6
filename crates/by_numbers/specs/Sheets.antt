-- The exported reading calls: what they answer and what they leave behind the pointers that they are lent.
use Rattle.std.specs.Prelude.{ℕ, ◌≡◌, Option, List, [], ◌∷◌, ◌++◌, cond, eqb, leb}
use Rattle.std.specs.Float.{binary32}
use Rattle.std.specs.Float.Ieee.{to_bits}
use Rattle.contents.specs.declared.Weight.{Weight}
use Rattle.contents.specs.declared.Reader.{Reader}
use Rattle.contents.specs.Weights.{value_of}
use Rattle.contents.specs.declared.Sheet.{Sheet}
use Rattle.contents.specs.declared.Letter.{Letter}
use Rattle.contents.specs.declared.Settings.{Settings}
use Rattle.contents.specs.declared.Header.{Header}
use Rattle.contents.specs.declared.Channel.{Channel}
use Rattle.contents.specs.Hold.{iterations_at, hold_at}
use Rattle.contents.specs.Letters.{chosen}
use Rattle.contents.specs.Sheets.{Lent, smoothing_at, data_at, channel_at}
use Rattle.sheet.specs.Reading.{Outcome, Contents}
use Rattle.sheet.specs.Reading.Outcome.{Gives, Refused}
use Rattle.sheet.specs.declared.Lengths.{Lengths}
use Rattle.sheet.specs.Calls.{lent_after}

-- the number of a refusal and its line; 0 and 0 where there is none
abbrev pub number_in : {A : Type 0} → Outcome A → ℕ
number_in (Gives a) = 0
number_in (Refused k line) = k

abbrev pub line_in : {A : Type 0} → Outcome A → ℕ
line_in (Gives a) = 0
line_in (Refused k line) = line

-- both lengths, or what stood there
abbrev pub level_count : Outcome Lengths → ℕ → ℕ
level_count (Gives n) old = n.levels
level_count (Refused k line) old = old

abbrev pub table_count : Outcome Lengths → ℕ → ℕ
table_count (Gives n) old = n.tables
table_count (Refused k line) old = old

pub record Measures (o : Outcome Lengths) (n₀ n m₀ m l r : ℕ) : Type 0 where
  pub number : r ≡ number_in o
  pub line : l ≡ line_in o
  pub levels : n ≡ level_count o n₀
  pub tables : m ≡ table_count o m₀

-- A sheet's record as numbers: the header's fields in the order of the S line, 1 for joint mode and 0 for separate, weights as
-- the bits of their f32; then own sides and factors of three channels, zeros where there is none;
-- then the settings by their meaning: the rounding, 0 for `t` and 1 for `n`, when the image is reordered, 0 for `m` and 1 for `o`, and after how many steps each
-- of three channels is held (M-108), also where no line says it.
abbrev pub weight_bits : Weight → ℕ
weight_bits w = to_bits binary32 (value_of w)

abbrev pub channel_numbers : Channel → List ℕ
channel_numbers c = c.width ∷ c.height ∷ c.across ∷ c.down ∷ []

abbrev pub header_numbers : Header → List ℕ
header_numbers h =
    h.width ∷ h.height ∷ h.picture_width ∷ h.picture_height ∷ h.channels ∷ cond h.joint 1 0
    ∷ iterations_at h 0 ∷ iterations_at h 1 ∷ iterations_at h 2
    ∷ weight_bits (smoothing_at h 0) ∷ weight_bits (smoothing_at h 1) ∷ weight_bits (smoothing_at h 2)
    ∷ weight_bits (data_at h 0) ∷ weight_bits (data_at h 1) ∷ weight_bits (data_at h 2)
    ∷ []

abbrev pub choice_number : Option Letter → ℕ
choice_number c = chosen c 0 1

abbrev pub setting_numbers : Settings → List ℕ
setting_numbers x = choice_number x.rounding ∷ choice_number x.start ∷ []

abbrev pub held_numbers : Sheet → List ℕ
held_numbers s = hold_at s 0 ∷ hold_at s 1 ∷ hold_at s 2 ∷ []

unfoldable pub numbers_of : Sheet → List ℕ
numbers_of s =
    header_numbers s.header ++ (channel_numbers (channel_at s 0) ++ (channel_numbers (channel_at s 1) ++ (channel_numbers (channel_at s 2) ++ (setting_numbers s.settings ++ held_numbers s))))

-- how many these are, of every sheet
abbrev pub record_count : ℕ
record_count = 32

-- "a lent buffer's length differs" (8), last: the record's numbers have a buffer too
abbrev pub with_record : ℕ → Outcome Contents → Outcome Contents
with_record n (Gives c) = cond (eqb n record_count) (Gives c) (Refused 8 0)
with_record n (Refused k line) = Refused k line

-- the call by a reader's number, 0 for staff and 1 for a partner: 2 at line 0 where it is neither 0 nor 1, before the text is looked at
abbrev pub by_reader : ℕ → Outcome Contents → Outcome Contents
by_reader n o = cond (leb n 1) o (Refused 2 0)

abbrev pub numbers_after : Outcome Contents → List ℕ → List ℕ
numbers_after (Gives c) old = numbers_of c.sheet
numbers_after (Refused k line) old = old

pub record ReadsNumbers (who : Reader) (o : Outcome Contents) (into after : Lent) (n₀ n : List ℕ) (at r : ℕ) : Type 0 where
  pub number : r ≡ number_in o
  pub line : at ≡ line_in o
  pub lent-after : after ≡ lent_after who o into
  pub numbers : n ≡ numbers_after o n₀
