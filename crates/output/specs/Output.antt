-- The text that the program `smooth` prints, as bytes.
use Rattle.std.specs.Prelude.{◌≡◌, ◌&&◌, if◌then◌else◌, ◌==◌, nat_le, List, [], ◌∷◌, ◌++◌, ℕ, zero, suc, ◌+◌, ◌-◌, ◌*◌, length, get_or, take, drop, Float, Result, Ok, Err}
use Rattle.std.specs.Float.{nan, binary64}
use Rattle.std.specs.Float.Ieee.{to_bits}
use Rattle.refusal.specs.declared.Refusal.{Refusal}
use Rattle.refusal.specs.declared.Refusal.TheVariants as refusal
use Rattle.digits.specs.Written.{decimal, hex_of, joined, ended}
use Rattle.copying.specs.declared.Writer.{Writer}

-- f of 0, 1 and so on, n of them
module _ {A : Type 0} where
  unfoldable pub each : (ℕ → A) → ℕ → List A
  each f zero = []
  each f (suc n) = each f n ++ f n ∷ []

-- A letter and two numbers: `I`, width, height, or `X`, number, line, or `K`, channel, number
abbrev pub numbers_line : ℕ → ℕ → ℕ → List ℕ
numbers_line letter a b = joined ((letter ∷ []) ∷ decimal a ∷ decimal b ∷ [])

-- The picture: rgb holds a red, a green and a blue byte for each pixel, row by row

-- "a six-digit lowercase hexadecimal RGB value per pixel": two digits for each of the three bytes
abbrev pub pixel : List ℕ → ℕ → List ℕ
pixel rgb k = hex_of 2 (get_or rgb (3 * k) 0) ++ (hex_of 2 (get_or rgb (3 * k + 1) 0) ++ hex_of 2 (get_or rgb (3 * k + 2) 0))

-- "per row `R`" and the pixels: the row whose first pixel is number k
abbrev pub row_line : ℕ → List ℕ → ℕ → List ℕ
row_line width rgb k = joined ((82 ∷ []) ∷ each (λ x. pixel rgb (k + x)) width)

-- "Fields are parted by one tab and every line ends with byte 10"
unfoldable pub picture_text : ℕ → ℕ → List ℕ → List ℕ
unfolding decimal each
picture_text width height rgb = ended (numbers_line 73 width height ∷ each (λ y. row_line width rgb (y * width)) height)

-- "A refusal prints only `X`, number and line"
unfoldable pub refusal_text : ℕ → ℕ → List ℕ
unfolding decimal
refusal_text number line = ended (numbers_line 88 number line ∷ [])

-- M-103: "`T`, channel of the run's start (0 in joint mode), step from 1, and both totals as 16 lowercase hexadecimal digits of their bits (a NaN as
-- 7ff8000000000000)", which is what `to_bits` gives of a NaN. k counts the run's steps from 0
abbrev pub total_line : ℕ → ℕ → Float → Float → List ℕ
total_line channel k x y = joined ((84 ∷ []) ∷ decimal channel ∷ decimal (k + 1) ∷ hex_of 16 (to_bits binary64 x) ∷ hex_of 16 (to_bits binary64 y) ∷ [])

-- `totals` has two places for each step
abbrev pub step_line : ℕ → List Float → ℕ → List ℕ
step_line channel totals k = total_line channel k (get_or totals (k * 2) nan) (get_or totals (k * 2 + 1) nan)

-- the lines of a run's steps
unfoldable pub totals_text : ℕ → ℕ → List Float → List ℕ
unfolding decimal to_bits each
totals_text channel steps totals = ended (each (step_line channel totals) steps)

-- M-104: "the program prints it on a line `K`, channel, number"
unfoldable pub clipped_text : ℕ → ℕ → List ℕ
unfolding decimal
clipped_text channel number = ended (numbers_line 75 channel number ∷ [])

-- What the calls answer, of a lent output that has `room` bytes from its place on: a refusal where they cannot write the whole text

-- no picture text of these sides is longer: `I` with two sides of three digits takes 10 bytes, a row 2 and 7 for each pixel
abbrev pub picture_room : ℕ → ℕ → ℕ
picture_room width height = 10 + height * (7 * width + 2)

-- no side above 512; three bytes for each pixel, and room
abbrev pub picture_answer : ℕ → ℕ → ℕ → ℕ → Result Unit Refusal
picture_answer width height bytes room =
    if nat_le width 512 && nat_le height 512
    then (if bytes == 3 * (width * height) && nat_le (picture_room width height) room then Ok tt else Err refusal.Length)
    else Err refusal.Size

-- a line number of at most six digits, and room: `X`, a number of up to three digits and the line take 13 bytes
abbrev pub refusal_answer : ℕ → ℕ → Result Unit Refusal
refusal_answer line room =
    if nat_le line 999999 then (if nat_le 13 room then Ok tt else Err refusal.Length) else Err refusal.Size

-- a channel of one digit; steps of at most four; two totals for each step, and room: a line takes 43 bytes at most
abbrev pub totals_answer : ℕ → ℕ → ℕ → ℕ → Result Unit Refusal
totals_answer channel steps values room =
    if nat_le channel 9
    then (if nat_le steps 9999
    then (if values == steps * 2 && nat_le (steps * 43) room then Ok tt else Err refusal.Length)
    else Err refusal.Size)
    else Err refusal.Channel

-- a channel of one digit; a number of at most six; and room: with `K` they take 11 bytes
abbrev pub clipped_answer : ℕ → ℕ → ℕ → Result Unit Refusal
clipped_answer channel number room =
    if nat_le channel 9
    then (if nat_le number 999999 then (if nat_le 11 room then Ok tt else Err refusal.Length) else Err refusal.Record)
    else Err refusal.Channel

-- A buffer after a text was written to it from place `at` on, r being where the text ends: the rest is as it was before
pub record Wrote (at : ℕ) (text before : List ℕ) (r : ℕ) (after : List ℕ) : Type 0 where
  pub count : r ≡ at + length text
  pub bytes : after ≡ take at before ++ (text ++ drop r before)

-- The bytes that a lent output has from its place on
abbrev pub room : Writer → ℕ
room to = length to.out.now - to.at

-- A text was written whole into a lent output, from its place on, which is then the text's end
pub record Adds (before : Writer) (text : List ℕ) (after : Writer) : Type 0 where
  pub wrote : Wrote before.at text before.out.now after.at after.out.now
  pub same : after.out.ghost_name ≡ before.out.ghost_name
