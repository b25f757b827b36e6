-- The whole example of document 01, and edits of it that show how its rules are read, by computation. More of them, with the answers of the oracle's own reader, are in the list
-- that the crate `replay` reads.
use Prim.Native.Nat.{ℕ, zero, suc, ◌-◌}
use Prim.Native.Char.{code}
use Prim.Native.String.{String, len, char_at}
use mathlib.Core.Path.{◌≡◌, refl}
use mathlib.Core.List.{List, [], ◌∷◌, ◌++◌, map}
use mathlib.Core.Bool.{true, false, cond}
use lib.ListN.{length, replicate, take, drop, set, get_or}
use lib.IntN.{ℤ, pos}
use lib.Dec.{eqb}
use Rattle.contents.specs.declared.Weight.TheVariants as weight
use Rattle.text.specs.Numbers.{number_of, number_at}
use Rattle.text.specs.Weights.{bit_form, weight_of, weight_at}
use Rattle.text.specs.Levels.{level_of}
use Rattle.text.specs.Fields.{field_of}
use Rattle.digits.specs.Written.{decimal, joined, ended}
use Rattle.grammar.specs.Longest.{longest, decisive}
use Rattle.contents.specs.declared.Limits.{Limits}
use Rattle.contents.specs.declared.Sheet.{Sheet}
use Rattle.contents.specs.Hold.{measured}
use Rattle.contents.specs.Marks.{block_of, has_block}
use Rattle.lines.specs.Lines.{rules_of, fields_fault, header_of, channel_of, hold_of, mark_of, record_of}
use Rattle.contents.specs.Sheets.{lent, held, no_settings, no_channel}
use Rattle.progress.specs.Progress.{blank, line_tag, exists, taken_if}
use Rattle.sheet.specs.Reading.{Outcome, Contents, contents, line_fault, read_text}
use Rattle.sheet.specs.declared.Lengths.{Lengths}
use Rattle.sheet.specs.Calls.{measuring, reading}
use Rattle.sheet.specs.Reading.Outcome.{Gives, Refused}

-- the bytes of a text
abbrev bytes_from : String → ℕ → ℕ → List ℕ
bytes_from s i zero = []
bytes_from s i (suc n) = code (char_at s i) ∷ bytes_from s (suc i) n

abbrev b : String → List ℕ
b s = bytes_from s 0 (len s)

-- "Whole, with a tab for each space: lines `S 8 8 2 1 1 s 0 0 0 w0 w0 w0 w0 w0 w0`; `C 8 8 1 1` and 64 times `8`; `B 1` and
-- 63 times `0`; `E`": the fields of its lines
abbrev whole : List (List (List ℕ))
whole =
    (b "S" ∷ b "8" ∷ b "8" ∷ b "2" ∷ b "1" ∷ b "1" ∷ b "s" ∷ b "0" ∷ b "0" ∷ b "0" ∷ b "w0" ∷ b "w0" ∷ b "w0" ∷ b "w0" ∷ b "w0" ∷ b "w0" ∷ [])
    ∷ (b "C" ∷ b "8" ∷ b "8" ∷ b "1" ∷ b "1" ∷ replicate 64 (b "8"))
    ∷ (b "B" ∷ b "1" ∷ replicate 63 (b "0"))
    ∷ (b "E" ∷ [])
    ∷ []

-- field i of line j, both counted from 0, is this
abbrev edit : ℕ → ℕ → String → List (List (List ℕ)) → List (List (List ℕ))
edit j i s rows = set rows j (set (get_or rows j []) i (b s))

abbrev text : List (List (List ℕ)) → List ℕ
text rows = ended (map joined rows)

-- S.1 is 9, and S.15 has n zeros more
abbrev padded : ℕ → List (List (List ℕ))
padded n = edit 0 1 "9" (set whole 0 (set (get_or whole 0 []) 15 (b "w0" ++ replicate n 48)))

abbrev cut : ℕ → List ℕ → List ℕ
cut n t = take (length t - n) t

-- the whole example with one edit, and with two
abbrev one : ℕ → ℕ → String → List ℕ
one j i s = text (edit j i s whole)

abbrev two : ℕ → ℕ → String → ℕ → ℕ → String → List ℕ
two j i s k h u = text (edit j i s (edit k h u whole))

-- number and line of a refusal; 0 and 0 for a legal text
abbrev answer_of : Outcome Contents → ℕ × ℕ
answer_of (Gives c) = (0, 0)
answer_of (Refused k line) = (k, line)

-- at a side limit, and 1,000 iterations
abbrev at : ℕ → Limits
at side = record { side = side; iterations = 1000 }

unfoldable answer : ℕ → List ℕ → ℕ × ℕ
unfolding read_text blank line_tag taken_if record_of header_of channel_of hold_of mark_of measured block_of has_block exists line_fault fields_fault rules_of number_at weight_at number_of bit_form weight_of level_of field_of
answer side t = answer_of (read_text (at side) t)

abbrev answers : ℕ → List (List ℕ) → List (ℕ × ℕ)
answers side [] = []
answers side (t ∷ ts) = answer side t ∷ answers side ts

abbrev whole_sheet : Sheet
whole_sheet =
    record {
      header = record {
        width = 8;
        height = 8;
        picture_width = 2;
        picture_height = 1;
        channels = 1;
        joint = false;
        iterations = 0 ∷ 0 ∷ 0 ∷ [];
        smoothing = weight.Whole 0 ∷ weight.Whole 0 ∷ weight.Whole 0 ∷ [];
        data_weights = weight.Whole 0 ∷ weight.Whole 0 ∷ weight.Whole 0 ∷ [];
      };
      settings = no_settings;
      channels = record { width = 8; height = 8; across = 1; down = 1 } ∷ no_channel ∷ no_channel ∷ [];
    }

-- a value, then zeros
abbrev first : ℕ → List ℤ
first n = pos n ∷ replicate 63 (pos 0)

whole_reads : read_text (at 32) (text whole) ≡ contents whole_sheet (held (lent (first 1) (first 1) (replicate 64 8)) (false ∷ []) [])
unfolding read_text blank line_tag taken_if record_of header_of channel_of line_fault fields_fault rules_of number_at weight_at number_of bit_form weight_of level_of field_of
whole_reads = refl

-- 1,024 bytes are allowed; a line that is both too long and unended is 1; the length comes before every field
too_long : answers 32 (replicate 1025 97 ∷ replicate 1024 97 ∷ text (padded 987) ∷ text (padded 988) ∷ [])
    ≡ (1, 1) ∷ (7, 1) ∷ (2, 1) ∷ (1, 1) ∷ []
unfolding answer
too_long = refl

-- an unended line is 7 whatever it holds, at its own number
unended : answers 32 (b "x" ∷ cut 1 (text (take 3 whole)) ∷ cut 1 (text whole) ∷ [])
    ≡ (7, 1) ∷ (7, 3) ∷ (7, 4) ∷ []
unfolding answer
unended = refl

-- a byte after `E`, before any other test of it
after_end : answers 32 ((text whole ++ 10 ∷ []) ∷ (text whole ++ replicate 1025 97) ∷ (text whole ++ b "S") ∷ (two 0 7 "1" 0 13 "h7f000000" ++ 10 ∷ []) ∷ [])
    ≡ (7, 5) ∷ (7, 5) ∷ (7, 5) ∷ (7, 5) ∷ []
unfolding answer
after_end = refl

-- per field, spelling and then range
field_by_field : answers 32 (two 0 1 "12" 0 2 "x" ∷ two 2 1 "2048" 2 2 "-0" ∷ two 1 3 "5" 1 5 "0" ∷ [])
    ≡ (2, 1) ∷ (5, 3) ∷ (3, 2) ∷ []
unfolding answer
field_by_field = refl

-- cover comes after all 68 fields of its line
cover : answers 32 (two 1 1 "16" 1 68 "256" ∷ one 1 3 "2" ∷ [])
    ≡ (4, 2) ∷ (2, 2) ∷ []
unfolding answer
cover = refl

-- the limit 32 of `smooth`, at that field
limit_32 : answers 32 (two 0 1 "40" 0 6 "k" ∷ two 0 1 "40" 0 2 "x" ∷ one 0 1 "520" ∷ one 0 1 "40" ∷ one 0 1 "32" ∷ [])
    ≡ (2, 1) ∷ (2, 1) ∷ (2, 1) ∷ (2, 1) ∷ (0, 0) ∷ []
unfolding answer
limit_32 = refl

-- the six digits don't count the minus; "never before 0"
minus : answers 32 (one 2 1 "-0" ∷ one 2 1 "-999999" ∷ one 2 1 "-1000000" ∷ one 2 1 "-01" ∷ one 2 1 "-2047" ∷ one 2 1 "-2048" ∷ [])
    ≡ (1, 3) ∷ (5, 3) ∷ (1, 3) ∷ (1, 3) ∷ (0, 0) ∷ (5, 3) ∷ []
unfolding answer
minus = refl

-- a bit form is exactly `h` and eight of 0-9a-f; else `w` and a number; else 1
weights : answers 32 (one 0 10 "w255" ∷ one 0 10 "w256" ∷ one 0 10 "w0256" ∷ one 0 10 "h7f7fffff" ∷ one 0 10 "h7f800000" ∷ one 0 10 "h80000000" ∷ one 0 10 "h7F800000" ∷ one 0 10 "h7f80000" ∷ one 0 10 "hw1" ∷ [])
    ≡ (0, 0) ∷ (6, 1) ∷ (1, 1) ∷ (0, 0) ∷ (6, 1) ∷ (6, 1) ∷ (1, 1) ∷ (1, 1) ∷ (1, 1) ∷ []
unfolding answer
weights = refl

-- no byte but 10 and 9 has a meaning of its own
carriage : ℕ → ℕ
carriage x = cond (eqb x 10) 13 x

bytes : answers 32 (one 0 15 "w0\t" ∷ one 0 3 "2\t" ∷ one 0 15 "w0\r" ∷ map carriage (text whole) ∷ (239 ∷ 187 ∷ 191 ∷ text whole) ∷ one 0 0 " S" ∷ [])
    ≡ (1, 1) ∷ (1, 1) ∷ (1, 1) ∷ (7, 1) ∷ (1, 1) ∷ (1, 1) ∷ []
unfolding answer carriage
bytes = refl

-- a limit that could not be a side
bad_limit : (answer 0 (text whole) ≡ (2, 0)) × (answer 12 (text whole) ≡ (2, 0)) × (answer 520 (text whole) ≡ (2, 0))
unfolding answer
bad_limit = (refl, refl, refl)

-- these lines directly after `S`
abbrev after-S : List (List (List ℕ)) → List ℕ
after-S rows = text (take 1 whole ++ rows ++ drop 1 whole)

-- M-100: `F` only directly after `S`, once, with `t` or `n`
rounding : answers 32 (
    after-S ((b "F" ∷ b "t" ∷ []) ∷ [])
    ∷ after-S ((b "F" ∷ b "n" ∷ []) ∷ [])
    ∷ after-S ((b "F" ∷ b "n" ∷ []) ∷ (b "F" ∷ b "n" ∷ []) ∷ [])
    ∷ text ((b "F" ∷ b "n" ∷ []) ∷ whole)
    ∷ text (take 2 whole ++ (b "F" ∷ b "n" ∷ []) ∷ drop 2 whole)
    ∷ after-S ((b "F" ∷ b "x" ∷ []) ∷ [])
    ∷ after-S ((b "F" ∷ []) ∷ [])
    ∷ text (take 1 whole ++ (b "F" ∷ b "t" ∷ []) ∷ [])
    ∷ text (take 1 whole ++ (b "F" ∷ b "t" ∷ []) ∷ drop 3 whole)
    ∷ []
    )
    ≡ (0, 0) ∷ (0, 0) ∷ (1, 3) ∷ (1, 1) ∷ (1, 3) ∷ (1, 2) ∷ (1, 2) ∷ (7, 3) ∷ (1, 3) ∷ []
unfolding answer
rounding = refl

-- M-102: `A` after `S` or `F`, once, with `m` or `o`, and no `F` after it
starting : answers 32 (
    after-S ((b "A" ∷ b "m" ∷ []) ∷ [])
    ∷ after-S ((b "F" ∷ b "t" ∷ []) ∷ (b "A" ∷ b "o" ∷ []) ∷ [])
    ∷ after-S ((b "A" ∷ b "o" ∷ []) ∷ (b "F" ∷ b "t" ∷ []) ∷ [])
    ∷ after-S ((b "A" ∷ b "m" ∷ []) ∷ (b "A" ∷ b "m" ∷ []) ∷ [])
    ∷ text ((b "A" ∷ b "m" ∷ []) ∷ whole)
    ∷ text (take 2 whole ++ (b "A" ∷ b "m" ∷ []) ∷ drop 2 whole)
    ∷ after-S ((b "A" ∷ b "t" ∷ []) ∷ [])
    ∷ after-S ((b "A" ∷ b "M" ∷ []) ∷ [])
    ∷ after-S ((b "A" ∷ b "m" ∷ b "m" ∷ []) ∷ [])
    ∷ text (take 1 whole ++ (b "A" ∷ b "o" ∷ []) ∷ [])
    ∷ text (take 1 whole ++ (b "A" ∷ b "o" ∷ []) ∷ drop 3 whole)
    ∷ []
    )
    ≡ (0, 0) ∷ (0, 0) ∷ (1, 3) ∷ (1, 3) ∷ (1, 1) ∷ (1, 3) ∷ (1, 2) ∷ (1, 2) ∷ (1, 2) ∷ (7, 3) ∷ (1, 3) ∷ []
unfolding answer
starting = refl

-- the line `H` with these counts, and the example with these iteration counts and lines after `S`
abbrev held_row : String → String → String → List (List ℕ)
held_row k l m = b "H" ∷ b k ∷ b l ∷ b m ∷ []

abbrev counted : String → String → String → List (List (List ℕ)) → List ℕ
counted k l m rows = text (take 1 (edit 0 7 k (edit 0 8 l (edit 0 9 m whole))) ++ rows ++ drop 1 whole)

-- M-108: `H` after `S`, `F` or `A`, once, with three counts, and no setting after it
holding_places : answers 32 (
    after-S (held_row "0" "0" "0" ∷ [])
    ∷ after-S ((b "F" ∷ b "t" ∷ []) ∷ (b "A" ∷ b "o" ∷ []) ∷ held_row "0" "0" "0" ∷ [])
    ∷ after-S (held_row "0" "0" "0" ∷ (b "A" ∷ b "m" ∷ []) ∷ [])
    ∷ after-S (held_row "0" "0" "0" ∷ (b "F" ∷ b "t" ∷ []) ∷ [])
    ∷ after-S (held_row "0" "0" "0" ∷ held_row "0" "0" "0" ∷ [])
    ∷ text (held_row "0" "0" "0" ∷ whole)
    ∷ text (take 2 whole ++ held_row "0" "0" "0" ∷ drop 2 whole)
    ∷ after-S ((b "H" ∷ b "0" ∷ b "0" ∷ []) ∷ [])
    ∷ text (take 1 whole ++ held_row "0" "0" "0" ∷ [])
    ∷ []
    )
    ≡ (0, 0) ∷ (0, 0) ∷ (1, 3) ∷ (1, 3) ∷ (1, 3) ∷ (1, 1) ∷ (1, 3) ∷ (1, 2) ∷ (7, 3) ∷ []
unfolding answer
holding_places = refl

-- at its field: spelling 1, above its iterations 17, then the next field; a count above 1,000 is 17 too. One channel is measured by
-- place in either mode, spare counts too
holding_counts : answers 32 (
    counted "0" "0" "0" (held_row "1" "x" "0" ∷ [])
    ∷ counted "0" "0" "0" (held_row "x" "1" "0" ∷ [])
    ∷ counted "0" "0" "0" (held_row "1001" "0" "0" ∷ [])
    ∷ counted "0" "0" "0" (held_row "1000000" "0" "0" ∷ [])
    ∷ counted "2" "1" "0" (held_row "2" "1" "0" ∷ [])
    ∷ counted "2" "0" "0" (held_row "2" "1" "0" ∷ [])
    ∷ counted "2" "0" "0" (held_row "2" "0" "1" ∷ [])
    ∷ text (take 1 (edit 0 6 "j" (edit 0 7 "2" whole)) ++ held_row "2" "2" "0" ∷ drop 1 whole)
    ∷ []
    )
    ≡ (17, 2) ∷ (1, 2) ∷ (17, 2) ∷ (1, 2) ∷ (0, 0) ∷ (17, 2) ∷ (17, 2) ∷ (17, 2) ∷ []
unfolding answer
holding_counts = refl

-- with three channels in joint mode all three are measured against the first, in separate mode each by its place
abbrev three_channels : String → String → List (List (List ℕ)) → List ℕ
three_channels mode k rows =
    text (take 1 (edit 0 5 "3" (edit 0 6 mode (edit 0 7 k whole))) ++ rows ++ take 2 (drop 1 whole) ++ take 2 (drop 1 whole) ++ drop 1 whole)

holding_joint : answers 32 (
    three_channels "j" "1" (held_row "0" "1" "1" ∷ [])
    ∷ three_channels "s" "1" (held_row "0" "1" "0" ∷ [])
    ∷ three_channels "s" "1" (held_row "1" "0" "0" ∷ [])
    ∷ three_channels "j" "1" (held_row "1" "1" "2" ∷ [])
    ∷ []
    )
    ≡ (0, 0) ∷ (17, 2) ∷ (0, 0) ∷ (17, 2) ∷ []
unfolding answer
holding_joint = refl

-- the line `N` with these numbers, and the example with these lines before `E`
abbrev mark_row : String → String → String → List (List ℕ)
mark_row c r k = b "N" ∷ b c ∷ b r ∷ b k ∷ []

abbrev before-E : List (List (List ℕ)) → List ℕ
before-E rows = text (take 3 whole ++ rows ++ drop 3 whole)

-- M-110: after the last block line, any number; all three spellings first, then 18: channel or block absent, or marked twice
marking : answers 32 (
    before-E (mark_row "0" "0" "0" ∷ [])
    ∷ before-E (mark_row "9" "x" "0" ∷ [])
    ∷ before-E (mark_row "1" "0" "0" ∷ [])
    ∷ before-E (mark_row "0" "1" "0" ∷ [])
    ∷ before-E (mark_row "0" "0" "1" ∷ [])
    ∷ before-E (mark_row "-1" "0" "0" ∷ [])
    ∷ before-E (mark_row "0" "0" "0" ∷ mark_row "0" "0" "0" ∷ [])
    ∷ text (take 2 whole ++ mark_row "0" "0" "0" ∷ drop 2 whole)
    ∷ after-S (mark_row "0" "0" "0" ∷ [])
    ∷ text (take 3 whole ++ mark_row "0" "0" "0" ∷ [])
    ∷ []
    )
    ≡ (0, 0) ∷ (1, 4) ∷ (18, 4) ∷ (18, 4) ∷ (18, 4) ∷ (1, 4) ∷ (18, 5) ∷ (1, 3) ∷ (1, 2) ∷ (7, 5) ∷ []
unfolding answer
marking = refl

-- M-106: on a page of 50 iterations; spelling 1, above 1,000 2, above the limit 15, then the next field; spare counts too;
-- a limit above 1,000 is 2 at line 0, before the text is read
unfoldable paged : ℕ → List ℕ → ℕ × ℕ
unfolding read_text blank line_tag taken_if record_of header_of channel_of hold_of mark_of measured block_of has_block exists line_fault fields_fault rules_of number_at weight_at number_of bit_form weight_of level_of field_of
paged most t = answer_of (read_text (record { side = 32; iterations = most }) t)

page : (paged 50 (one 0 7 "50") ≡ (0, 0)) × (paged 50 (one 0 7 "51") ≡ (15, 1)) × (paged 50 (one 0 7 "1001") ≡ (2, 1)) × (paged 50 (two 0 7 "51" 0 8 "x") ≡ (15, 1)) × (paged 50 (one 0 9 "51") ≡ (15, 1)) × (paged 1001 (b "x") ≡ (2, 0))
    × (paged 65586 (b "x") ≡ (2, 0)) × (paged 0 (text whole) ≡ (0, 0))
unfolding paged
page = (refl, refl, refl, refl, refl, refl, refl, refl)

-- M-105: the whole example with the line `G` that begins with these fields and goes on with zeros
abbrev ranged : List String → List ℕ
ranged ss = text (take 2 whole ++ (b "G" ∷ (map b ss ++ replicate (128 - length ss) (b "0"))) ∷ drop 3 whole)

-- low: spelling, ±2,047; high: spelling, ±2,047; then low above high, then the next pair
ranges : answers 32 (
    ranged ("1" ∷ "4" ∷ [])
    ∷ ranged ("-4" ∷ "-1" ∷ [])
    ∷ ranged ("2" ∷ "1" ∷ "x" ∷ "0" ∷ [])
    ∷ ranged ("2" ∷ "1" ∷ "2048" ∷ "2048" ∷ [])
    ∷ ranged ("2048" ∷ "0" ∷ "2" ∷ "1" ∷ [])
    ∷ ranged ("5" ∷ "-2048" ∷ [])
    ∷ ranged ("2048" ∷ "x" ∷ [])
    ∷ ranged ("5" ∷ "-0" ∷ [])
    ∷ ranged ("2048" ∷ "2047" ∷ [])
    ∷ ranged ("0" ∷ "0" ∷ "0" ∷ "-1" ∷ [])
    ∷ []
    )
    ≡ (0, 0) ∷ (0, 0) ∷ (14, 3) ∷ (14, 3) ∷ (5, 3) ∷ (5, 3) ∷ (5, 3) ∷ (1, 3) ∷ (5, 3) ∷ (14, 3) ∷ []
unfolding answer
ranges = refl

-- lows and highs; equal pairs leave what the line `B` leaves
range_reads : read_text (at 32) (ranged ("1" ∷ "4" ∷ [])) ≡ contents whole_sheet (held (lent (first 1) (first 4) (replicate 64 8)) (true ∷ []) [])
unfolding read_text blank line_tag taken_if record_of header_of channel_of line_fault fields_fault rules_of number_at weight_at number_of bit_form weight_of level_of field_of
range_reads = refl

equal_reads : read_text (at 32) (ranged ("1" ∷ "1" ∷ [])) ≡ contents whole_sheet (held (lent (first 1) (first 1) (replicate 64 8)) (true ∷ []) [])
unfolding read_text blank line_tag taken_if record_of header_of channel_of line_fault fields_fault rules_of number_at weight_at number_of bit_form weight_of level_of field_of
equal_reads = refl

-- the tag decides the count; `G` nowhere but where `B` may stand
range_places : answers 32 (
    text (take 2 whole ++ (b "G" ∷ replicate 64 (b "0")) ∷ drop 3 whole)
    ∷ text (take 2 whole ++ (b "B" ∷ replicate 128 (b "0")) ∷ drop 3 whole)
    ∷ text (take 1 whole ++ (b "G" ∷ replicate 128 (b "0")) ∷ drop 1 whole)
    ∷ text (take 3 whole ++ (b "G" ∷ replicate 128 (b "0")) ∷ drop 3 whole)
    ∷ text ((b "G" ∷ replicate 128 (b "0")) ∷ whole)
    ∷ []
    )
    ≡ (1, 3) ∷ (1, 3) ∷ (1, 2) ∷ (1, 4) ∷ (1, 1) ∷ []
unfolding answer
range_places = refl

-- measuring gives both lengths; reading refuses other lengths, last
unfoldable lengths_in : ℕ → List ℕ → Outcome Lengths
unfolding read_text blank line_tag taken_if record_of header_of channel_of line_fault fields_fault rules_of number_at weight_at number_of bit_form weight_of level_of field_of
lengths_in side t = measuring (at side) t

lengths : lengths_in 32 (text whole) ≡ Gives (record { levels = 64; tables = 64 })
unfolding lengths_in
lengths = refl

unfoldable reads : ℕ → List ℕ → ℕ → ℕ → ℕ → ℕ × ℕ
unfolding read_text blank line_tag taken_if record_of header_of channel_of line_fault fields_fault rules_of number_at weight_at number_of bit_form weight_of level_of field_of
reads side t n h m = answer_of (reading (at side) t (lent (replicate n (pos 7)) (replicate h (pos 7)) (replicate m 7)))

other_lengths : (reads 32 (text whole) 64 64 64 ≡ (0, 0)) × (reads 32 (text whole) 63 64 64 ≡ (8, 0)) × (reads 32 (text whole) 64 63 64 ≡ (8, 0)) × (reads 32 (text whole) 64 64 65 ≡ (8, 0)) × (reads 32 (text whole ++ 10 ∷ []) 63 64 64 ≡ (7, 5))
unfolding reads
other_lengths = (refl, refl, refl, refl, refl)

-- so many bytes decide any text of `smooth`
pub decides_at_32 : decisive 32 ≡ 39294
unfolding decisive longest decimal
decides_at_32 = refl
