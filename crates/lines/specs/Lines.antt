-- The lines of a sheet: the rule of each field, left to right, and what a good line says.
use Rattle.refusal.specs.declared.Refusal.{Refusal}
use Rattle.refusal.specs.declared.Refusal.TheVariants as refusal
use Rattle.std.specs.Prelude.{ℕ, zero, suc, List, [], ◌∷◌, ◌++◌, Bool, true, false, cond, length, get_or, drop, replicate, eqb, Some, None, Option, Result}
use Rattle.text.specs.declared.field.Rule.{Rule}
use Rattle.text.specs.declared.field.Rule.TheVariants as rule
use Rattle.text.specs.declared.field.Field.{Field}
use Rattle.text.specs.Numbers.{number_at}
use Rattle.text.specs.Weights.{weight_at}
use Rattle.text.specs.Levels.{level_of, level_value}
use Rattle.text.specs.Fields.{letter, field_of, fault_in, lows_in, highs_in, tables_in}
use Rattle.contents.specs.declared.Limits.{Limits}
use Rattle.contents.specs.declared.Letter.{Letter}
use Rattle.contents.specs.declared.Letter.TheVariants as letters
use Rattle.lines.specs.declared.Tag.{Tag}
use Rattle.lines.specs.declared.Tag.TheVariants as tags
use Rattle.contents.specs.declared.Header.{Header}
use Rattle.contents.specs.declared.Channel.{Channel}
use Rattle.contents.specs.declared.Mark.{Mark}
use Rattle.contents.specs.declared.Sheet.{Sheet}
use Rattle.lines.specs.declared.Setting.TheVariants as setting
use Rattle.lines.specs.declared.Record.{Record}
use Rattle.lines.specs.declared.Record.TheVariants as line
use Rattle.contents.specs.Sheets.{lent, Marked, marked, Held, held}
use Rattle.contents.specs.Marks.{block_of}
use Rattle.contents.specs.Hold.{measured}

-- a line's letter: S (83), F (70), A (65), H (72), C (67), B (66), G (71), N (78) or E (69)
abbrev pub letter_of : Tag → ℕ
letter_of tags.Header = 83
letter_of tags.Rounding = 70
letter_of tags.Start = 65
letter_of tags.Hold = 72
letter_of tags.Channel = 67
letter_of tags.Block = 66
letter_of tags.Range = 71
letter_of tags.Mark = 78
letter_of tags.End = 69

-- "three iteration counts (0 to 1,000)", by the caller's limit
abbrev pub count : Limits → Rule
count limits = rule.Count limits.iterations

-- "across and down factors (1 to 4)", else 3
abbrev pub factor : Rule
factor = rule.Range refusal.Factor 1 4

-- "own width w and height h (multiples of 8, at least 8)", else 2: a number has at most six digits, so 999,999 is no bound
abbrev pub own_side : Rule
own_side = rule.Side 999999

-- "mode `j` joint or `s` separate"
abbrev pub mode : Rule
mode = rule.Letters 106 115

-- "`S`, full width W, full height H (multiples of 8, 8 to 512), picture width and height (1 to W, 1 to H), channels (1 or 3),
-- mode `j` joint or `s` separate, three iteration counts (0 to 1,000), three smoothing weights, three data weights." The
-- caller's side stands for 512, and the caller's iterations limit all three counts (M-106). Spare fields have their rule too: "spare fields must
-- be legal".
abbrev pub header_rules : Limits → List (List ℕ) → List Rule
header_rules limits fs =
    rule.Tag 83
    ∷ rule.Side limits.side ∷ rule.Side limits.side
    ∷ rule.Range refusal.Size 1 (number_at fs 1) ∷ rule.Range refusal.Size 1 (number_at fs 2)
    ∷ rule.Channels ∷ mode
    ∷ count limits ∷ count limits ∷ count limits
    ∷ replicate 6 rule.Weight

-- a setting with one of two letters
abbrev pub choice_rules : ℕ → ℕ → ℕ → List Rule
choice_rules tag a b = rule.Tag tag ∷ rule.Letters a b ∷ []

-- "A line `F` with `t` or `n`" (M-100)
abbrev pub rounding_rules : List Rule
rounding_rules = choice_rules 70 116 110

-- "A line `A` with `m` or `o`" (M-102)
abbrev pub start_rules : List Rule
start_rules = choice_rules 65 109 111

-- "A line `H` with three step counts"; "17 "hold", a count above the iterations, at its field", by the iterations that it is measured
-- against (M-108). A number is at least 0.
abbrev pub held_most : Header → ℕ → Rule
held_most h c = rule.Range refusal.Hold 0 (measured h c)

abbrev pub hold_rules : Header → List Rule
hold_rules h = rule.Tag 72 ∷ held_most h 0 ∷ held_most h 1 ∷ held_most h 2 ∷ []

-- "`C`, own width w and height h, across and down factors, 64 quantisers"
abbrev pub channel_rules : List Rule
channel_rules = rule.Tag 67 ∷ own_side ∷ own_side ∷ factor ∷ factor ∷ replicate 64 rule.Quantiser

-- "lines `B` with 64 levels"
abbrev pub block_rules : List Rule
block_rules = rule.Tag 66 ∷ replicate 64 rule.Level

-- the rules of n pairs with the fields fs: a high's rule knows its low
abbrev pub pair_rules : ℕ → List (List ℕ) → List Rule
pair_rules zero fs = []
pair_rules (suc n) fs = rule.Low ∷ rule.High (level_value (level_of (get_or fs 0 []))) ∷ pair_rules n (drop 2 fs)

-- "`G` with 64 pairs, low then high" (M-105)
abbrev pub range_rules : List (List ℕ) → List Rule
range_rules fs = rule.Tag 71 ∷ pair_rules 64 (drop 1 fs)

-- "A line `N` with channel, block row and block column (from 0)" (M-110): "after the whole line's form" it is seen whether there is such
-- a block, so here any number will do, and a number has at most six digits
abbrev pub any_number : Rule
any_number = rule.Range refusal.Form 0 999999

abbrev pub mark_rules : List Rule
mark_rules = rule.Tag 78 ∷ any_number ∷ any_number ∷ any_number ∷ []

-- "`E` alone ends it."
abbrev pub end_rules : List Rule
end_rules = rule.Tag 69 ∷ []

-- the rules of a line of this tag with the fields fs, after the header h
unfoldable pub rules_of : ℕ → Limits → Header → List (List ℕ) → List Rule
rules_of tag limits h fs =
    cond (eqb tag 66) block_rules
    (cond (eqb tag 71) (range_rules fs)
    (cond (eqb tag 67) channel_rules
    (cond (eqb tag 83) (header_rules limits fs)
    (cond (eqb tag 70) rounding_rules
    (cond (eqb tag 65) start_rules
    (cond (eqb tag 72) (hold_rules h)
    (cond (eqb tag 78) mark_rules end_rules)))))))

-- how many fields that line must have
unfoldable pub field_count : ℕ → ℕ
field_count tag = cond (eqb tag 66) 65 (cond (eqb tag 71) 129 (cond (eqb tag 67) 69 (cond (eqb tag 83) 16 (cond (eqb tag 70) 2 (cond (eqb tag 65) 2 (cond (eqb tag 72) 4 (cond (eqb tag 78) 4 1)))))))

-- "fields left to right": the fault of the first bad field, if there is one
abbrev pub or_else : Option ℕ → Option ℕ → Option ℕ
or_else (Some k) later = Some k
or_else None later = later

abbrev pub first_fault : List Rule → List (List ℕ) → Option ℕ
first_fault [] fs = None
first_fault (r ∷ rs) [] = None
first_fault (r ∷ rs) (f ∷ fs) = or_else (fault_in (field_of r f)) (first_fault rs fs)

-- "then tag and field count (1), then fields left to right": a tag is its line's first field, so both are 1
unfoldable pub fields_fault : List Rule → List (List ℕ) → Option ℕ
fields_fault rs fs = cond (eqb (length fs) (length rs)) (first_fault rs fs) (Some 1)

-- What a line adds, field by field: to the lows, highs or tables, "values row by row"
abbrev pub line_adds : {A : Type 0} → (Result Field Refusal → List A) → List Rule → List (List ℕ) → List A
line_adds add [] fs = []
line_adds add (r ∷ rs) [] = []
line_adds add (r ∷ rs) (f ∷ fs) = add (field_of r f) ++ line_adds add rs fs

-- the kind of a block's line
abbrev pub kind_of : ℕ → List Bool
kind_of tag = cond (eqb tag 66) (false ∷ []) (cond (eqb tag 71) (true ∷ []) [])

-- what a line N marks
unfoldable pub mark_of : List (List ℕ) → Mark
mark_of fs = record { channel = number_at fs 1; row = number_at fs 2; column = number_at fs 3 }

abbrev pub marks_in : Sheet → ℕ → List (List ℕ) → List Marked
marks_in s tag fs = cond (eqb tag 78) (marked (mark_of fs) (block_of s (mark_of fs)) ∷ []) []

-- what was read so far of the sheet s, and a line more
abbrev pub holding : Held → Sheet → ℕ → List Rule → List (List ℕ) → Held
holding h s tag rs fs =
    held
    (lent (h.lent.lows ++ line_adds lows_in rs fs) (h.lent.highs ++ line_adds highs_in rs fs) (h.lent.tables ++ line_adds tables_in rs fs))
    (h.ranged ++ kind_of tag)
    (h.marks ++ marks_in s tag fs)

-- "A record is a header, channel or block line": what a good line holds besides
unfoldable pub header_of : List (List ℕ) → Header
header_of fs =
    record {
      width = number_at fs 1;
      height = number_at fs 2;
      picture_width = number_at fs 3;
      picture_height = number_at fs 4;
      channels = number_at fs 5;
      joint = letter 106 (get_or fs 6 []);
      iterations = number_at fs 7 ∷ number_at fs 8 ∷ number_at fs 9 ∷ [];
      smoothing = weight_at fs 10 ∷ weight_at fs 11 ∷ weight_at fs 12 ∷ [];
      data_weights = weight_at fs 13 ∷ weight_at fs 14 ∷ weight_at fs 15 ∷ [];
    }

unfoldable pub channel_of : List (List ℕ) → Channel
channel_of fs = record { width = number_at fs 1; height = number_at fs 2; across = number_at fs 3; down = number_at fs 4 }

-- a setting's letter: a, or the other
abbrev pub letter_in : ℕ → List ℕ → Letter
letter_in a f = cond (letter a f) letters.First letters.Second

unfoldable pub hold_of : List (List ℕ) → List ℕ
hold_of fs = number_at fs 1 ∷ number_at fs 2 ∷ number_at fs 3 ∷ []

unfoldable pub record_of : ℕ → List (List ℕ) → Record
record_of tag fs =
    cond (eqb tag 83) (line.Header (header_of fs))
    (cond (eqb tag 67) (line.Channel (channel_of fs))
    (cond (eqb tag 70) (line.Setting (setting.Rounding (letter_in 116 (get_or fs 1 []))))
    (cond (eqb tag 65) (line.Setting (setting.Start (letter_in 109 (get_or fs 1 []))))
    (cond (eqb tag 72) (line.Setting (setting.Hold (hold_of fs)))
    (cond (eqb tag 78) (line.Mark (mark_of fs)) line.Block)))))
