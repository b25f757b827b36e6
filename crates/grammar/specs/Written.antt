-- A sheet written as text: the text that reads as it, for every legal sheet (proofs/RoundTrip.antt).
use Rattle.std.specs.Prelude.{ℕ, ◌*◌, ◌/◌, List, [], ◌∷◌, ◌++◌, map, Bool, true, false, cond, take, drop, get_or, ℤ, Option, Some, None}
use Rattle.text.specs.Written.{weight_text, level_text}
use Rattle.digits.specs.Written.{decimal, joined, ended}
use Rattle.contents.specs.declared.Letter.{Letter}
use Rattle.contents.specs.declared.Letter.TheVariants as letters
use Rattle.contents.specs.declared.Header.{Header}
use Rattle.contents.specs.declared.Settings.{Settings}
use Rattle.contents.specs.declared.Channel.{Channel}
use Rattle.contents.specs.declared.Mark.{Mark}
use Rattle.contents.specs.declared.Sheet.{Sheet}
use Rattle.contents.specs.Hold.{iterations_at}
use Rattle.contents.specs.Sheets.{lent, Marked, Held, held, smoothing_at, data_at, channels_of}
use Rattle.lines.specs.declared.Setting.{Setting}
use Rattle.lines.specs.declared.Setting.TheVariants as setting

-- The fields of each line
abbrev pub header_fields : Header → List (List ℕ)
header_fields h =
    (83 ∷ [])
    ∷ decimal h.width ∷ decimal h.height
    ∷ decimal h.picture_width ∷ decimal h.picture_height
    ∷ decimal h.channels ∷ (cond h.joint 106 115 ∷ [])
    ∷ decimal (iterations_at h 0) ∷ decimal (iterations_at h 1) ∷ decimal (iterations_at h 2)
    ∷ weight_text (smoothing_at h 0) ∷ weight_text (smoothing_at h 1) ∷ weight_text (smoothing_at h 2)
    ∷ weight_text (data_at h 0) ∷ weight_text (data_at h 1) ∷ weight_text (data_at h 2)
    ∷ []

abbrev pub channel_fields : Channel → List ℕ → List (List ℕ)
channel_fields c qs = (67 ∷ []) ∷ decimal c.width ∷ decimal c.height ∷ decimal c.across ∷ decimal c.down ∷ map decimal qs

-- "64 pairs, low then high"
abbrev pub pair_texts : List ℤ → List ℤ → List (List ℕ)
pair_texts [] hs = []
pair_texts (l ∷ ls) [] = []
pair_texts (l ∷ ls) (h ∷ hs) = level_text l ∷ level_text h ∷ pair_texts ls hs

-- a block, ranged or not
abbrev pub block_fields : Bool → List ℤ → List ℤ → List (List ℕ)
block_fields false ls hs = (66 ∷ []) ∷ map level_text ls
block_fields true ls hs = (71 ∷ []) ∷ pair_texts ls hs

-- "channel, block row and block column"
abbrev pub mark_fields : Mark → List (List ℕ)
mark_fields m = (78 ∷ []) ∷ decimal m.channel ∷ decimal m.row ∷ decimal m.column ∷ []

abbrev pub end_fields : List (List ℕ)
end_fields = (69 ∷ []) ∷ []

-- the line of a setting with the letters a and b
abbrev pub choice_lines : ℕ → ℕ → ℕ → Letter → List (List ℕ)
choice_lines tag a b letters.First = joined ((tag ∷ []) ∷ (a ∷ []) ∷ []) ∷ []
choice_lines tag a b letters.Second = joined ((tag ∷ []) ∷ (b ∷ []) ∷ []) ∷ []

-- the line of the three held counts
abbrev pub hold_fields : List ℕ → List (List ℕ)
hold_fields l = (72 ∷ []) ∷ decimal (get_or l 0 0) ∷ decimal (get_or l 1 0) ∷ decimal (get_or l 2 0) ∷ []

abbrev pub hold_lines : List ℕ → List (List ℕ)
hold_lines l = joined (hold_fields l) ∷ []

-- the line of a setting, that of one that a line may say, and all settings in their order
abbrev pub setting_line : Setting → List (List ℕ)
setting_line (setting.Rounding r) = choice_lines 70 116 110 r
setting_line (setting.Start a) = choice_lines 65 109 111 a
setting_line (setting.Hold l) = hold_lines l

abbrev pub line_if : {A : Type 0} → (A → Setting) → Option A → List (List ℕ)
line_if make None = []
line_if make (Some x) = setting_line (make x)

abbrev pub setting_lines : Settings → List (List ℕ)
setting_lines x = line_if setting.Rounding x.rounding ++ (line_if setting.Start x.start ++ line_if setting.Hold x.hold)

-- blocks of these kinds, one after the other
abbrev pub block_lines : List Bool → List ℤ → List ℤ → List (List ℕ)
block_lines [] ls hs = []
block_lines (r ∷ rs) ls hs = joined (block_fields r (take 64 ls) (take 64 hs)) ∷ block_lines rs (drop 64 ls) (drop 64 hs)

-- what is left after n blocks and m quantisers
abbrev pub drop_held : ℕ → ℕ → Held → Held
drop_held n m h =
    held (lent (drop (64 * n) h.lent.lows) (drop (64 * n) h.lent.highs) (drop m h.lent.tables)) (drop n h.ranged) []

-- the channels with their tables and levels, one after the other
abbrev pub channel_lines : List Channel → Held → List (List ℕ)
channel_lines [] h = []
channel_lines (c ∷ cs) h =
    let n = c.width * c.height / 64 in
    joined (channel_fields c (take 64 h.lent.tables))
    ∷ (block_lines (take n h.ranged) h.lent.lows h.lent.highs ++ channel_lines cs (drop_held n 64 h))

-- the marks, one after the other
abbrev pub mark_lines : List Marked → List (List ℕ)
mark_lines [] = []
mark_lines (m ∷ ms) = joined (mark_fields m.at) ∷ mark_lines ms

unfoldable pub written : Sheet → Held → List ℕ
unfolding decimal weight_text level_text
written s h = ended (joined (header_fields s.header) ∷ (setting_lines s.settings ++ (channel_lines (channels_of s) h ++ (mark_lines h.marks ++ joined end_fields ∷ []))))
