-- What the code copies, by tabs and line ends alone: xs is what is left of the left text, ys of the right. A theorem says that of two texts that fit
-- this is the text of the two sheets side by side, `as_copied` of proofs/TextLaws.antt.
use Rattle.std.specs.Prelude.{ℕ, zero, suc, ◌+◌, List, [], ◌∷◌, ◌++◌, Option, Some, None}
use Rattle.contents.specs.declared.Settings.{Settings}
use Rattle.contents.specs.declared.Channel.{Channel}
use Rattle.contents.specs.declared.Sheet.{Sheet}
use Rattle.contents.specs.Sheets.{channels_of}
use Rattle.contents.specs.declared.Mark.{Mark}
use Rattle.digits.specs.Written.{decimal}
use Rattle.text.specs.Pieces.{split, before}
use Rattle.lines.specs.Lines.{mark_of}
use Rattle.copying.specs.Parts.{up_to, past, count_of, refitted, after_two, channel_text, channel_left, channel_right}
use Rattle.seam.specs.Used.{used_of}
use Rattle.stitch.specs.Stitched.{rows_in, columns_in, moved_by}

-- the lines of a setting, and of all settings
abbrev pub lines_of : {A : Type 0} → Option A → ℕ
lines_of None = 0
lines_of (Some x) = 1

abbrev pub said_lines : Settings → ℕ
said_lines x = lines_of x.rounding + (lines_of x.start + lines_of x.hold)

-- the header's line with the widths w and p, and m lines after it
abbrev pub head_text : ℕ → ℕ → ℕ → List ℕ → List ℕ
head_text w p m xs = refitted w xs ++ (refitted p (after_two xs) ++ up_to 10 (m + 1) (after_two (after_two xs)))

abbrev pub head_left : ℕ → List ℕ → List ℕ
head_left m xs = past 10 (m + 1) (after_two (after_two xs))

-- a channel of both texts
abbrev pub pair_text : Channel → Channel → List ℕ → List ℕ → List ℕ
pair_text c d xs ys = channel_text (c.width + d.width) (rows_in c) (columns_in c) (columns_in d) xs ys

abbrev pub pair_left : Channel → List ℕ → List ℕ
pair_left c xs = channel_left (rows_in c) (columns_in c) xs

abbrev pub pair_right : Channel → Channel → List ℕ → List ℕ
pair_right c d ys = channel_right (rows_in c) (columns_in d) ys

-- the mark of a line, as it is read
unfoldable pub front_mark : List ℕ → Mark
unfolding mark_of
front_mark ys = mark_of (split 9 (before 10 ys))

-- its line with the column moved: three fields copied, and the moved column in place of the last
unfoldable pub moved_line : Sheet → List ℕ → List ℕ
unfolding decimal front_mark
moved_line s ys = up_to 9 3 ys ++ (decimal (moved_by s (front_mark ys)).column ++ 10 ∷ [])

-- n such lines
abbrev pub moved_lines : Sheet → ℕ → List ℕ → List ℕ
moved_lines s zero ys = []
moved_lines s (suc n) ys = moved_line s ys ++ moved_lines s n (past 10 1 ys)

-- what follows the last block: as many lines of the left text as there are bytes `N`, those of the right with their columns moved, the left's line `E`
abbrev pub last_text : Sheet → List ℕ → List ℕ → List ℕ
last_text s xs ys = up_to 10 (count_of 78 xs) xs ++ (moved_lines s (count_of 78 ys) ys ++ up_to 10 1 (past 10 (count_of 78 xs) xs))

-- all channels, and what follows the last block
abbrev pub pairs_text : Sheet → List Channel → List Channel → List ℕ → List ℕ → List ℕ
pairs_text s [] ds xs ys = last_text s xs ys
pairs_text s (c ∷ cs) [] xs ys = last_text s xs ys
pairs_text s (c ∷ cs) (d ∷ ds) xs ys = pair_text c d xs ys ++ pairs_text s cs ds (pair_left c xs) (pair_right c d ys)

-- the left text's header with the summed widths, and its settings
abbrev pub open_text : Sheet → Sheet → List ℕ → List ℕ
open_text s t xs = head_text (s.header.width + t.header.width) (s.header.picture_width + t.header.picture_width) (said_lines s.settings) xs

-- the whole text
unfoldable pub stitch_text : Sheet → Sheet → List ℕ → List ℕ → List ℕ
unfolding refitted moved_line
stitch_text s t xs ys =
    open_text s t xs
    ++ pairs_text s (used_of s.header.channels s) (used_of s.header.channels t)
    (head_left (said_lines s.settings) xs) (past 10 (said_lines t.settings + 1) ys)

-- the whole text of as many channels as the headers say: of sheets that fit, what `stitch_text` is
unfoldable pub in_use_text : Sheet → Sheet → List ℕ → List ℕ → List ℕ
unfolding refitted moved_line
in_use_text s t xs ys =
    open_text s t xs
    ++ pairs_text s (channels_of s) (channels_of t)
    (head_left (said_lines s.settings) xs) (past 10 (said_lines t.settings + 1) ys)
