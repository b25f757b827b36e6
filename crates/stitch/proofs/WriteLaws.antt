-- What is written, part after part.
use Prim.Native.Nat.{ℕ, zero, suc, ◌+◌, ◌<◌, ◌≤◌}
use mathlib.Core.Path.{◌≡◌, refl, sym, ap, ◌∙◌}
use mathlib.Core.List.{List, [], ◌∷◌, ◌++◌, append-nil, append_assoc}
use mathlib.Core.Logic.{◌⊎◌, ⊎_elim}
use native.Mathlib.Omega.{arith}
use lib.ListN.{length, take, length-append, length-take}
use Rattle.text.specs.declared.pieces.Line.{Line}
use Rattle.text.specs.Pieces.{split, before}
use Rattle.text.specs.Cursor.{IsLine}
use Rattle.text.proofs.PieceLaws.{before_le, before_take}
use Rattle.lines.specs.Lines.{mark_of}
use Rattle.contents.specs.declared.Channel.{Channel}
use Rattle.contents.specs.declared.Sheet.{Sheet}
use Rattle.digits.specs.Written.{decimal}
use Rattle.copying.specs.Parts.{up_to, past}
use Rattle.stitch.specs.Stitched.{moved_by}
use Rattle.stitch.specs.Bytes.{front_mark, moved_line, moved_lines, head_left, said_lines, last_text, pairs_text, open_text, stitch_text, in_use_text}
use Rattle.contents.specs.Sheets.{channels_of}
use Rattle.seam.specs.Used.{used_of}

-- The mark of a text's first line

module _ (text : List ℕ) (line : Line) (l : IsLine text line) where
  pub line_inside : line.length ≡ length (take line.length text)
  line_inside = omega (arith, l.long, before_le 10 text, length-take {A = ℕ} line.length text)

  line_row : take line.length text ≡ before 10 text
  line_row = let e : line.length ≡ length (before 10 text) = omega (arith, l.long) in ap (λ (k : ℕ). take k text) e ∙ before_take 10 text

  pub line_mark : mark_of (split 9 (take line.length text)) ≡ front_mark text
  unfolding front_mark
  line_mark = ap (λ (row : List ℕ). mark_of (split 9 row)) line_row

-- a mark's line
pub line_long : (s : Sheet) (ys : List ℕ) → length (moved_line s ys) ≡ length (up_to 9 3 ys) + (length (decimal (moved_by s (front_mark ys)).column) + 1)
unfolding moved_line
line_long s ys = simp length-append

-- what follows n lines
abbrev pub past_lines : ℕ → List ℕ → List ℕ
past_lines zero ys = ys
past_lines (suc n) ys = past_lines n (past 10 1 ys)

pub lines_past : (n : ℕ) (ys : List ℕ) → past_lines (suc n) ys ≡ past 10 1 (past_lines n ys)
lines_past zero ys = refl
lines_past (suc n) ys = lines_past n (past 10 1 ys)

pub lines_more : (s : Sheet) (n : ℕ) (ys : List ℕ) → moved_lines s (suc n) ys ≡ moved_lines s n ys ++ moved_line s (past_lines n ys)
lines_more s zero ys = append-nil (moved_line s ys)
lines_more s (suc n) ys = ap (λ (l : List ℕ). moved_line s ys ++ l) (lines_more s n (past 10 1 ys)) ∙ sym (append_assoc (moved_line s ys) (moved_lines s n (past 10 1 ys)) (moved_line s (past_lines n (past 10 1 ys))))

lines_long : (s : Sheet) (m n : ℕ) (ys : List ℕ) → m ≤ n → length (moved_lines s m ys) ≤ length (moved_lines s n ys)
lines_long s zero n ys h = omega arith
lines_long s (suc m) zero ys h = absurd (omega arith)
lines_long s (suc m) (suc n) ys h = let e = lines_long s m n (past 10 1 ys) (omega arith) in simp length-append (omega arith)

-- the next line has room where all have
pub lines_room : (s : Sheet) (m n : ℕ) (ys : List ℕ) → m < n → length (moved_lines s m ys) + length (moved_line s (past_lines m ys)) ≤ length (moved_lines s n ys)
lines_room s m n ys h =
    let e = ap length (lines_more s m ys) ∙ length-append (moved_lines s m ys) (moved_line s (past_lines m ys)) in
    omega (arith, e, lines_long s (suc m) n ys (omega arith))

-- The channels

pub pairs_end : (s : Sheet) (cs ds : List Channel) (xs ys : List ℕ) → (length cs ≡ 0) ⊎ (length ds ≡ 0) → pairs_text s cs ds xs ys ≡ last_text s xs ys
pairs_end s [] ds xs ys e = refl
pairs_end s (c ∷ cs) [] xs ys e = refl
pairs_end s (c ∷ cs) (d ∷ ds) xs ys e = ⊎_elim (λ p. absurd (omega arith)) (λ p. absurd (omega arith)) e

-- The whole text

pub stitch_long : (s t : Sheet) (xs ys : List ℕ)
    → length (stitch_text s t xs ys)
    ≡ length (open_text s t xs)
    + length (pairs_text s (used_of s.header.channels s) (used_of s.header.channels t)
    (head_left (said_lines s.settings) xs) (past 10 (said_lines t.settings + 1) ys))
unfolding stitch_text
stitch_long s t xs ys =
    length-append (open_text s t xs)
    (pairs_text s (used_of s.header.channels s) (used_of s.header.channels t)
    (head_left (said_lines s.settings) xs) (past 10 (said_lines t.settings + 1) ys))

pub in_use_long : (s t : Sheet) (xs ys : List ℕ)
    → length (in_use_text s t xs ys)
    ≡ length (open_text s t xs)
    + length (pairs_text s (channels_of s) (channels_of t) (head_left (said_lines s.settings) xs) (past 10 (said_lines t.settings + 1) ys))
unfolding in_use_text
in_use_long s t xs ys =
    length-append (open_text s t xs) (pairs_text s (channels_of s) (channels_of t) (head_left (said_lines s.settings) xs) (past 10 (said_lines t.settings + 1) ys))
