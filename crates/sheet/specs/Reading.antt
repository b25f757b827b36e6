-- What a whole text means: the sheet with its levels and tables, or the first refusal with its line.
use Rattle.std.specs.Prelude.{ℕ, ◌+◌, List, [], ◌∷◌, Bool, true, false, cond, ◌&&◌, length, eqb, leb, ltb, Some, None, Ok, Err, Option, Result}
use Rattle.refusal.specs.declared.Refusal.{Refusal}
use Rattle.refusal.specs.Refusal as table
use Rattle.text.specs.declared.field.Rule.{Rule}
use Rattle.text.specs.Pieces.{split}
use Rattle.text.specs.Fields.{is_side}
use Rattle.contents.specs.declared.Limits.{Limits}
use Rattle.contents.specs.declared.Sheet.{Sheet}
use Rattle.lines.specs.declared.Record.{Record}
use Rattle.lines.specs.declared.Record.TheVariants as line
use Rattle.progress.specs.declared.State.{State}
use Rattle.lines.specs.Lines.{rules_of, fields_fault, holding, record_of}
use Rattle.contents.specs.Marks.{block_of, among}
use Rattle.contents.specs.Sheets.{Marked, Held, nothing}
use Rattle.progress.specs.Progress.{blank, line_tag, taken_if}

-- What a call or a text gives: its values, or a number of the paper's table and the line, counted from 1
pub data Outcome (A : Type 0) : Type 0 where
  Gives : A → Outcome A
  Refused : ℕ → ℕ → Outcome A

-- What a legal text holds
pub record Contents : Type 0 where
  pub sheet : Sheet
  pub held : Held

abbrev pub contents : Sheet → Held → Outcome Contents
contents s h = Gives (record { sheet = s; held = h })

-- its block is marked already
abbrev pub is_twice : Sheet → List Marked → Record → Bool
is_twice s ms (line.Header h) = false
is_twice s ms (line.Channel c) = false
is_twice s ms (line.Setting x) = false
is_twice s ms line.Block = false
is_twice s ms (line.Mark m) = among (block_of s m) ms

abbrev pub taken_of : State → List Marked → Record → Result State Refusal
taken_of s ms rec = taken_if s (is_twice s.sheet ms rec) rec

-- The line p is the last piece: unended, or nothing at all
abbrev pub is_last : List (List ℕ) → Bool
is_last [] = true
is_last (p ∷ ps) = false

-- "In any other line: 1 if over 1,024 bytes, 7 if unended, then tag and field count (1), then fields left to right": the
-- fault of the line p, before those in rest, by the rules rs. "For 7 it is the unended line, the one after the last when
-- `E` is missing": both are the last piece.
unfoldable pub line_fault : List Rule → List ℕ → List (List ℕ) → Option ℕ
line_fault rs p rest =
    cond (ltb 1024 (length p)) (Some 1) (cond (is_last rest) (Some 7) (fields_fault rs (split 9 p)))

-- "A byte after `E` is 7", at "the one after `E`"
abbrev pub nothing_left : List (List ℕ) → Bool
nothing_left [] = true
nothing_left ([] ∷ []) = true
nothing_left ([] ∷ (q ∷ qs)) = false
nothing_left ((x ∷ p) ∷ qs) = false

-- "Reading stops at the first bad field of the first bad line"
abbrev pub on_fault : {A : Type 0} → Option ℕ → ℕ → Outcome A → Outcome A
on_fault None at more = more
on_fault (Some k) at more = Refused k at

abbrev pub on_taken : {A : Type 0} → Result State Refusal → ℕ → (State → Outcome A) → Outcome A
on_taken (Ok s) at more = more s
on_taken (Err k) at more = Refused (table.number_of k) at

-- The text from line `at` on, as its pieces, after what was read so far. Levels and quantisers stand in the order of the
-- text: "blocks and values row by row, not zigzag".
abbrev pub read_from : Limits → State → Held → ℕ → List (List ℕ) → Outcome Contents
read_from limits s h at [] = Refused 7 at
read_from limits s h at (p ∷ rest) =
    let fs = split 9 p in
    let tag = line_tag s fs in
    let rs = rules_of tag limits s.sheet.header fs in
    on_fault (line_fault rs p rest) at
    (cond (eqb tag 69)
    (cond (nothing_left rest) (contents s.sheet h) (Refused 7 (at + 1)))
    (on_taken (taken_of s h.marks (record_of tag fs)) at (λ t. read_from limits t (holding h s.sheet tag rs fs) (at + 1) rest)))

-- What a caller may allow: a side limit that could be a side, and a limit of iterations "from 0 to 1,000" (M-106)
abbrev pub allowed : Limits → Bool
allowed limits = is_side 512 limits.side && leb limits.iterations 1000

-- A text at the caller's limits. The side limit is 512 in the library; "W and H above 32 are 2 there, at that field" in `smooth`.
-- "a parameter above 1,000 is 2, line 0, before the text is read", and so is a side limit that no caller may set.
unfoldable pub read_text : Limits → List ℕ → Outcome Contents
read_text limits text = cond (allowed limits) (read_from limits blank nothing 1 (split 10 text)) (Refused 2 0)
