-- What was read so far of a sheet: the tag that the next line is read by, and what a good line adds.
use Rattle.std.specs.Prelude.{ℕ, ◌+◌, ◌-◌, ◌*◌, ◌/◌, List, [], ◌∷◌, Bool, true, false, not, cond, ◌&&◌, get_or, set, eqb, leb, ltb, is_none, Some, Ok, Err, Result}
use Rattle.refusal.specs.declared.Refusal.{Refusal}
use Rattle.refusal.specs.declared.Refusal.TheVariants as refusal
use Rattle.text.specs.Fields.{letter}
use Rattle.contents.specs.declared.Header.{Header}
use Rattle.contents.specs.declared.Channel.{Channel}
use Rattle.contents.specs.declared.Mark.{Mark}
use Rattle.contents.specs.declared.Settings.{Settings}
use Rattle.contents.specs.declared.Sheet.{Sheet}
use Rattle.lines.specs.Lines.{letter_of}
use Rattle.lines.specs.declared.Tag.{Tag}
use Rattle.lines.specs.declared.Tag.TheVariants as tags
use Rattle.lines.specs.declared.Setting.{Setting}
use Rattle.lines.specs.declared.Setting.TheVariants as setting
use Rattle.lines.specs.declared.Record.{Record}
use Rattle.lines.specs.declared.Record.TheVariants as line
use Rattle.progress.specs.declared.State.{State}
use Rattle.contents.specs.Marks.{block_of, has_block}
use Rattle.contents.specs.Sheets.{no_header, no_settings, no_channel}

-- a header, no setting or channel yet
abbrev pub headed : Header → Sheet
headed h = record { header = h; settings = no_settings; channels = no_channel ∷ no_channel ∷ no_channel ∷ [] }

-- Nothing read yet
unfoldable pub blank : State
blank = record { begun = false; sheet = headed no_header; read = 0; left = 0 }

-- The tag that is due: first S; "Then w × h / 64 lines `B`" while blocks of the channel are left; "Per channel `C`" while
-- channels are left; then E
abbrev pub due_tag : State → ℕ
due_tag s = cond s.begun (cond (ltb 0 s.left) 66 (cond (ltb s.read s.sheet.header.channels) 67 69)) 83

-- The settings have an order: F is 1, A is 2, H is 3. The last that a line said, 0 where none did
abbrev pub last_said : Settings → ℕ
last_said x = cond (is_none x.hold) (cond (is_none x.start) (cond (is_none x.rounding) 0 1) 2) 3

-- "`F` .. may follow the `S` line", "`A` .. may follow `S` or `F`", "`H` .. follows the other settings": setting i where no channel was read, and no setting but earlier ones
abbrev pub may_stand : ℕ → State → Bool
may_stand i s = s.begun && (eqb s.read 0 && ltb (last_said s.sheet.settings) i)

-- the line has the tag of setting i, and may stand here
abbrev pub is_setting : State → List (List ℕ) → ℕ → ℕ → Bool
is_setting s fs i tag = letter tag (get_or fs 0 []) && may_stand i s

-- "A block may be written `G` .. in place of `B`"
abbrev pub is_range : State → List (List ℕ) → Bool
is_range s fs = letter 71 (get_or fs 0 []) && (s.begun && ltb 0 s.left)

-- "`N` .. may stand, any number of times, after the last block line": where E is due
abbrev pub is_mark : State → List (List ℕ) → Bool
is_mark s fs = letter 78 (get_or fs 0 []) && eqb (due_tag s) 69

-- The tag that a line with the fields fs is read by: its own where it may stand here, else the due one, whose rule then gives 1
unfoldable pub line_tag : State → List (List ℕ) → ℕ
line_tag s fs = cond (is_setting s fs 1 70) 70 (cond (is_setting s fs 2 65) 65 (cond (is_setting s fs 3 72) 72 (cond (is_range s fs) 71 (cond (is_mark s fs) 78 (due_tag s)))))

-- a line of this tag may stand here, where another may be due
abbrev pub may_come : State → Tag → Bool
may_come s tags.Rounding = may_stand 1 s
may_come s tags.Start = may_stand 2 s
may_come s tags.Hold = may_stand 3 s
may_come s tags.Range = s.begun && ltb 0 s.left
may_come s tags.Mark = eqb (due_tag s) 69
may_come s tags.Header = false
may_come s tags.Channel = false
may_come s tags.Block = false
may_come s tags.End = false

-- a line with the fields fs is of this tag, and may stand here
abbrev pub is_own : State → List (List ℕ) → Tag → Bool
is_own s fs tag = letter (letter_of tag) (get_or fs 0 []) && may_come s tag

-- one more setting
abbrev pub with_setting : Settings → Setting → Settings
with_setting x (setting.Rounding r) = record { rounding = Some r; start = x.start; hold = x.hold }
with_setting x (setting.Start a) = record { rounding = x.rounding; start = Some a; hold = x.hold }
with_setting x (setting.Hold h) = record { rounding = x.rounding; start = x.start; hold = Some h }

-- a sheet with these settings
abbrev pub settled : Sheet → Settings → Sheet
settled s x = record { header = s.header; settings = x; channels = s.channels }

-- channel j
abbrev pub placed : Sheet → ℕ → Channel → Sheet
placed s j c = record { header = s.header; settings = s.settings; channels = set s.channels j c }

-- the next channel, with its blocks still to come
abbrev pub opened : State → Channel → State
opened s c = record { begun = true; sheet = placed s.sheet s.read c; read = s.read + 1; left = c.width * c.height / 64 }

-- "w × across ≤ W, h × down ≤ H", else 2
abbrev pub covers : Header → Channel → Bool
covers h c = leb (c.width * c.across) h.width && leb (c.height * c.down) h.height

-- A mark's block is one of the sheet. Of no sheet that a caller allows are there more than 3 × 64 × 64 blocks, as many as are remembered
abbrev pub most_blocks : ℕ
most_blocks = 12288

unfoldable pub exists : Sheet → Mark → Bool
exists s m = has_block s m && ltb (block_of s m) most_blocks

-- The state after a line whose fields are good, or its fault: "then cover (2)"; "18 "mark", channel or block absent or marked twice", where
-- `twice` says whether the block was marked before
unfoldable pub taken_if : State → Bool → Record → Result State Refusal
taken_if s twice (line.Header h) = Ok (record { begun = true; sheet = headed h; read = 0; left = 0 })
taken_if s twice (line.Channel c) = cond (covers s.sheet.header c) (Ok (opened s c)) (Err refusal.Size)
taken_if s twice (line.Setting x) = Ok (record { begun = s.begun; sheet = settled s.sheet (with_setting s.sheet.settings x); read = s.read; left = s.left })
taken_if s twice line.Block = Ok (record { begun = s.begun; sheet = s.sheet; read = s.read; left = s.left - 1 })
taken_if s twice (line.Mark m) = cond (exists s.sheet m && not twice) (Ok s) (Err refusal.Mark)
