-- What taking a line asks for; and the marks as a map of all blocks, true where a block is marked, false elsewhere.
use Rattle.std.specs.Prelude.{◌<◌, List, Bool, true, false, cond, get_or, set}
use Rattle.lines.specs.declared.Record.{Record}
use Rattle.lines.specs.declared.Record.TheVariants as line
use Rattle.progress.specs.declared.State.{State}
use Rattle.contents.specs.declared.Sheet.{Sheet}
use Rattle.contents.specs.Marks.{block_of}
use Rattle.progress.specs.Progress.{exists}

-- The line is due: a channel is left, or a block of it
abbrev pub Due : State → Record → Type 0
Due s (line.Header h) = Unit {0}
Due s (line.Channel c) = s.read < s.sheet.header.channels
Due s (line.Setting x) = Unit {0}
Due s line.Block = 0 < s.left
Due s (line.Mark m) = Unit {0}

-- by the map: whether a line marks a block twice, and the map with its mark
abbrev pub twice_in : Sheet → Record → List Bool → Bool
twice_in s (line.Header h) bits = false
twice_in s (line.Channel c) bits = false
twice_in s (line.Setting x) bits = false
twice_in s line.Block bits = false
twice_in s (line.Mark m) bits = cond (exists s m) (get_or bits (block_of s m) false) false

abbrev pub marked_in : Sheet → Record → List Bool → List Bool
marked_in s (line.Header h) bits = bits
marked_in s (line.Channel c) bits = bits
marked_in s (line.Setting x) bits = bits
marked_in s line.Block bits = bits
marked_in s (line.Mark m) bits = cond (exists s m) (set bits (block_of s m) true) bits
