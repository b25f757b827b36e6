-- `sheet::walk::walk` meets its contract: what is left to read, read after what was read, gives the whole answer.
use mathlib.Core.Path.{◌≡◌}
use lib.ListN.{length}
use Rattle.text.specs.Pieces.{split}
use Rattle.lines.specs.Lines.{letter_of, rules_of}
use Rattle.contents.specs.Sheets.{lent}
use Rattle.sheet.proofs.WalkLaws.{places, Checking, Reading, OnLine}
use Rattle.sheet.proofs.walk.walk.Given as goal

abbrev pub invariant-loop-i : goal.invariant-loop-i
invariant-loop-i l = OnLine l.rest l.state l.l.length (letter_of l.tag) l.count
    × (length (split 9 l.row) ≡ l.count)
    × Checking (rules_of (letter_of l.tag) l.limits l.header (split 9 l.row)) l.row l.count (lent l.initial.lows l.initial.highs l.initial.tables) (places l.initial.low l.initial.high l.initial.listed) (lent l.lows l.highs l.tables) (places l.low l.high l.listed) l.i l.a l.last

abbrev pub invariant-lines : goal.invariant-lines
invariant-lines l = Reading l.limits l.text (lent l.initial.lows l.initial.highs l.initial.tables) (lent l.lows l.highs l.tables) l.initial.bits l.bits l.state l.rest l.line (places l.low l.high l.listed)

abbrev pub decreases-lines : goal.decreases-lines
decreases-lines l = length l.rest
