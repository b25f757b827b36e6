-- `stitch::marks::write_marks` meets its contract: the lines so far are written.
use mathlib.Core.Path.{◌≡◌}
use Rattle.copying.specs.Parts.{Put}
use Rattle.stitch.specs.Bytes.{moved_lines}
use Rattle.stitch.proofs.WriteLaws.{past_lines}
use Rattle.stitch.proofs.marks.write_marks.Given as goal

abbrev pub invariant-loop-mark : goal.invariant-loop-mark
invariant-loop-mark l =
    record {
      rest : l.rest ≡ past_lines l.mark l.right;
      put : Put l.initial.to (moved_lines l.s l.mark l.right) l.to;
    }
