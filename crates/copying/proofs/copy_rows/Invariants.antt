-- `copying::copy_rows` meets its contract: the rows so far are written.
use mathlib.Core.Path.{◌≡◌}
use Rattle.copying.specs.Parts.{rows_of, past_rows, Put}
use Rattle.copying.proofs.copy_rows.Given as goal

abbrev pub invariant-loop-row : goal.invariant-loop-row
invariant-loop-row l =
    record {
      left : l.left ≡ past_rows l.row l.a l.fn.from.left.now;
      right : l.right ≡ past_rows l.row l.b l.fn.from.right.now;
      put : Put l.initial.to (rows_of l.row l.a l.b l.fn.from.left.now l.fn.from.right.now) l.to;
    }
