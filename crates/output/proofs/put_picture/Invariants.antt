-- `output::put_picture` meets its contract: a line more for each row.
use mathlib.Core.Path.{◌≡◌}
use Prim.Native.Nat.{◌+◌, ◌*◌}
use Rattle.digits.specs.Written.{ended}
use Rattle.copying.specs.Parts.{Put}
use Rattle.output.specs.Output.{each, row_line}
use Rattle.output.proofs.put_picture.Given as goal

abbrev pub invariant-loop-y : goal.invariant-loop-y
invariant-loop-y l =
    record {
      at : l.to.at ≡ l.initial.to.at + l.y * (7 * l.width + 2);
      put : Put l.initial.to (ended (each (λ i. row_line l.width l.rgb (i * l.width)) l.y)) l.to;
    }
