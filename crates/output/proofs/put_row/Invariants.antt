-- `output::put_row` meets its contract: a field more for each pixel.
use mathlib.Core.Path.{◌≡◌}
use Prim.Native.Nat.{◌+◌, ◌*◌}
use Rattle.std.proofs.Common.{get_or, []}
use Rattle.copying.specs.Parts.{Put}
use Rattle.output.specs.Output.{each, pixel}
use Rattle.output.proofs.Lines.{tabbed}
use Rattle.output.proofs.put_row.Given as goal

abbrev pub invariant-loop-rgb : goal.invariant-loop-rgb
invariant-loop-rgb l =
    record {
      at : l.to.at ≡ l.initial.to.at + 7 * l.rgb-index;
      put : Put l.initial.to (tabbed (each (λ i. pixel (get_or l.row i []) 0) l.rgb-index)) l.to;
    }
