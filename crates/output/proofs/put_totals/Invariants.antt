-- `output::put_totals` meets its contract: a line more for each step.
use Prim.Native.Nat.{◌+◌, ◌*◌, ◌≤◌}
use Rattle.digits.specs.Written.{ended}
use Rattle.copying.specs.Parts.{Put}
use Rattle.output.specs.Output.{each, step_line}
use Rattle.output.proofs.put_totals.Given as goal

abbrev pub invariant-loop-k : goal.invariant-loop-k
invariant-loop-k l =
    record {
      at : l.to.at ≤ l.initial.to.at + l.k * 43;
      put : Put l.initial.to (ended (each (step_line l.channel l.totals) l.k)) l.to;
    }
