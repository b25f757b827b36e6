-- `program::write_runs` meets its contract: each run's lines have room, since no run has more than 1,000 steps.
use Prim.Native.Nat.{◌-◌, ◌*◌, ◌≤◌}
use Rattle.fold.specs.Join.{join_upto}
use Rattle.program.specs.Printed.{run_lines, AddsTo}
use Rattle.program.proofs.write_runs.Given as goal

abbrev pub invariant-loop-c : goal.invariant-loop-c
invariant-loop-c l = (l.c ≤ l.c-end) × AddsTo (l.c * 43000) l.initial.to (join_upto (run_lines l.s l.totals) l.c) l.to

abbrev pub decreases-loop-c : goal.decreases-loop-c
decreases-loop-c l = l.c-end - l.c
