-- `program::write_numbers` meets its contract: each line has room, since no number has more than four digits.
use Prim.Native.Nat.{◌-◌, ◌*◌, ◌≤◌}
use Rattle.solve.specs.Solve.{number_in}
use Rattle.program.specs.Printed.{clipped_lines, AddsTo}
use Rattle.program.proofs.write_numbers.Given as goal

abbrev pub invariant-loop-c : goal.invariant-loop-c
invariant-loop-c l = (l.c ≤ l.c-end) × AddsTo (9 * l.c) l.initial.to (clipped_lines l.c (number_in l.clipped)) l.to

abbrev pub decreases-loop-c : goal.decreases-loop-c
decreases-loop-c l = l.c-end - l.c
