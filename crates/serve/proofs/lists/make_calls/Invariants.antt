-- `make_calls`: the bytes so far, and what the calls left give, are what the whole list gives.
use mathlib.Core.Path.{◌≡◌}
use Prim.Native.Nat.{◌-◌, ◌≤◌}
use lib.ListN.{length}
use Rattle.record.specs.Lent.{levels_in, six_of, SameSix}
use Rattle.serve.specs.Serve.{call_list, list_of}
use Rattle.serve.proofs.Listed.{sofar}
use Rattle.serve.proofs.lists.make_calls.Given as goal

abbrev pub invariant-loop-i : goal.invariant-loop-i
invariant-loop-i l =
    (l.i ≤ l.i-end) × (length l.answers ≡ length l.initial.answers)
    × SameSix l.initial.lent l.lent
    × (sofar (levels_in l.given) l.given.tables.now l.jobs l.channels l.run
    (six_of l.lent) l.answers l.i
    ≡ list_of l.initial.run (levels_in l.given) l.given.tables.now (call_list l.jobs l.channels)
    (six_of l.initial.lent))

abbrev pub decreases-loop-i : goal.decreases-loop-i
decreases-loop-i l = l.i-end - l.i
