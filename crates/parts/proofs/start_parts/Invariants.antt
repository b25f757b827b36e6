-- `start_parts`: channel after channel.
use mathlib.Core.Path.{◌≡◌}
use Prim.Native.Nat.{◌≤◌, ◌-◌}
use Rattle.fold.specs.Fold.{upto}
use Rattle.record.specs.Lent.{levels_in, six_of, SameSix}
use Rattle.record.specs.Model.{given_of}
use Rattle.parts.specs.Parts.{started_part}
use Rattle.parts.proofs.start_parts.Given as goal

abbrev pub invariant-loop-c : goal.invariant-loop-c
invariant-loop-c l =
    (l.c ≤ l.c-end)
    × (six_of l.lent ≡ upto (started_part (given_of l.legal.run (levels_in l.given) l.given.tables.now)) l.c (six_of l.initial.lent))
    × SameSix l.initial.lent l.lent

abbrev pub decreases-loop-c : goal.decreases-loop-c
decreases-loop-c l = l.c-end - l.c
