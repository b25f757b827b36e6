-- `separate`: the channels passed have their planes, their totals and their numbers, and none is blown.
use Prim.Native.Nat.{◌-◌}
use Rattle.record.specs.Lent.{levels_in, six_of, SameSix}
use Rattle.rounds.specs.Whole.{loan}
use Rattle.solve.proofs.Alone.{Parting}
use Rattle.solve.proofs.separate.separate.Given as goal

abbrev pub invariant-loop-c : goal.invariant-loop-c
invariant-loop-c l =
    Parting l.s (levels_in l.given) l.given.tables.now l.c-end l.c (loan (six_of l.initial.lent) l.initial.totals) (loan (six_of l.lent) l.totals) l.clipped
    × SameSix l.initial.lent l.lent

abbrev pub decreases-loop-c : goal.decreases-loop-c
decreases-loop-c l = l.c-end - l.c
