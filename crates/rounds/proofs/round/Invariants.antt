-- `round`: the channels passed have had the job.
use Prim.Native.Nat.{◌-◌}
use Rattle.record.specs.Lent.{levels_in, six_of, SameSix}
use Rattle.record.specs.Model.{given_of}
use Rattle.rounds.specs.Rounds.{next_of}
use Rattle.rounds.specs.Whole.{RestStays}
use Rattle.rounds.proofs.Steps.{Passing}
use Rattle.rounds.proofs.round.Given as goal

abbrev pub invariant-loop-c : goal.invariant-loop-c
invariant-loop-c l =
    Passing (given_of l.initial.run (levels_in l.given) l.given.tables.now) (next_of l.initial.run) l.c-end l.c l.run (six_of l.initial.lent) (six_of l.lent)
    × SameSix l.initial.lent l.lent × RestStays l.initial.run l.run

abbrev pub decreases-loop-c : goal.decreases-loop-c
decreases-loop-c l = l.c-end - l.c
