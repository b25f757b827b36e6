-- `all_rounds`: after each step, and after each job of one, all channels stand at the next position, none is blown, and the totals of the blends so far are stored.
use Rattle.std.proofs.Common.{◌+◌, ◌*◌}
use Rattle.record.specs.Lent.{levels_in, six_of, SameSix}
use Rattle.record.specs.Model.{given_of}
use Rattle.rounds.specs.Whole.{RestStays}
use Rattle.rounds.proofs.Ends.{Rounding}
use Rattle.rounds.proofs.all_rounds.Given as goal

abbrev pub invariant-loop-job : goal.invariant-loop-job
invariant-loop-job l =
    Rounding (given_of l.fn.run (levels_in l.given) l.given.tables.now) (5 * l.step-end) (5 * l.step + l.job-index) l.run (six_of l.fn.lent) l.fn.totals (six_of l.lent) l.totals
    × SameSix l.fn.lent l.lent × RestStays l.fn.run l.run

abbrev pub invariant-loop-step : goal.invariant-loop-step
invariant-loop-step l =
    Rounding (given_of l.fn.run (levels_in l.given) l.given.tables.now) (5 * l.step-end) (5 * l.step) l.run (six_of l.fn.lent) l.fn.totals (six_of l.lent) l.totals
    × SameSix l.fn.lent l.lent × RestStays l.fn.run l.run
