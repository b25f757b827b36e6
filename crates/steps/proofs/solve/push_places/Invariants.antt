-- `steps::solve::push_places` meets its contract. The loop's invariant, on the first n places: after i of them both planes hold new values
-- up to i and old ones after it. Assumes nothing.
use Rattle.steps.specs.Solve.{PushedTo}
use Rattle.steps.proofs.solve.push_places.Given as goal

abbrev pub invariant-loop-i : goal.invariant-loop-i
invariant-loop-i l =
    PushedTo l.factor (record { plane = l.initial.x-items; prior = l.initial.prior }) l.i (record { plane = l.x-items; prior = l.prior })
