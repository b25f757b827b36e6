use mathlib.Core.Path.{◌≡◌}
use Prim.Native.Nat.{◌*◌}
use Rattle.fold.specs.Fold.{upto}
use Rattle.steps.specs.Step.{move_at}
use Rattle.steps.proofs.step.descend.Given as goal

abbrev pub invariant-loop-k : goal.invariant-loop-k
invariant-loop-k l = l.plane ≡ upto (move_at l.step_size l.norm l.gradient) (l.k * 8) l.initial.plane

abbrev pub invariant-loop-i : goal.invariant-loop-i
invariant-loop-i l = l.plane ≡ upto (move_at l.step_size l.norm l.gradient) l.i l.fn.plane
