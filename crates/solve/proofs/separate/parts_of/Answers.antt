-- Kept: the check finds none of these alone (scripts/answers tries each).
-- `parts_of`: the joint record and the steps tell where each channel's part lies.
use mathlib.Core.Path.{ap}
use Prim.Native.Nat.{ℕ, ◌*◌}
use native.Mathlib.Omega.{arith}
use Rattle.solve.proofs.Alone.{below_joint, channel_small, parts_are}
use Rattle.solve.proofs.separate.parts_of.Goals as goal

pub invariant_of-turn : goal.invariant_of-turn
invariant_of-turn c = record { below = rw c.joint_of.ensures (below_joint c.args.s c.args.c c.requires.1) }

pub overflow_mul-x : goal.overflow_mul-x
overflow_mul-x c = omega (arith, c.steps_before-x.ensures.1, channel_small c.args.s c.args.c c.requires.0 c.requires.1)

pub overflow_mul-y : goal.overflow_mul-y
overflow_mul-y c = omega (arith, c.steps_before-y.ensures.1, channel_small c.args.s c.args.c c.requires.0 c.requires.1)

pub returns : goal.returns
returns c =
    let e = rw c.joint_of.ensures at c.span-span.ensures in
    parts_are c.args.s c.args.c c.requires.0 c.requires.1 _ _ _ _ _ _ e.0 e.1 e.3 e.4
    (rw c.joint_of.ensures at c.levels_before-l.ensures) (rw c.joint_of.ensures at c.levels_before-m.ensures)
    (ap (λ (n : ℕ). n * 2) c.steps_before-x.ensures.0) (ap (λ (n : ℕ). n * 2) c.steps_before-y.ensures.0) (omega (arith, c.steps_before-y.ensures.1, channel_small c.args.s c.args.c c.requires.0 c.requires.1))
