use Rattle.steps.proofs.Eights.{put_moved}
use Rattle.steps.proofs.step.move_eight.Goals as goal

pub returns-then-decided : goal.returns-then-decided
returns-then-decided c =
    put_moved c.args.step_size c.args.norm c.args.gradient.now c.args.plane.now c.mul_add_eight-decided.result.0 c.requires.given c.requires.moved c.mul_add_eight-decided.ensures.len
    (c.mul_add_eight-decided.ensures.lanes c.if-decided.true)
