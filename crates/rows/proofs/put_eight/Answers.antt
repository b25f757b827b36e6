use Rattle.rows.proofs.Eights.{put_chosen}
use Rattle.rows.proofs.put_eight.Goals as goal

pub returns-then-decided : goal.returns-then-decided
returns-then-decided c =
    put_chosen c.args.alpha c.args.norm.now c.args.q.now c.args.gradient.now c.mul_add_eight-decided.result.0 c.requires.0 c.requires.1 c.requires.2 c.mul_add_eight-decided.ensures.len
    (c.mul_add_eight-decided.ensures.lanes c.if-decided.true)
