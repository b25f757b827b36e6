-- Kept: the check finds none of these alone (scripts/answers tries each).
-- `output::put_step` meets its contract.
use native.Mathlib.Omega.{arith}
use Rattle.copying.proofs.PartLaws.{put_more, put_as}
use Rattle.output.proofs.Lines.{totals-text}
use Rattle.output.proofs.Sizes.{step_length, head_room}
use Rattle.output.proofs.put_step.Goals as goal

pub put_head-requires : goal.put_head-requires
put_head-requires c = omega (arith, step_length c.args.channel c.args.k c.requires.0 c.requires.1)

pub put_total-requires : goal.put_total-requires
put_total-requires c = omega (arith, head_room 84 c.args.channel c.args.k c.requires.0 c.requires.1)

pub put_total-requires-2 : goal.put_total-requires-2
put_total-requires-2 c = omega (arith, head_room 84 c.args.channel c.args.k c.requires.0 c.requires.1)

pub put_byte-requires : goal.put_byte-requires
put_byte-requires c = omega (arith, head_room 84 c.args.channel c.args.k c.requires.0 c.requires.1)

pub returns : goal.returns
returns c =
    put_as (totals-text _ _ _ _)
    (put_more (put_more (put_more c.put_head.ensures c.put_total.ensures) c.put_total-2.ensures) c.put_byte.ensures)
