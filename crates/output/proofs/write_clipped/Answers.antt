-- `output::write_clipped` meets its contract.
use native.Mathlib.Omega.{arith}
use Rattle.output.proofs.Sizes.{clipped_asks, clipped_adds}
use Rattle.output.proofs.write_clipped.Goals as goal

pub put_numbers-requires : goal.put_numbers-requires
put_numbers-requires c =
    omega (arith, clipped_asks c.args.to.now c.args.to.now c.room.result c.room.ensures c.clipped_answer.result c.in_ok-clipped_answer.was c.args.channel c.args.number c.clipped_answer.ensures)

pub returns-clause-writes : goal.returns-clause-writes
returns-clause-writes c = clipped_adds _ _ _ c.room.ensures _ c.in_ok-clipped_answer.was _ _ c.clipped_answer.ensures c.put_numbers.ensures
