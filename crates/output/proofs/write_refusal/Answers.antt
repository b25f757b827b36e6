-- `output::write_refusal` meets its contract.
use native.Mathlib.Omega.{arith}
use mathlib.Core.Path.{◌∙◌}
use Rattle.refusal.specs.Refusal.{number_of}
use Rattle.output.proofs.Sizes.{refusal_asks, refusal_adds}
use Rattle.output.proofs.write_refusal.Goals as goal

pub put_numbers-requires : goal.put_numbers-requires
put_numbers-requires c =
    omega (arith, refusal_asks c.args.to.now c.args.to.now c.room.result c.room.ensures c.refusal_answer.result c.in_ok-refusal_answer.was (number_of c.args.refused) c.args.line c.from.result (c.from.ensures ∙ c.number.ensures) (omega arith) c.refusal_answer.ensures)

pub returns-clause-writes : goal.returns-clause-writes
returns-clause-writes c =
    refusal_adds _ _ _ c.room.ensures _ c.in_ok-refusal_answer.was _ _ _ (c.from.ensures ∙ c.number.ensures) (omega arith) c.refusal_answer.ensures c.put_numbers.ensures
