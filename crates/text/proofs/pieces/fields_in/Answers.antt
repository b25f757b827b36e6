-- Kept: the check finds none of these alone (scripts/answers tries each).
use Rattle.std.proofs.Common.{arith, get_or}
use lib.Dec.{eqb}
use Rattle.text.proofs.PieceLaws.{fields_step, one_most}
use Rattle.text.proofs.pieces.fields_in.Goals as goal

pub loop-b-preserved : goal.loop-b-preserved
loop-b-preserved c =
    let e = fields_step c.args.line.now c.loop-b.b-index c.loop-b-test.true in
    (omega (arith, one_most (eqb (get_or c.args.line.now c.loop-b.b-index 0) 9), c.from-fields.ensures), omega (arith, e, c.from-fields.ensures))
