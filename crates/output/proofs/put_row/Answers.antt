-- Kept: the check finds none of these alone (scripts/answers tries each).
-- `output::put_row` meets its contract.
use native.Mathlib.Omega.{arith}
use Rattle.output.specs.Output.{each}
use Rattle.copying.proofs.PartLaws.{put_none, put_more, put_as}
use Rattle.output.proofs.Lines.{fields_more, row_done}
use Rattle.output.proofs.put_row.Goals as goal

pub loop-rgb-init : goal.loop-rgb-init
unfolding each
loop-rgb-init c = record { at = omega arith; put = put_none _ }

pub loop-rgb-preserved : goal.loop-rgb-preserved
loop-rgb-preserved c =
    record {
      at = omega (arith, c.put_pixel.ensures.next, c.loop-rgb.invariant.at);
      put = put_as (fields_more _ _) (put_more c.loop-rgb.invariant.put c.put_pixel.ensures);
    }

pub returns : goal.returns
returns c =
    put_as (row_done _ _ _ (omega arith)) (put_more (put_more c.put_byte.ensures c.loop-rgb.invariant.put) c.put_byte-2.ensures)
