-- Kept: the check finds none of these alone (scripts/answers tries each).
-- `smoother_finish`: no rounding, or what `finish` gives, its answer as a number.
use Rattle.by_numbers.proofs.WholeLaws.{no_rounding, finished}
use Rattle.smoother.proofs.sheets.smoother_finish.Goals as goal

pub returns-then-rounding-gt1 : goal.returns-then-rounding-gt1
returns-then-rounding-gt1 c = rw c.from.ensures (no_rounding _ _ _ _ _ _ _ _ c.if-rounding-gt1.true)

pub returns : goal.returns
returns c =
    let g = c.from-2 in
    let f = c.finish in
    finished _ _ _ _ _ _ _ _ c.if-rounding-gt1.false g.result g.ensures _ f.result _ f.ensures.made c.answer_number.ensures
