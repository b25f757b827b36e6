-- Kept: the check finds none of these alone (scripts/answers tries each).
-- `stitch::marks::mark_at` meets its contract.
use mathlib.Core.Path.{◌∙◌}
use Rattle.stitch.proofs.WriteLaws.{line_inside, line_mark}
use Rattle.stitch.proofs.marks.mark_at.Goals as goal

pub slice_bounds-mark_of-end : goal.slice_bounds-mark_of-end
slice_bounds-mark_of-end c = line_inside c.args.text.now c.first_line.result c.first_line.ensures

pub returns : goal.returns
returns c = c.mark_of.ensures ∙ line_mark c.args.text.now c.first_line.result c.first_line.ensures
