use mathlib.Core.Path.{◌≡◌}
use Prim.Native.Nat.{◌≤◌, ◌-◌}
use lib.ListN.{length}
use Rattle.fold.specs.Fold.{upto}
use Rattle.utils.specs.Blocks.{move_block, move_line, move_row, row_index}
use Rattle.utils.proofs.Opened.{row_from, row_to}
use Rattle.utils.proofs.blocks.move_blocks.Given as goal

abbrev pub invariant-loop-y : goal.invariant-loop-y
invariant-loop-y l =
    (l.y ≤ 8) × (length l.output ≡ length l.initial.output) × (l.index ≡ row_index l.bw l.by l.bx l.y) × (l.output ≡ upto (move_row (row_from l.order l.w l.bw) (row_to l.order l.w l.bw) l.input l.by l.bx) l.y l.initial.output)

abbrev pub decreases-loop-y : goal.decreases-loop-y
decreases-loop-y l = 8 - l.y

abbrev pub invariant-loop-bx : goal.invariant-loop-bx
invariant-loop-bx l =
    (l.bx ≤ l.bw) × (length l.output ≡ length l.initial.output) × (l.index ≡ row_index l.bw l.by l.bx 0) × (l.output ≡ upto (move_block (row_from l.order l.w l.bw) (row_to l.order l.w l.bw) l.input l.by) l.bx l.initial.output)

abbrev pub decreases-loop-bx : goal.decreases-loop-bx
decreases-loop-bx l = l.bw - l.bx

abbrev pub invariant-loop-by : goal.invariant-loop-by
invariant-loop-by l =
    (l.by ≤ l.bh) × (length l.output ≡ length l.initial.output) × (l.index ≡ row_index l.bw l.by 0 0) × (l.output ≡ upto (move_line (row_from l.order l.w l.bw) (row_to l.order l.w l.bw) l.input l.bw) l.by l.initial.output)

abbrev pub decreases-loop-by : goal.decreases-loop-by
decreases-loop-by l = l.bh - l.by
