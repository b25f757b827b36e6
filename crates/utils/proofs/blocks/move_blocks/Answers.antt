-- Kept: the check finds none of these alone (scripts/answers tries each).
use Prim.Native.Nat.{◌≤◌, ◌+◌, ◌*◌}
use native.Mathlib.Omega.{arith}
use Rattle.utils.specs.Blocks.{row_start}
use Rattle.utils.proofs.Places.{placed, stored_in, taken_in}
use Rattle.utils.proofs.blocks.move_blocks.Goals as goal

pub copy8-requires : goal.copy8-requires
copy8-requires c =
    let a = c.args in
    let r = placed _ _ _ _ _ _ _ c.requires.0 c.requires.1 c.loop-by-test.true c.loop-bx-test.true c.loop-y-test.true in
    let start = row_start a.w c.loop-by.by c.loop-bx.bx c.loop-y.y in
    let from : c.places-from.result.0 + 8 ≤ a.w * a.h =
    rw c.places-from.ensures.0 (taken_in a.order start c.loop-y.index (a.w * a.h) (omega (arith, r)) (omega (arith, r))) in
    let to : c.places-from.result.1 + 8 ≤ a.w * a.h =
    rw c.places-from.ensures.1 (stored_in a.order start c.loop-y.index (a.w * a.h) (omega (arith, r)) (omega (arith, r))) in
    (omega arith, omega arith)

pub overflow_add-index : goal.overflow_add-index
overflow_add-index c = omega (arith, placed _ _ _ _ _ _ _ c.requires.0 c.requires.1 c.loop-by-test.true c.loop-bx-test.true c.loop-y-test.true)
