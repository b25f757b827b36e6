-- Kept: the check finds none of these alone (scripts/answers tries each).
-- `output::put_totals` meets its contract.
use mathlib.Core.Path.{◌≡◌}
use Prim.Native.Nat.{◌/◌, ◌<◌}
use native.Mathlib.Omega.{arith}
use lib.ListN.{length}
use Rattle.output.specs.Output.{each, totals_text}
use Rattle.copying.proofs.PartLaws.{put_none, put_more, put_as}
use Rattle.output.proofs.Chunks.{pair_line}
use Rattle.output.proofs.Lines.{lines_more}
use Rattle.output.proofs.Sizes.{step_room, row_more}
use Rattle.output.proofs.put_totals.Goals as goal

pub loop-k-init : goal.loop-k-init
unfolding each
loop-k-init c = record { at = omega arith; put = put_none _ }

pub loop-k-preserved : goal.loop-k-preserved
loop-k-preserved c =
    let a = c.args in
    let h : c.loop-k.k < length a.totals.now / 2 = omega arith in
    let o = step_room a.channel c.loop-k.k a.totals.now c.requires.0 (omega arith) in
    let p = put_as (pair_line a.channel c.loop-k.k (length a.totals.now / 2) a.totals.now _ h c.as_chunks.ensures.front) c.put_step.ensures in
    record { at = omega (arith, row_more c.loop-k.k 43, p.next, c.loop-k.invariant.at); put = put_as (lines_more _ _) (put_more c.loop-k.invariant.put p) }

pub returns : goal.returns
unfolding totals_text
returns c = let e : c.loop-k.k ≡ length c.args.totals.now / 2 = omega arith in rw e at c.loop-k.invariant.put
