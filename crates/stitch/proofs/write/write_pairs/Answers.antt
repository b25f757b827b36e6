-- Kept: the check finds none of these alone (scripts/answers tries each).
-- `stitch::write::write_pairs` meets its contract.
use native.Mathlib.Omega.{arith}
use mathlib.Core.Path.{ap}
use mathlib.Core.List.{◌++◌, append_assoc}
use mathlib.Core.Logic.{inl, inr, ⊎_elim}
use lib.ListN.{length, length-append}
use Rattle.copying.proofs.PartLaws.{put_more, put_as}
use Rattle.stitch.specs.Bytes.{pair_text, last_text}
use Rattle.stitch.proofs.WriteLaws.{pairs_end}
use Rattle.stitch.proofs.write.write_pairs.Goals as goal

pub loop-c-preserved : goal.loop-c-preserved
loop-c-preserved c =
    let w = c.loop-c.invariant in
    let p = c.write_pair-rest.ensures in
    let e = (c.in-Some.ensures {u = tt}).steps in
    let r = c.loop-c.rest in (
      w.0 ++ pair_text c.in-Some.c.now c.in-Some.d.now r.left.now r.right.now,
      put_more w.1 p.put,
      rw (p.left, p.right, append_assoc) (rw (e.0, e.1) at w.2),
    )

pub write_last-requires : goal.write_last-requires
write_last-requires c =
    let w = c.loop-c.invariant in
    let n = ⊎_elim (λ q. inl q.1.0) (λ q. inr q.1.0) (c.in-None.ensures {u = tt}).steps in
    let e = rw (pairs_end c.args.s _ _ c.loop-c.rest.left.now c.loop-c.rest.right.now n) at w.2 in
    omega (arith, w.1.next, ap length e, length-append w.0 (last_text c.args.s c.loop-c.rest.left.now c.loop-c.rest.right.now), c.requires)

pub returns : goal.returns
returns c =
    let w = c.loop-c.invariant in
    let n = ⊎_elim (λ q. inl q.1.0) (λ q. inr q.1.0) (c.in-None.ensures {u = tt}).steps in
    let e = rw (pairs_end c.args.s _ _ c.loop-c.rest.left.now c.loop-c.rest.right.now n) at w.2 in
    put_as e (put_more w.1 c.write_last.ensures)
