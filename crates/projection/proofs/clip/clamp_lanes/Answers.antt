use mathlib.Core.Bool.{cond}
use lib.Ieee.{lt}
use lib.Lanes.{top}
use Rattle.float.specs.Names.{val}
use Rattle.float.specs.Ops.{clamp}
use Rattle.utils.proofs.Rows.{eight_ext, eight_is}
use Rattle.projection.proofs.Clips.{clamp_lane, lane}
use Rattle.projection.proofs.clip.clamp_lanes.Goals as goal

pub returns : goal.returns
returns c =
    let x = c.args.x in
    let l = c.args.least in
    let m = c.args.most in
    rw (← eight_is x c.requires.x, ← eight_is l c.requires.least, ← eight_is m c.requires.most)
    (eight_ext (λ j. cond (top 31 (lane (lt (val m j) (cond (top 31 (lane (lt (val x j) (val l j)))) (val l j) (val x j))))) (val m j) (cond (top 31 (lane (lt (val x j) (val l j)))) (val l j) (val x j)))
    (λ j. clamp (val x j) (val l j) (val m j))
    (λ j h. clamp_lane (val x j) (val l j) (val m j)))
