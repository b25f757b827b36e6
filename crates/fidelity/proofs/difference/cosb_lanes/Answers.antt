use mathlib.Core.Path.{◌≡◌, ap, ◌∙◌}
use Prim.Native.Nat.{ℕ}
use lib.IntN.{ℤ, pos}
use lib.ListN.{get_or}
use lib.Ieee.{binary32, add, div, mul, neg, of_bits, of_int}
use Rattle.float.specs.Names.{float, val}
use Rattle.interval.specs.Interval.{mid}
use Rattle.utils.proofs.Rows.{eight_ext, eight_is}
use Rattle.fidelity.specs.DctGradient.{cosb_of}
use Rattle.fidelity.proofs.Exact.{cosb_lane}
use Rattle.fidelity.proofs.difference.cosb_lanes.Goals as goal

pub returns : goal.returns
returns c =
    let x = c.args.x in
    let low : ℕ → ℤ = λ j. get_or c.args.lows.now j (pos 0) in
    let high : ℕ → ℤ = λ j. get_or c.args.highs.now j (pos 0) in
    let q : ℕ → ℕ = λ j. get_or c.args.table.now j 0 in
    rw (← eight_is x c.requires.x, c.unsigned-quant.ensures, c.signed.ensures.value, c.signed-2.ensures.value)
    (eight_ext (λ j. div binary32 (add binary32 (mul binary32 (mul binary32 (add binary32 (of_int binary32 (low j)) (of_int binary32 (high j))) (of_bits binary32 1056964608)) (neg (float (q j)))) (val x j)) (mul binary32 (float (q j)) (float (q j))))
    (λ j. cosb_of (mid (low j) (high j)) (q j) (val x j))
    (λ j h. cosb_lane (low j) (high j) (q j) (val x j) (c.signed.ensures.fit j h) (c.signed-2.ensures.fit j h) (c.requires.bytes j h)))
