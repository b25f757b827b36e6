use Prim.Native.Nat.{ℕ}
use lib.IntN.{ℤ, pos}
use lib.ListN.{get_or}
use lib.Ieee.{binary32, sub, mul, of_bits, of_int}
use Rattle.float.specs.Names.{float}
use Rattle.interval.specs.Interval.{lowest}
use Rattle.interval.proofs.Ends.{half_bits}
use Rattle.utils.proofs.Rows.{eight_ext}
use Rattle.projection.proofs.clip.least_of.Goals as goal

pub returns : goal.returns
unfolding lowest
returns c =
    let d : ℕ → ℤ = λ j. get_or c.args.lows.now j (pos 0) in
    let q : ℕ → ℕ = λ j. get_or c.args.table.now j 0 in
    rw (c.signed.ensures.value, c.unsigned.ensures)
    (eight_ext (λ j. mul binary32 (sub binary32 (of_int binary32 (d j)) (of_bits binary32 1056964608)) (float (q j))) (λ j. lowest (d j) (q j)) (λ j h. rw half_bits))
