use mathlib.Core.Path.{◌≡◌, refl}
use native.Mathlib.Omega.{arith}
use lib.ListN.{take}
use Rattle.std.proofs.lemmas.List.{take_all}
use Rattle.std.proofs.lemmas.Simd.{pick_l_whole}
use Rattle.utils.proofs.wholes.unsigned.Goals as goal

pub returns : goal.returns
returns c =
    let same : take 8 c.args.xs.now ≡ c.args.xs.now = take_all 8 c.args.xs.now (omega arith) in
    rw (same, ← pick_l_whole 0 c.args.xs.now 8 c.requires) refl
