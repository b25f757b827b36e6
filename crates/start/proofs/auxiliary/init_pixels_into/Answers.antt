-- Kept: the check finds none of these alone (scripts/answers tries each).
use mathlib.Core.Path.{◌≡◌}
use borrow.Author.Rules.{rules}
use lib.ListN.{replicate}
use Prim.Native.Nat.{◌*◌}
use Rattle.float.specs.Names.{f0}
use Rattle.start.specs.Auxiliary.{init_pixels}
use Rattle.start.proofs.auxiliary.init_pixels_into.Goals as goal

pub returns : goal.returns
unfolding init_pixels
returns c =
    let e : c.fill.new.self ≡ replicate (c.args.coef.now.w * c.args.coef.now.h) f0 = search rules in
    rw (← c.scalar.ensures.0, ← c.image_of.ensures.image, ← e) c.upsample_pixels.ensures.pixels
