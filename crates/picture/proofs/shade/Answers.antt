-- Kept: the check finds none of these alone (scripts/answers tries each).
-- `picture::shade` meets its contract. Assumes nothing.
use Rattle.std.proofs.Common.{ap, ◌∙◌}
use lib.Ieee.{Float, lt}
use Rattle.float.specs.Names.{f255}
use Rattle.picture.proofs.Bytes.{clamped}
use Rattle.picture.proofs.shade.Goals as goal

pub invariant_of-to_byte : goal.invariant_of-to_byte
invariant_of-to_byte c = record { most = ap (λ (v : Float). lt f255 v) c.clamp-v.ensures ∙ clamped c.args.x }
