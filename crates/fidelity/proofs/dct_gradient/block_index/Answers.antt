-- Kept: the check finds none of these alone (scripts/answers tries each).
use mathlib.Core.Path.{refl}
use Rattle.start.proofs.Cover.{block_in}
use Rattle.fidelity.proofs.dct_gradient.block_index.Goals as goal

pub returns : goal.returns
returns c = let s = c.args.coef.now in (refl, block_in s.own s.covers.eights _ _ c.requires.0 c.requires.1)
