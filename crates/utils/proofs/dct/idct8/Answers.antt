use mathlib.Core.Path.{refl}
use Rattle.utils.specs.Dct.{idct8}
use Rattle.utils.proofs.dct.idct8.Goals as goal

pub returns : goal.returns
unfolding idct8
returns c = rw (← c.requires) refl
