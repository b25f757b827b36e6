use mathlib.Core.Path.{refl}
use Rattle.utils.specs.Dct.{dct8}
use Rattle.utils.proofs.dct.dct8.Goals as goal

pub returns : goal.returns
unfolding dct8
returns c = rw (← c.requires) refl
