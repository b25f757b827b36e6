use mathlib.Core.Path.{refl}
use Rattle.utils.proofs.Lanes.{whole}
use Rattle.utils.proofs.dct.load.Goals as goal

pub returns : goal.returns
returns c = rw (← whole c.args.a.now c.requires) refl
