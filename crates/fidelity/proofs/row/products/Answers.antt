use mathlib.Core.Bool.{cond}
use lib.Ieee.{binary32, add, mul, eq}
use lib.Lanes.{top}
use Rattle.float.specs.Names.{f0, val}
use Rattle.float.specs.Ops.{fused}
use Rattle.utils.proofs.Rows.{eight_ext, eight_is}
use Rattle.fidelity.proofs.Products.{lane}
use Rattle.fidelity.proofs.row.products.Goals as goal

pub returns : goal.returns
returns c =
    let a = c.args.alpha in
    let v = c.args.v in
    let g = c.args.g in
    rw (← eight_is v c.requires.given, ← eight_is g c.requires.held)
    (eight_ext (λ j. cond (top 31 (cond (eq (val v j) f0) 4294967295 0)) (add binary32 (mul binary32 a (val v j)) (val g j)) (mul binary32 a (val v j))) (λ j. fused a (val v j) (val g j))
    (λ j l. lane a (val v j) (val g j) c.requires.some (c.requires.zero j l)))
