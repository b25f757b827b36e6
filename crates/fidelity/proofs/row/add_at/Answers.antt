use mathlib.Core.Path.{◌∙◌, ap}
use mathlib.Core.List.{List}
use Prim.Native.Nat.{◌+◌}
use native.Mathlib.Omega.{arith}
use lib.Ieee.{Float, nan}
use Rattle.fold.specs.Part.{part, splice}
use Rattle.fold.proofs.Parts.{part_at}
use Rattle.float.specs.Names.{val}
use Rattle.float.specs.Ops.{fused}
use Rattle.utils.proofs.Rows.{eight_ext, turned_row}
use Rattle.fidelity.proofs.row.add_at.Goals as goal

pub returns : goal.returns
returns c =
    let g = c.args.gradient.now in
    let a = c.args.at in
    let v = c.args.v.now in
    let values = eight_ext (λ j. fused c.args.alpha (val v j) (val (part g a (a + 8)) j)) (λ j. fused c.args.alpha (val v j) (val g (a + j)))
    (λ j l. ap (λ (x : Float). fused c.args.alpha (val v j) x) (part_at g a (a + 8) (omega arith) c.requires.room j nan (omega arith))) in
    ap (λ (r : List Float). splice g a (a + 8) r) (c.add_row.ensures ∙ values) ∙ turned_row (λ j x. fused c.args.alpha (val v j) x) g a c.requires.room
