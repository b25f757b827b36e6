-- Kept: the check finds none of these alone (scripts/answers tries each).
use Rattle.std.proofs.Common.{◌∙◌, rules}
use Rattle.std.specs.Float.{binary64}
use Rattle.std.proofs.lemmas.Iterator.{YieldsList-from_slice}
use Rattle.std.proofs.lemmas.Iterator.Consumers.{fold_from_yields_List}
use lib.Ieee.{Float}
use Rattle.float.specs.Ops.{fused_at}
use Rattle.rows.proofs.Summed.{folded}
use Rattle.tv_rows.proofs.total_row.Goals as goal

pub returns : goal.returns
returns c =
    let h = λ (t m : Float). fused_at binary64 c.args.alpha m t in
    fold_from_yields_List _ h _ _ c.fold.ensures.ran (YieldsList-from_slice c.args.norm.now cc) (λ t x b q k. search rules) ∙ folded h c.args.tv c.args.norm.now
