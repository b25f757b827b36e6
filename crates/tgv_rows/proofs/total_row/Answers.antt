-- Kept: the check finds none of these alone (scripts/answers tries each).
use Rattle.std.proofs.Common.{◌∙◌, rules}
use Rattle.std.proofs.lemmas.Iterator.{YieldsList-from_slice}
use Rattle.std.proofs.lemmas.Iterator.Consumers.{fold_from_yields_List}
use lib.Ieee.{Float}
use Rattle.float.specs.Names.{◌⊗◌, ◌⊞◌}
use Rattle.rows.proofs.Summed.{folded}
use Rattle.tgv_rows.proofs.total_row.Goals as goal

pub returns : goal.returns
returns c =
    let h = λ (t m : Float). t ⊞ (c.args.alpha ⊗ m) in
    fold_from_yields_List _ h _ _ c.fold.ensures.ran (YieldsList-from_slice c.args.norm.now cc) (λ t x b q k. search rules) ∙ folded h c.args.tv2 c.args.norm.now
