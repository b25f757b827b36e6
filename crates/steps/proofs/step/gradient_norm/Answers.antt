-- Kept: the check finds none of these alone (scripts/answers tries each).
use Rattle.std.proofs.Common.{◌∙◌, ap, rules}
use Rattle.std.proofs.lemmas.Iterator.{YieldsList-from_slice}
use Rattle.std.proofs.lemmas.Iterator.Consumers.{fold_from_yields_List}
use lib.Ieee.{Float}
use Rattle.float.specs.Ops.{mul_add, root}
use Rattle.float.specs.Names.{f0}
use Rattle.steps.specs.Step.{gradient_norm}
use Rattle.steps.proofs.Summed.{folded}
use Rattle.steps.proofs.step.gradient_norm.Goals as goal

pub returns : goal.returns
unfolding gradient_norm
returns c =
    let h = λ (t x : Float). mul_add x x t in
    c.sqrt.ensures.is ∙ ap root (fold_from_yields_List _ h _ _ c.fold-sum.ensures.ran (YieldsList-from_slice c.args.gradient.now cc) (λ t x b q k. search rules) ∙ folded h f0 c.args.gradient.now)
