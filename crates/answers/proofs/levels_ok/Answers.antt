-- Kept: the check doesn't find these alone (scripts/answers tries each).
-- `levels_ok`: the fold over the levels is the test of all.
use Rattle.std.proofs.Common.{rules, ◌∙◌, Bool, true, ◌&&◌}
use Rattle.std.specs.Prelude.{ℤ}
use Rattle.std.proofs.lemmas.Iterator.Consumers.{fold_from_yields_List}
use Rattle.std.proofs.lemmas.Iterator.{YieldsList-from_slice}
use Rattle.answers.specs.Tests.{level_ok}
use Rattle.answers.proofs.Tests.{all_fold}
use Rattle.answers.proofs.levels_ok.Goals as goal

pub returns : goal.returns
returns c =
    let h : Bool → ℤ → Bool = λ ok d. ok && level_ok d in
    fold_from_yields_List _ h _ _ c.fold.ensures.ran (YieldsList-from_slice c.args.levels.now cc) (λ t x b q k. search rules)
    ∙ all_fold level_ok true c.args.levels.now
