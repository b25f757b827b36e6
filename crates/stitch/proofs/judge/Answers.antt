-- Kept: the check finds none of these alone (scripts/answers tries each).
-- `stitch::judge` meets its contract.
use mathlib.Core.Path.{refl, ◌∙◌}
use Rattle.sheet.specs.Reading.{read_text}
use Rattle.stitch.specs.Calls.{whole}
use Rattle.stitch.proofs.CallLaws.{judge_both}
use Rattle.stitch.proofs.judge.Goals as goal

pub returns : goal.returns
returns c =
    let a = c.args in
    c.fitted.ensures
    ∙ judge_both a.left.now a.right.now _ _ (read_text whole a.left.now) (read_text whole a.right.now) refl refl c.in_ok-one.ensures c.in_ok-other.ensures
