-- Kept: the check finds none of these alone (scripts/answers tries each).
use Rattle.std.proofs.Common.{ap, ◌∙◌}
use Rattle.steps.specs.Solve.{Planes}
use Rattle.steps.proofs.Laws.{pushed_all, pushed_prior}
use Rattle.steps.proofs.solve.push.Goals as goal

pub returns-clause-is : goal.returns-clause-is
returns-clause-is c =
    let done = c.before.before.before.before in
    pushed_all _ _ done.before.before.before.before.before.requires _ done.push_places.ensures

pub returns-clause-prior : goal.returns-clause-prior
returns-clause-prior c = let done = c.before.before.before.before in ap (λ (s : Planes). s.prior) (returns-clause-is c) ∙ pushed_prior _ _ done.before.before.before.before.before.requires
