-- Kept: the check finds none of these alone (scripts/answers tries each).
use Rattle.std.proofs.Common.{◌≡◌, true, false, not, sym, ap, ◌∙◌, rules}
use Rattle.answers.specs.Tests.{all}
use Rattle.dqt.specs.Dqt.{non_zero, elements, fault}
use Rattle.dqt.proofs.Frames.{none_zero}
use Rattle.dqt.proofs.fault.Goals as goal

pub returns-then-contains : goal.returns-then-contains
unfolding fault
returns-then-contains c =
    let xs = elements c.args.rest.now 0 in
    let z : all non_zero xs ≡ false = none_zero xs ∙ ap not (sym c.contains.ensures.value ∙ c.if-contains.true) in search (rules, z)

pub returns : goal.returns
unfolding fault
returns c =
    let xs = elements c.args.rest.now 0 in
    let z : all non_zero xs ≡ true = none_zero xs ∙ ap not (sym c.contains.ensures.value ∙ c.if-contains.false) in search (rules, z)
