-- Kept: the check finds none of these alone (scripts/answers tries each).
use Rattle.std.proofs.Common.{◌∙◌, ◌*◌, ◌-◌, ℕ, refl, rules}
use Rattle.std.proofs.lemmas.Iterator.{YieldsList-from_range}
use Rattle.std.proofs.lemmas.Iterator.Consumers.{fold_from_yields_List}
use lib.Ieee.{Float}
use Rattle.steps.specs.Solve.{next_term}
use Rattle.steps.proofs.Marks.{term_from}
use Rattle.steps.proofs.solve.term_of.Goals as goal

pub returns : goal.returns
returns c =
    let k = c.mark_before-k in
    let h = λ (t : Float) (i : ℕ). next_term t in
    fold_from_yields_List _ h _ _ c.fold.ensures.ran (YieldsList-from_range (64 * k.result) c.args.step (c.args.step - 64 * k.result) (cc) refl) (λ t x b q m. search rules)
    ∙ term_from k.result c.args.step k.ensures.0 k.ensures.1
