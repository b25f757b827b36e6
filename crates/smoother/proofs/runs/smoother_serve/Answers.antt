-- Kept: the check finds none of these alone (scripts/answers tries each).
-- `smoother_serve`: 13 for no letter, or what `serve` gives of the record, in numbers.
use borrow.Author.Rules.{rules}
use Rattle.smoother.proofs.InNumbers.{lettered, unlettered, no_letter_list, serve_numbers, serve_lent}
use Rattle.smoother.proofs.runs.smoother_serve.Goals as goal

pub returns-in_default : goal.returns-in_default
returns-in_default c =
    rw c.from.ensures (no_letter_list c.args.run.now _ _ _ _ _ _ (unlettered _ c.try_from.result c.try_from.ensures c.in_default.not-Ok))

pub returns : goal.returns
returns c =
    let l = lettered c.args.run.now c.try_from.result c.try_from.ensures _ c.in-Ok.is in
    serve_lent
    (serve_numbers c.args.run.now _ _ _ _ _ _ l.0 _ l.1 c.serve-answer.result _ c.told.ensures.1 c.told.ensures.0 c.serve-answer.ensures.is)
    (search rules) (search rules) (search rules) (search rules) (search rules) (search rules)
