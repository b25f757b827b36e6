-- Kept: the check finds none of these alone (scripts/answers tries each).
use Rattle.std.proofs.Common.{rules}
use Rattle.rows.proofs.Lent.{store_is}
use Rattle.rows.proofs.differ.Goals as goal

pub returns : goal.returns
returns c = let a = c.args in store_is _ a.out.now _ (search rules) (λ x l. let p = c.combine.ensures x l in search rules)
