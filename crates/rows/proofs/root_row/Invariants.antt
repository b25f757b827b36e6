use Rattle.std.proofs.Common.{◌≡◌}
use Rattle.float.specs.Ops.{root}
use Rattle.rows.proofs.RowLaws.{Changed}
use Rattle.rows.proofs.root_row.Given as goal

abbrev pub invariant-loop-sum : goal.invariant-loop-sum
invariant-loop-sum l = Changed (λ k v r. r ≡ root v) l.initial.sums l.sum-index l.sums
