use Rattle.float.specs.Names.{val}
use Rattle.rows.proofs.RowLaws.{Changed}
use Rattle.rows.proofs.combine_three.Given as goal

abbrev pub invariant-loop-x : goal.invariant-loop-x
invariant-loop-x g l = goal.F-IsAlwaysCallable g l.f × Changed (λ k v r. goal.F-post g l.f v (val l.a k) (val l.b k) (val l.c k) r) l.initial.out l.x l.out
