use Rattle.std.proofs.Common.{◌≡◌}
use Rattle.std.specs.Float.Ieee.{neg}
use Rattle.float.specs.Ops.{mul_add}
use Rattle.float.specs.Names.{◌⊗◌, ◌⊘◌, f2, val}
use Rattle.rows.proofs.RowLaws.{Changed}
use Rattle.tgv_rows.proofs.own_quotients.Given as goal

abbrev pub invariant-loop-x : goal.invariant-loop-x
invariant-loop-x l = Changed (λ k v r. r ≡ neg (mul_add f2 (val l.yy k) (mul_add f2 (val l.xx k) (f2 ⊗ val l.xy k))) ⊘ val l.norm k) l.initial.q l.x l.q
