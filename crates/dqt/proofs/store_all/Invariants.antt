-- `dqt::store_all` meets its contract: so far as the loop has come, the tables passed are stored, and the others are left. Assumes nothing.
use Rattle.std.proofs.Common.{◌≡◌, ◌≤◌, length, drop}
use Rattle.fold.specs.Fold.{upto}
use Rattle.dqt.specs.Dqt.{start, started, stored}
use Rattle.dqt.proofs.store_all.Given as goal

abbrev pub invariant-loop-table : goal.invariant-loop-table
invariant-loop-table l =
    (l.table-iterator.size ≡ 65) × (l.table-iterator.rest.now ≡ drop (start (length l.yielded)) l.segment)
    × (l.tables ≡ upto (λ t. stored l.segment (start t)) (length l.yielded) l.initial.tables)
    × (length l.yielded ≤ started l.segment)
