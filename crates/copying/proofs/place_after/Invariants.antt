-- `copying::place_after` meets its contract.
use Rattle.copying.proofs.PartLaws.{Placing}
use Rattle.copying.proofs.place_after.Given as goal

abbrev pub invariant-loop-i : goal.invariant-loop-i
invariant-loop-i l = Placing l.text l.b l.n l.i l.left
