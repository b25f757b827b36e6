-- `hiding::hide` meets its contract: what is shown up to a place, then what is left to show, is the whole.
use Rattle.hiding.proofs.HideLaws.{Hiding}
use Rattle.hiding.proofs.hide.Given as goal

abbrev pub invariant-loop-i : goal.invariant-loop-i
invariant-loop-i l = Hiding l.bits l.initial.levels l.levels l.i
