-- Kept: the check finds none of these alone (scripts/answers tries each).
use Rattle.std.proofs.Common.{arith}
use Rattle.std.proofs.lemmas.List.{set-get_or}
use Rattle.hiding.proofs.HideLaws.{hide_step}
use Rattle.hiding.proofs.hide.Goals as goal
use Rattle.hiding.proofs.hide.Goals.{then-is_hidden, else-is_hidden}

pub loop-i-preserved : goal.loop-i-preserved
loop-i-preserved c =
    let s = hide_step c.loop-i.invariant (omega arith) c.is_hidden.result c.is_hidden.ensures in
    elim c.if-is_hidden.branch [
      | then-is_hidden w ↦ rw w.levels-is (rw w.if-is_hidden.true at s)
      | else-is_hidden w ↦ rw (w.levels-is, set-get_or) (rw w.if-is_hidden.false at s)
    ]
