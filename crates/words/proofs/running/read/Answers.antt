-- Kept: the check finds none of these alone (scripts/answers tries each).
-- `words::running::read`: one value more.
use Rattle.std.proofs.Common.{rules}
use native.Mathlib.Numerals.{add-one}
use native.Mathlib.Omega.{arith}
use Rattle.std.proofs.lemmas.List.{take_more_set}
use Rattle.words.proofs.running.read.Goals as goal

pub loop-x-preserved : goal.loop-x-preserved
loop-x-preserved g c =
    let l = c.loop-x in (
      search rules,
      l.invariant.1,
      λ f p. rw (take_more_set l.xs l.x-index c.value.result (omega arith), l.invariant.2 f p, p _ _ c.value.ensures, add-one l.x-index) (search rules),
    )
