-- Kept: the check finds none of these alone (scripts/answers tries each).
-- `picture::finish` meets its contract.
use Rattle.std.proofs.Common.{sym, ◌∙◌}
use Rattle.picture.specs.Finish.{finishing}
use Rattle.picture.proofs.Shades.{shades_are_nearest}
use Rattle.picture.proofs.Sizes.{sizes, lengths}
use Rattle.picture.proofs.finish.Goals as goal

pub returns-then-not-is_legal-clause-made : goal.returns-then-not-is_legal-clause-made
unfolding finishing
returns-then-not-is_legal-clause-made c = rw (← c.is_legal.ensures, c.if-not-is_legal.true)

pub returns-then-not-is_fitting-clause-made : goal.returns-then-not-is_fitting-clause-made
unfolding finishing
returns-then-not-is_fitting-clause-made c = rw (sym c.is_legal.ensures ∙ c.if-not-is_legal.false, ← c.is_fitting.ensures, c.if-not-is_fitting.true)

pub invariant_of-solved : goal.invariant_of-solved
invariant_of-solved c =
    let s = sizes _ _ _ _ _ (sym c.is_legal.ensures ∙ c.if-not-is_legal.false) in
    let l = lengths _ _ _ _ _ _ _ (sym c.is_fitting.ensures ∙ c.if-not-is_fitting.false) in
    record { some = s.some; sides = (s.wide, s.high); long = l.planes }

pub returns-clause-made : goal.returns-clause-made
unfolding finishing
returns-clause-made c =
    rw (sym c.is_legal.ensures ∙ c.if-not-is_legal.false, ← c.is_fitting.ensures, c.if-not-is_fitting.false, c.rows.ensures)

pub returns-then-not-is_legal-clause-nearest_up : goal.returns-then-not-is_legal-clause-nearest_up
returns-then-not-is_legal-clause-nearest_up c = shades_are_nearest

pub returns-then-not-is_fitting-clause-nearest_up : goal.returns-then-not-is_fitting-clause-nearest_up
returns-then-not-is_fitting-clause-nearest_up c = shades_are_nearest

pub returns-clause-nearest_up : goal.returns-clause-nearest_up
returns-clause-nearest_up c = shades_are_nearest
