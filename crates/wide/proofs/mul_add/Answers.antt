-- Kept: the check finds none of these alone (scripts/answers tries each).
-- `wide::mul_add` meets its contract: the f64 sum, where it is clear, narrows to `fused`. Assumes nothing.
use mathlib.Core.Path.{sym, subst}
use lib.Dec.{T}
use Rattle.float.proofs.ResultLaws.{fused_is}
use Rattle.wide.proofs.Widen.{narrowed}
use Rattle.wide.proofs.mul_add.Goals as goal

pub returns-then-is_clear-clause-is : goal.returns-then-is_clear-clause-is
returns-then-is_clear-clause-is c =
    let a = c.args in
    narrowed a.a a.b a.c c.narrow.result (subst T (sym c.well_formed.0.1) tt) (subst T (sym c.well_formed.1.0.1) tt) (subst T (sym c.well_formed.1.1.0.1) tt)
    (rw (c.from.ensures, c.from-2.ensures, c.from-3.ensures) at (c.is_clear.ensures c.if-is_clear.true))
    (rw (c.from.ensures, c.from-2.ensures, c.from-3.ensures) at c.narrow.ensures)

pub returns-then-is_clear-clause-once : goal.returns-then-is_clear-clause-once
returns-then-is_clear-clause-once c = fused_is c.args.a c.args.b c.args.c c.narrow.result (returns-then-is_clear-clause-is c)
