-- Kept: the check finds none of these alone (scripts/answers tries each).
-- `coef`: a legal record covers its channels, and the levels and tables that are lent are long enough.
use mathlib.Core.Path.{refl}
use Rattle.start.specs.Coef.{pairs}
use Rattle.demand.specs.Solver.{coef_of}
use Rattle.parts.proofs.Covered.{covers, lent_long}
use Rattle.parts.proofs.Handed.coef.Goals as goal

pub invariant_of-result : goal.invariant_of-result
invariant_of-result c =
    let h = c.args.self.now in
    let r = h.turn.legal.run in
    record {
      covers = rw c.own.ensures (covers r h.turn.legal.holds h.turn.c h.turn.below);
      lent = rw (c.own.ensures, c.levels.ensures, c.levels-2.ensures, c.table.ensures) (lent_long r h.turn.c (pairs h.given.lows.now h.given.highs.now) h.given.tables.now h.fed);
    }

pub returns : goal.returns
unfolding coef_of
returns c = (rw (c.own.ensures, c.levels.ensures, c.levels-2.ensures, c.table.ensures), refl, refl)
