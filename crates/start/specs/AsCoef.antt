-- What a `ScalarCoef` and a `Coef` of the code stand for.
use Rattle.start.specs.Coef.{Coef, coef, pairs}
use Rattle.start.specs.declared.coef.Coef as Declared
use Rattle.start.specs.declared.coef.ScalarCoef.{ScalarCoef}

-- ScalarCoef: the levels and quantisers that are lent, with the channel's own sides and factors
abbrev pub scalar : ScalarCoef → Coef
scalar c = coef c.own (pairs c.lows.now c.highs.now) c.table.now

-- the same of the code's `Coef`, which has the full sides beside them
abbrev pub as_coef : Declared.Coef → Coef
as_coef c = coef c.own (pairs c.lows.now c.highs.now) c.table.now
