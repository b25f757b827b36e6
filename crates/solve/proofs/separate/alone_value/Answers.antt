-- Kept: the check finds none of these alone (scripts/answers tries each).
-- `alone_value`: the parts that are lent on are channel c's.
use Rattle.record.specs.Lent.{levels_in, six_of}
use Rattle.rounds.specs.Whole.{loan}
use Rattle.solve.proofs.Alone.{own_room, alone_is}
use Rattle.solve.proofs.separate.alone_value.Goals as goal

pub run_six-requires : goal.run_six-requires
run_six-requires c =
    let p = c.parts_of-p.ensures in
    let a = c.args in
    rw (c.requires.alone, p.x-is, p.y_is) (own_room a.s a.c a.totals.now c.requires.asks.totals_long c.requires.asks.below)

pub returns-clause-is : goal.returns-clause-is
returns-clause-is c =
    let a = c.args in
    let p = c.parts_of-p.result in
    let o = c.run_six in
    alone_is a.s a.c (levels_in a.given) a.given.tables.now
    (loan (six_of a.lent.now) a.totals.now)
    p.from p.to p.levels_from p.levels_to p.tables_from p.tables_to p.totals_from p.totals_to c.parts_of-p.ensures
    a.run.now c.requires.alone o.result o.new.run _ o.ensures
