-- Kept: the check finds none of these alone (scripts/answers tries each).
-- `start`: the parts that are lent on are the channel's.
use Rattle.record.specs.Lent.{levels_in, six_of}
use Rattle.parts.proofs.Started.{part_started}
use Rattle.parts.proofs.Handed.start.Goals as goal

pub returns-clause-started : goal.returns-clause-started
returns-clause-started c =
    let h = c.args.self.now in
    part_started h.turn.legal.run h.turn.c (levels_in h.given) h.given.tables.now (six_of c.args.lent.now) c.span-s.ensures.0 c.span-s.ensures.1 c.coef.ensures c.start.ensures.buffers
