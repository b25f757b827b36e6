-- Kept: the check finds none of these alone (scripts/answers tries each).
-- `span`: the part lies within the lent buffer.
use mathlib.Core.Path.{ap}
use Prim.Native.Nat.{◌/◌}
use native.Mathlib.Omega.{arith}
use Rattle.calls.specs.Run.{Place}
use Rattle.record.proofs.Sizes.{part_ends, all_small}
use Rattle.record.proofs.legal.Turn.span.Goals as goal

pub overflow_mul-from : goal.overflow_mul-from
overflow_mul-from c = record { fits = rw c.area-n.ensures (omega (arith, part_ends c.args.self.legal.run c.args.self.legal.holds c.args.self.c c.args.self.below, all_small c.args.self.legal.run c.args.self.legal.holds)) }

pub overflow_add-result : goal.overflow_add-result
overflow_add-result c = record { fits = rw c.area-n.ensures (omega (arith, part_ends c.args.self.legal.run c.args.self.legal.holds c.args.self.c c.args.self.below, all_small c.args.self.legal.run c.args.self.legal.holds)) }

pub returns : goal.returns
returns c =
    let s = c in
    let n = c.area-n.ensures in
    let in_all = part_ends s.args.self.legal.run s.args.self.legal.holds s.args.self.c s.args.self.below in (
      rw n,
      rw n,
      ap (λ (p : Place). p.position / 5) c.channel-x.ensures.its_place,
      rw n in_all,
      rw n (omega (arith, in_all, all_small s.args.self.legal.run s.args.self.legal.holds)),
    )
