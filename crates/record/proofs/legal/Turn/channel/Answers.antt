-- Kept: the check finds none of these alone (scripts/answers tries each).
-- `channel`: one of the three.
use mathlib.Core.Path.{refl, sym}
use Prim.Native.Nat.{◌≤◌}
use native.Mathlib.Omega.{arith}
use lib.ListN.{length}
use Rattle.record.proofs.Channels.{at_own, at_place}
use Rattle.record.proofs.Sizes as sizes
use Rattle.record.proofs.legal.Turn.channel.Goals as goal

pub bounds-self-self : goal.bounds-self-self
bounds-self-self c = omega (arith, sizes.count_3 c.args.self.legal.run c.args.self.legal.holds)

pub returns : goal.returns
returns c =
    let r = c.args.self.legal.run in
    let i = c.args.self.c in
    let long : r.count ≤ length r.channels = omega (arith, sizes.count_3 r c.args.self.legal.holds) in
    record {
      is = refl;
      its_own = sym (at_own r i long c.args.self.below);
      its_place = sym (at_place r i long c.args.self.below);
      position_small = sizes.position_small r c.args.self.legal.holds (omega arith) i c.args.self.below;
    }
