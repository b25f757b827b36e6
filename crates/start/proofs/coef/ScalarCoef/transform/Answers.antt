-- Kept: the check finds none of these alone (scripts/answers tries each).
use mathlib.Core.Path.{◌≡◌}
use borrow.Author.Rules.{rules}
use Prim.Native.Nat.{◌/◌}
use native.Mathlib.Omega.{arith}
use lib.ListN.{length, replicate}
use Rattle.float.specs.Names.{f0}
use Rattle.start.specs.Coef.{block_count, px_count}
use Rattle.start.proofs.Cover.{blocks_fill}
use Rattle.start.proofs.coef.ScalarCoef.transform.Goals as goal

pub returns : goal.returns
returns c =
    let e : c.fill.new.self ≡ replicate (px_count c.args.self.now.own) f0 = search (rules, c.requires) in
    let o = c.args.self.now.own in
    let n : length c.init_dct_target_into.new.out / 64 ≡ block_count o = omega (arith, c.requires, blocks_fill o.width o.height c.args.self.now.eights.0 c.args.self.now.eights.1) in
    rw (← e, ← c.init_dct_target_into.ensures, ← n) c.idct_blocks.ensures
