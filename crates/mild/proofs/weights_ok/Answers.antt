-- Kept: the check finds none of these alone (scripts/answers tries each).
-- `weights_ok`: the test of every channel listed is that of every number below the count.
use mathlib.Core.Path.{sym, ap, ◌∙◌}
use Prim.Native.Nat.{◌≤◌}
use native.Mathlib.Omega.{arith}
use lib.ListN.{length, take}
use Rattle.std.proofs.Common.{rules}
use Rattle.std.proofs.lemmas.Iterator.{YieldsList-from_slice}
use Rattle.std.proofs.lemmas.Iterator.Search.{all_from_yields_List}
use Rattle.calls.specs.Run.{Numbers}
use Rattle.record.specs.Model.{no_channel}
use Rattle.record.proofs.Channels.{at_own}
use Rattle.record.proofs.Firsts.{all_first, every_same}
use Rattle.mild.specs.Mild.{light}
use Rattle.mild.proofs.weights_ok.Goals as goal

pub returns : goal.returns
returns c =
    let r = c.args.run in
    let long : r.count ≤ length r.channels = omega (arith, c.requires) in
    all_from_yields_List (λ x. light x.weight) _ _ _ c.all.ensures.ran (YieldsList-from_slice (take r.count r.channels) cc) (λ x b q k. search rules)
    ∙ all_first (λ x. light x.weight) no_channel r.channels r.count long
    ∙ every_same r.count (λ i l. ap (λ (o : Numbers). light o.data_weight) (sym (at_own r i long l)))
