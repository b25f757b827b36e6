-- Kept: the check finds none of these alone (scripts/answers tries each).
-- `channels_ok`: the test of every channel listed is that of every number below the count.
use mathlib.Core.Path.{sym, ◌∙◌}
use mathlib.Core.Bool.{Bool, ◌&&◌}
use Prim.Native.Nat.{ℕ, ◌≤◌}
use native.Mathlib.Omega.{arith}
use lib.Dec.{eqb}
use lib.ListN.{length, get_or, take}
use Rattle.std.proofs.Common.{rules}
use Rattle.std.proofs.lemmas.Iterator.{YieldsList-from_slice}
use Rattle.std.proofs.lemmas.Iterator.Search.{all_from_yields_List}
use Rattle.calls.specs.Run.{own_ok, place_ok, blends_in}
use Rattle.record.specs.declared.Channel.{Channel}
use Rattle.record.specs.Model.{own_of, place_of, sheet_of, no_channel}
use Rattle.record.proofs.Channels.{at_own, at_place, at_position}
use Rattle.record.proofs.Firsts.{all_first, every_same}
use Rattle.record.proofs.legal.channels_ok.Goals as goal

pub returns : goal.returns
returns c =
    let r = c.args.run in
    let S = sheet_of r in
    let long : r.count ≤ length r.channels = omega (arith, c.requires) in
    let first : ℕ = blends_in (get_or r.channels 0 no_channel).position in
    let test : Channel → Bool = λ x. own_ok S (own_of x) && place_ok S (own_of x) (place_of x) && eqb (blends_in x.position) first in
    all_from_yields_List test _ _ _ c.all.ensures.ran (YieldsList-from_slice (take r.count r.channels) cc) (λ x b q k. search rules)
    ∙ all_first test no_channel r.channels r.count long
    ∙ every_same r.count
    (λ i l k. own_ok S (sym (at_own r i long l) k) && place_ok S (sym (at_own r i long l) k) (sym (at_place r i long l) k) && eqb (blends_in (sym (at_position r i long l) k)) (blends_in (sym (at_position r 0 long (omega arith)) k)))
