-- `next_places`: the channels passed are at their new places, and the others as they were.
use Rattle.std.proofs.Common.{◌≡◌, map, ℕ, ◌<◌, ◌≤◌, ◌++◌, drop, get_or, take}
use Rattle.calls.specs.Run.{Place}
use Rattle.record.specs.declared.Channel.{Channel}
use Rattle.record.specs.Model.{place_of, places_of, placed, with_channels, with_place, no_channel}
use Rattle.record.proofs.legal.LegalRun.next_places.Given as goal

abbrev pub invariant-loop-x : goal.invariant-loop-x
invariant-loop-x g l =
    ((j : ℕ) → l.x-index ≤ j → j < l.self.run.count → get_or l.x-items j no_channel ≡ get_or l.self.run.channels j no_channel)
    × ((f : Place → Place) → ((x y : Channel) → goal.F-post g l.next_place x y → y ≡ with_place x (f (place_of x)))
    → with_channels l.self.run (l.x-items ++ drop l.self.run.count l.self.run.channels) ≡ placed l.self.run (take l.x-index (map f (places_of l.self.run))))
