-- Kept: the check finds none of these alone (scripts/answers tries each).
-- `next_places`: one channel more at its new place.
use Rattle.std.proofs.Common.{◌<◌, ◌∙◌, map, sym, ap, arith, drop, set, get_or-set_other}
use lib.Seq.{get_or-take, length-take-le}
use native.Mathlib.Nat.{le_refl}
use Rattle.std.proofs.lemmas.List.{set-append_left, take-append-drop}
use Rattle.record.specs.declared.Run.{Run}
use Rattle.record.specs.declared.Channel.{Channel}
use Rattle.record.specs.Model.{places_of, with_channels, no_channel}
use Rattle.record.proofs.Placed.{placed_more, placed_none}
use Rattle.record.proofs.Sizes.{count_3, position_small}
use Rattle.record.proofs.legal.LegalRun.next_places.Goals as goal

pub slice_bounds-channels-end : goal.slice_bounds-channels-end
slice_bounds-channels-end g c = omega (arith, count_3 c.args.self.run c.args.self.holds)

pub slice_bounds-x-items-end : goal.slice_bounds-x-items-end
slice_bounds-x-items-end g c = omega (arith, length-take-le c.args.self.run.count c.args.self.run.channels (omega (arith, count_3 c.args.self.run c.args.self.holds)))

pub loop-x-init : goal.loop-x-init
loop-x-init g c =
    let r = c.args.self.run in (
      λ j h below. get_or-take r.count r.channels j no_channel below,
      λ f p. ap (with_channels r) (take-append-drop r.count r.channels) ∙ placed_none r (map f (places_of r)),
    )

pub next_place-requires : goal.next_place-requires
next_place-requires g c =
    let r = c.args.self.run in
    let k = c.loop-x.x-index in
    let below : k < r.count = omega (arith, c.loop-x-test.true, length-take-le r.count r.channels (omega (arith, count_3 r c.args.self.holds))) in
    let here = ap (λ (x : Channel). x.position) (c.loop-x.invariant.0 k (le_refl k) below) in
    c.requires _ (omega (arith, here, position_small r c.args.self.holds (omega arith) k below))

pub loop-x-preserved : goal.loop-x-preserved
loop-x-preserved g c =
    let r = c.args.self.run in
    let k = c.loop-x.x-index in
    let items = c.loop-x.x-items in
    let y = c.next_place.result in
    let below : k < r.count = omega (arith, c.loop-x-test.true, length-take-le r.count r.channels (omega (arith, count_3 r c.args.self.holds))) in (
      λ j h b. get_or-set_other items k j y no_channel (λ e. omega arith) ∙ c.loop-x.invariant.0 j (omega arith) b,
      λ f p.
          ap (with_channels r) (sym (set-append_left items (drop r.count r.channels) k y (omega (arith, c.loop-x-test.true))))
          ∙ ap (λ (q : Run). with_channels r (set q.channels k y)) (c.loop-x.invariant.1 f p)
          ∙ rw (p _ _ c.next_place.ensures, c.loop-x.invariant.0 k (le_refl k) below) (placed_more r (omega (arith, count_3 r c.args.self.holds)) f k below),
    )
