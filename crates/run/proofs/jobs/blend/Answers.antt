-- Kept: the check finds none of these alone (scripts/answers tries each).
-- `blend`: refused as it was, or both gradients of all channels.
use mathlib.Core.Path.{◌≡◌, sym, ap, ◌∙◌}
use mathlib.Core.Bool.{Bool, false}
use mathlib.Core.List.{[]}
use Prim.Native.Nat.{ℕ, ◌/◌}
use lib.ListN.{get_or}
use Rattle.std.proofs.Common.{rules}
use Rattle.std.specs.Prelude.{Err}
use Rattle.start.specs.Coef.{pairs}
use Rattle.calls.specs.Run.{place, held}
use Rattle.calls.specs.Jobs.{blend}
use Rattle.calls.specs.Calls as Calls
use Rattle.gradients.specs.Tv.{Terms}
use Rattle.gradients.specs.Blend.{blended, totals}
use Rattle.work.specs.Work.{blending, blend_totals}
use Rattle.demand.specs.Solver.{constants_of}
use Rattle.record.specs.Model.{sheet_of, places_of}
use Rattle.record.proofs.Sizes.{count_1, count_3}
use Rattle.run.specs.Public.{for_blend}
use Rattle.run.proofs.Ready.{call_refused, call_accepted, blendable}
use Rattle.run.proofs.jobs.blend.Goals as goal

pub returns-in_err-legal : goal.returns-in_err-legal
returns-in_err-legal c =
    let a = c.args in
    let e = c.in_err-legal.field-0.0 in
    let is : c.from_residual.result ≡ Err e = search rules in
    λ levels tables o.
    call_refused a.run.now levels tables blend (for_blend o a.plane.now a.gradient.now a.across.now a.down.now) e is (c.in_err-legal.ensures.number levels tables)

pub invariant_of-turn : goal.invariant_of-turn
invariant_of-turn c = let l = c.in_ok-legal.legal in record { below = count_1 l.run l.holds }

pub blend-t-requires : goal.blend-t-requires
blend-t-requires c =
    let h = blendable c.args.run.now _ _ _ (sym (c.in_ok-legal.ensures.number (pairs [] []) [])) in
    (count_3 c.args.run.now h.is-legal, h.long.0, h.long.1.0, h.long.1.1.0, h.long.1.1.1.0)

pub returns : goal.returns
unfolding blending blend_totals
returns c =
    let a = c.args in
    let r = a.run.now in
    let step = (place (places_of r) 0).position / 5 in
    let b : Terms = record { gradient = a.gradient.now; across = a.across.now; down = a.down.now } in
    let flags = c.held_flags-held in
    let legal = c.in_ok-legal.ensures.ok in
    -- the three flags tell which channels are held
    let are : ◌≡◌ {A = ℕ → Bool} (λ n. get_or flags.result n false) (λ n. held (sheet_of r) n step) = λ i n. (rw legal at flags.ensures) n i in
    let done = rw (c.constants_of-k.ensures, legal) at c.blend-t.ensures.0
    ∙ ap (λ (h : ℕ → Bool). blended r.w r.h r.count h (constants_of (sheet_of r) step).second a.plane.now b) are in
    let sums = rw (c.constants_of-k.ensures, legal) at c.blend-t.ensures.1
    ∙ ap (λ (h : ℕ → Bool). totals r.w r.h r.count h (constants_of (sheet_of r) step).second a.plane.now b) are in
    λ levels tables o.
    call_accepted r levels tables blend (for_blend o a.plane.now a.gradient.now a.across.now a.down.now) (sym (c.in_ok-legal.ensures.number levels tables))
    ∙ sym (λ i. record { answer = Calls.blended (sums i).tv (sums i).tgv; run = (rw legal at c.blended.ensures) i; buffers = for_blend o a.plane.now (done i).gradient (done i).across (done i).down })
