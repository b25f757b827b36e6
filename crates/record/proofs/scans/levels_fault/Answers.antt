-- Kept: the check finds none of these alone (scripts/answers tries each).
-- `levels_fault`: by the pair that is looked at.
use mathlib.Core.Path.{◌≡◌, sym, ap, ◌∙◌}
use Prim.Native.Nat.{◌<◌, ◌≤◌}
use native.Mathlib.Omega.{arith}
use mir.Facts.{to_z-of_z}
use mir.Val.{to_z, of_z}
use mir.Syntax.{w16}
use lib.IntN.{pos}
use lib.ListN.{length, drop_of_length-le}
use Rattle.std.specs.Iterator.Adapters.{zip_first, zip_second}
use Rattle.std.specs.Slice.Iter.{iter_rest}
use Rattle.std.proofs.Common.{rules}
use Rattle.std.proofs.lemmas.List.{length_push}
use Rattle.std.proofs.lemmas.Slice.Zip.{zip_turn, zip_end}
use Rattle.refusal.specs.Refusal.{number_of, answer_number}
use Rattle.refusal.proofs.Laws.{number_of-positive}
use Rattle.calls.specs.Calls.{first, pair_fault, pair_faults}
use Rattle.calls.proofs.Tests.{pair-at, pairs_many, fault_here, none_here}
use Rattle.record.proofs.scans.levels_fault.Goals as goal

pub loop-low-preserved : goal.loop-low-preserved
loop-low-preserved c =
    let ls = c.args.lows.now in
    let hs = c.args.highs.now in
    let l = c.loop-low in
    let start = c.into_iter-low-iterator.result in
    let one : iter_rest (zip_first start) ≡ ls = cc in
    let two : iter_rest (zip_second start) ≡ hs = cc in
    let t = zip_turn ls hs l.yielded start c.loop-low.low-iterator c.next.new.self c.next.result one two l.yielded_by _ c.in-Some.is c.next.ensures.steps in
    let many = pairs_many ls hs (sym c.requires) in
    let below : length l.yielded < length (pair_faults ls hs) = omega (arith, t.0) in
    let low : to_z w16 (of_z w16 c.in-Some.field-0-0.now) ≡ c.in-Some.field-0-0.now = search (rules, to_z-of_z) in
    let high : to_z w16 (of_z w16 c.in-Some.field-0-1.now) ≡ c.in-Some.field-0-1.now = search (rules, to_z-of_z) in
    let none : pair_fault c.in-Some.field-0-0.now c.in-Some.field-0-1.now ≡ 0 = sym (rw (low, high) at c.in_ok-pair_fault.ensures) in
    let at = pair-at ls hs (sym c.requires) (length l.yielded) in
    rw (length_push l.yielded (c.in-Some.field-0-0, c.in-Some.field-0-1)) (l.invariant ∙ none_here (pair_faults ls hs) (length l.yielded) below (at ∙ (λ i. pair_fault (sym (t.2 (pos 0)) i) (sym (t.3 (pos 0)) i)) ∙ none))

pub returns-in_err-pair_fault : goal.returns-in_err-pair_fault
returns-in_err-pair_fault c =
    let ls = c.args.lows.now in
    let hs = c.args.highs.now in
    let l = c.loop-low in
    let start = c.into_iter-low-iterator.result in
    let one : iter_rest (zip_first start) ≡ ls = cc in
    let two : iter_rest (zip_second start) ≡ hs = cc in
    let e = c.in_err-pair_fault.field-0.0 in
    let same : answer_number c.from_residual.result ≡ number_of e = search rules in
    let t = zip_turn ls hs l.yielded start c.loop-low.low-iterator c.next.new.self c.next.result one two l.yielded_by _ c.in-Some.is c.next.ensures.steps in
    let many = pairs_many ls hs (sym c.requires) in
    let below : length l.yielded < length (pair_faults ls hs) = omega (arith, t.0) in
    let low : to_z w16 (of_z w16 c.in-Some.field-0-0.now) ≡ c.in-Some.field-0-0.now = search (rules, to_z-of_z) in
    let high : to_z w16 (of_z w16 c.in-Some.field-0-1.now) ≡ c.in-Some.field-0-1.now = search (rules, to_z-of_z) in
    let fault : number_of e ≡ pair_fault c.in-Some.field-0-0.now c.in-Some.field-0-1.now = rw (low, high) at c.in_err-pair_fault.ensures in
    let at = pair-at ls hs (sym c.requires) (length l.yielded) ∙ (λ i. pair_fault (sym (t.2 (pos 0)) i) (sym (t.3 (pos 0)) i)) ∙ sym fault in
    same ∙ sym (l.invariant ∙ fault_here (pair_faults ls hs) (length l.yielded) below (λ z. absurd (omega (arith, sym at ∙ z, number_of-positive e))) ∙ at)

pub returns : goal.returns
returns c =
    let ls = c.args.lows.now in
    let hs = c.args.highs.now in
    let l = c.loop-low in
    let start = c.into_iter-low-iterator.result in
    let one : iter_rest (zip_first start) ≡ ls = cc in
    let two : iter_rest (zip_second start) ≡ hs = cc in
    let n = zip_end ls hs l.yielded start c.loop-low.low-iterator c.next.new.self c.next.result one two l.yielded_by c.in-None.is c.next.ensures.steps in
    let all : length (pair_faults ls hs) ≤ length l.yielded = omega (arith, n, pairs_many ls hs (sym c.requires), c.requires) in
    sym (l.invariant ∙ ap first (drop_of_length-le (pair_faults ls hs) all))
