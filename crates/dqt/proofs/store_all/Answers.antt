-- Kept: the check finds none of these alone (scripts/answers tries each).
use Rattle.std.proofs.Common.{ℕ, ap, ◌∙◌, arith, rules, length, min}
use Rattle.std.proofs.lemmas.List.{length-append}
use Rattle.std.proofs.lemmas.Grind.{common_steps}
use Rattle.fold.proofs.Loops.{upto_none, upto-call}
use Rattle.dqt.specs.Dqt.{head_ok, start}
use Rattle.dqt.proofs.Frames.{head_from}
use Rattle.dqt.proofs.Chunks.{left_after, within, head_cut, stored_cut, long_cut}
use Rattle.dqt.proofs.Sound.{each_sound}
use Rattle.dqt.proofs.store_all.Goals as goal

pub loop-table-init : goal.loop-table-init
loop-table-init c = (search rules, grind (arith, common_steps), upto_none _ _, omega arith)

pub store-requires : goal.store-requires
store-requires c =
    let s = c.args.segment.now in
    let l = c.loop-table in
    let e = c.in-Some.ensures.steps.1 in
    let t = length l.yielded in
    let long = e.1 ∙ ap (λ (n : ℕ). min n (length l.table-iterator.rest.now)) l.invariant.0 in
    let in_s = within s _ _ _ t l.invariant.1 e.0 long e.2 in
    let f = each_sound s c.requires.1 t (omega (arith, in_s)) in
    (long_cut s _ _ _ t l.invariant.1 e.0 long e.2 f.long, ap head_ok (head_cut s _ _ _ t l.invariant.1 e.0 long e.2 ∙ head_from s (start t)) ∙ f.head)

pub loop-table-preserved : goal.loop-table-preserved
loop-table-preserved c =
    let s = c.args.segment.now in
    let l = c.loop-table in
    let e = c.in-Some.ensures.steps.1 in
    let t = length l.yielded in
    let long = e.1 ∙ ap (λ (n : ℕ). min n (length l.table-iterator.rest.now)) l.invariant.0 in
    let in_s = within s _ _ _ t l.invariant.1 e.0 long e.2 in
    rw (length-append l.yielded _) (
      c.in-Some.ensures.steps.0 ∙ l.invariant.0,
      left_after s _ _ _ t l.invariant.1 e.0 long e.2,
      upto-call _ _ _ l.invariant.2 (c.store.ensures ∙ stored_cut s _ _ _ t l.invariant.1 e.0 long e.2 _),
      omega (arith, in_s),
    )
