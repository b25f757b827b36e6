-- Kept: the check finds none of these alone (scripts/answers tries each).
use Rattle.std.proofs.Common.{◌≡◌, ℕ, ap, sym, ◌∙◌, ◌≤◌, arith, rules, length, min}
use borrow.Author.Count.{below_more}
use Rattle.std.proofs.lemmas.List.{length-append, length-drop}
use Rattle.answers.proofs.Tests.{first_listed, none_listed}
use Rattle.refusal.proofs.Laws.{number_of-positive}
use Rattle.dqt.specs.Dqt.{fault, faults, start, started}
use Rattle.dqt.proofs.Chunks.{left_after, within, fault_cut}
use Rattle.dqt.proofs.faults.Goals as goal

pub loop-table-preserved : goal.loop-table-preserved
loop-table-preserved c =
    let s = c.args.s.now in
    let l = c.loop-table in
    let e = c.in-Some.ensures.steps.1 in
    let t = length l.yielded in
    let long = e.1 ∙ ap (λ (n : ℕ). min n (length l.table-iterator.rest.now)) l.invariant.0 in
    let fine : fault s (start t) ≡ 0 = sym (fault_cut s _ _ _ t l.invariant.1 e.0 long e.2) ∙ sym c.in_ok-fault.ensures in
    rw (length-append l.yielded _)
    (c.in-Some.ensures.steps.0 ∙ l.invariant.0, left_after s _ _ _ t l.invariant.1 e.0 long e.2, below_more (λ k. fault s (start k) ≡ 0) t l.invariant.2 fine)

pub returns-in_err-fault : goal.returns-in_err-fault
returns-in_err-fault c =
    let s = c.args.s.now in
    let l = c.loop-table in
    let e = c.in-Some.ensures.steps.1 in
    let t = length l.yielded in
    let long = e.1 ∙ ap (λ (n : ℕ). min n (length l.table-iterator.rest.now)) l.invariant.0 in
    let n = number_of-positive c.in_err-fault.field-0.0 in
    let at = fault_cut s _ _ _ t l.invariant.1 e.0 long e.2 in
    let in_s = within s _ _ _ t l.invariant.1 e.0 long e.2 in
    let h : faults s ≡ fault s (start t) =
    first_listed (λ t. fault s (start t)) (started s) t (omega (arith, in_s)) l.invariant.2 (omega (arith, n, at, c.in_err-fault.ensures)) in
    search (rules, h, at, c.in_err-fault.ensures)

pub returns : goal.returns
returns c =
    let s = c.args.s.now in
    let l = c.loop-table in
    let t = length l.yielded in
    let end : started s ≤ t = omega (arith, c.in-None.ensures.steps.1.0, ap length l.invariant.1, length-drop (start t) s) in
    sym (none_listed (λ t. fault s (start t)) (started s) (λ k h. l.invariant.2 k (omega (arith, h, end))))
