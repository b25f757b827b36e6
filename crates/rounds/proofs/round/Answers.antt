-- Kept: the check finds none of these alone (scripts/answers tries each).
use mathlib.Core.Path.{sym, ap, ◌∙◌}
use Prim.Native.Nat.{ℕ}
use Rattle.std.proofs.Common.{rules}
use Rattle.std.specs.Prelude.{Ok, Err}
use Rattle.record.specs.Lent.{levels_in, six_of}
use Rattle.run.specs.Public.{call_of}
use Rattle.numbered.specs.Numbered.{numbered}
use Rattle.rounds.specs.Rounds.{turns}
use Rattle.rounds.proofs.Rest.{rest_same, rest_on}
use Rattle.rounds.proofs.Steps.{begins, goes-on, rest_next, stops, ends, ok_same, err_ok}
use Rattle.rounds.proofs.round.Goals as goal

pub loop-c-init : goal.loop-c-init
loop-c-init c = (begins _ _ _ _ _ c.requires.0 _, search rules, rest_same _)

pub returns-in_err-answer-clause-is : goal.returns-in_err-answer-clause-is
returns-in_err-answer-clause-is c =
    let a = c.args in
    let s = c.loop-c in
    let job = c.requires.1 in
    let called = ap (λ (k : ℕ). call_of s.run (numbered k s.c) (levels_in a.given) a.given.tables.now (six_of s.lent)) (sym job) ∙ c.in_err-answer.ensures.is in
    absurd (stops _ _ _ _ _ c.requires.0 _ _ (c.turns_of-c-end.ensures ∙ ap (λ (k : ℕ). turns k a.run.now.count) job)
    _ _ s.invariant.0 c.loop-c-test.true (Err c.in_err-answer.field-0.0) c.job_value.new.run _ called err_ok)

pub returns-in_default-clause-is : goal.returns-in_default-clause-is
returns-in_default-clause-is c =
    let a = c.args in
    let s = c.loop-c in
    let job = c.requires.1 in
    let called = ap (λ (k : ℕ). call_of s.run (numbered k s.c) (levels_in a.given) a.given.tables.now (six_of s.lent)) (sym job) ∙ c.in_ok-answer.ensures.is in
    rw c.round_of-so_far.ensures
    (stops _ _ _ _ _ c.requires.0 _ _ (c.turns_of-c-end.ensures ∙ ap (λ (k : ℕ). turns k a.run.now.count) job)
    _ _ s.invariant.0 c.loop-c-test.true (Ok c.in_ok-answer.answer) c.job_value.new.run _ called (λ z. c.in_default.not-Done (c.round_of-so_far.ensures ∙ ok_same z)))

pub loop-c-preserved : goal.loop-c-preserved
loop-c-preserved c =
    let a = c.args in
    let s = c.loop-c in
    let job = c.requires.1 in
    let called = ap (λ (k : ℕ). call_of s.run (numbered k s.c) (levels_in a.given) a.given.tables.now (six_of s.lent)) (sym job) ∙ c.in_ok-answer.ensures.is in (
      goes-on _ _ _ _ _ c.requires.0 _ _ (c.turns_of-c-end.ensures ∙ ap (λ (k : ℕ). turns k a.run.now.count) job)
          _ _ s.invariant.0 c.loop-c-test.true (Ok c.in_ok-answer.answer) c.job_value.new.run _ called (ap Ok (sym c.round_of-so_far.ensures ∙ c.in-Done.is)),
      search rules,
      rest_on _ _ _ s.invariant.2
          (rest_next _ _ _ _ _ c.requires.0 _ _ (c.turns_of-c-end.ensures ∙ ap (λ (k : ℕ). turns k a.run.now.count) job)
          _ _ s.invariant.0 (Ok c.in_ok-answer.answer) c.job_value.new.run _ called),
    )

pub returns-clause-is : goal.returns-clause-is
returns-clause-is c =
    let a = c.args in
    let s = c.loop-c in
    let job = c.requires.1 in
    ends _ _ _ _ _ c.requires.0 _ _ (c.turns_of-c-end.ensures ∙ ap (λ (k : ℕ). turns k a.run.now.count) job)
    _ _ s.invariant.0 c.loop-c-test.false

pub returns-in_err-answer-clause-rest : goal.returns-in_err-answer-clause-rest
returns-in_err-answer-clause-rest c =
    let a = c.args in
    let s = c.loop-c in
    let job = c.requires.1 in
    let called = ap (λ (k : ℕ). call_of s.run (numbered k s.c) (levels_in a.given) a.given.tables.now (six_of s.lent)) (sym job) ∙ c.in_err-answer.ensures.is in
    rest_on _ _ _ s.invariant.2
    (rest_next _ _ _ _ _ c.requires.0 _ _ (c.turns_of-c-end.ensures ∙ ap (λ (k : ℕ). turns k a.run.now.count) job)
    _ _ s.invariant.0 (Err c.in_err-answer.field-0.0) c.job_value.new.run _ called)

pub returns-in_default-clause-rest : goal.returns-in_default-clause-rest
returns-in_default-clause-rest c =
    let a = c.args in
    let s = c.loop-c in
    let job = c.requires.1 in
    let called = ap (λ (k : ℕ). call_of s.run (numbered k s.c) (levels_in a.given) a.given.tables.now (six_of s.lent)) (sym job) ∙ c.in_ok-answer.ensures.is in
    rest_on _ _ _ s.invariant.2
    (rest_next _ _ _ _ _ c.requires.0 _ _ (c.turns_of-c-end.ensures ∙ ap (λ (k : ℕ). turns k a.run.now.count) job)
    _ _ s.invariant.0 (Ok c.in_ok-answer.answer) c.job_value.new.run _ called)
