-- Kept: the check finds none of these alone (scripts/answers tries each).
use mathlib.Core.Path.{◌≡◌, sym, ap, ◌∙◌}
use Prim.Native.Nat.{◌*◌, ◌+◌}
use native.Mathlib.Omega.{arith}
use Rattle.std.proofs.Common.{rules}
use Rattle.std.specs.Prelude.{Ok}
use Rattle.rounds.specs.declared.RoundEnd.{RoundEnd}
use Rattle.rounds.specs.Rounds.{with_pair}
use Rattle.rounds.proofs.Rest.{rest_same, rest_on}
use Rattle.rounds.proofs.Ends.{ends_there, begins, round_asks, turn_is, jobs_turn, goes-on, stops, ends, goes, going}
use Rattle.rounds.proofs.all_rounds.Goals as goal

pub loop-step-init : goal.loop-step-init
loop-step-init c = (begins _ _ _ _ _ c.requires _, search rules, rest_same _)

pub round-requires : goal.round-requires
round-requires c =
    let s = c.loop-job in (
      round_asks _ _ _ _ _ c.requires _ _ _ _ _ s.invariant.0 c.loop-step-test.true c.loop-job-test.true,
      jobs_turn s.job-index c.loop-job-test.true ∙ sym (turn_is _ _ _ _ _ c.requires _ _ _ _ _ s.invariant.0 c.loop-step-test.true c.loop-job-test.true),
    )

pub returns-in-Blown-clause-is : goal.returns-in-Blown-clause-is
returns-in-Blown-clause-is c =
    let s = c.loop-job in
    stops _ _ _ _ _ c.requires _ _ _ _ _ s.invariant.0 c.loop-step-test.true c.loop-job-test.true (Ok c.in_ok-answer.answer) c.round.new.run _ _ c.in_ok-answer.ensures.is
    (sym (ap (λ (a : RoundEnd). with_pair (Ok a) c.loop-step.step s.totals) c.in-Blown.is)) (ap (λ (a : RoundEnd). goes (Ok a)) c.in-Blown.is)

pub loop-job-preserved : goal.loop-job-preserved
loop-job-preserved c =
    let s = c.loop-job in (
      goes-on _ _ _ _ _ c.requires _ _ _ _ _ s.invariant.0 c.loop-step-test.true c.loop-job-test.true (Ok c.in_ok-answer.answer) c.round.new.run _ _ c.in_ok-answer.ensures.is c.put_pair.ensures
          (going _ c.in_default.not-Blown),
      search rules,
      rest_on _ _ _ s.invariant.2 c.in_ok-answer.ensures.rest,
    )

pub returns-clause-is : goal.returns-clause-is
returns-clause-is c = ends _ _ _ _ _ c.requires _ _ _ _ c.loop-step.invariant.0 c.loop-step-test.false

pub returns-in_err-answer-clause-rest : goal.returns-in_err-answer-clause-rest
returns-in_err-answer-clause-rest c = rest_on _ _ _ c.loop-job.invariant.2 c.in_err-answer.ensures.rest

pub returns-in-Blown-clause-rest : goal.returns-in-Blown-clause-rest
returns-in-Blown-clause-rest c = rest_on _ _ _ c.loop-job.invariant.2 c.in_ok-answer.ensures.rest

pub returns-clause-at_end : goal.returns-clause-at_end
returns-clause-at_end c = λ e. ends_there _ _ _ _ _ c.requires _ _ _ _ c.loop-step.invariant.0 c.loop-step-test.false
