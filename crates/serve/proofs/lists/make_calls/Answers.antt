-- Kept: the check finds none of these alone (scripts/answers tries each).
use mathlib.Core.Path.{◌≡◌, sym, ap, ◌∙◌}
use Prim.Native.Nat.{ℕ}
use native.Mathlib.Omega.{arith}
use lib.ListN.{length-set, get_or}
use Rattle.std.proofs.Common.{rules}
use Rattle.record.specs.Lent.{levels_in, six_of}
use Rattle.record.specs.Model.{turn_of}
use Rattle.run.specs.Public.{call_of}
use Rattle.numbered.specs.Numbered.{numbered}
use Rattle.serve.proofs.Listed.{in_number, one_turn, last_turn}
use Rattle.serve.proofs.lists.make_calls.Goals as goal

pub loop-i-preserved : goal.loop-i-preserved
loop-i-preserved c =
    let a = c.args in
    let l = c.loop-i in
    let o = c.job_value in
    let same : turn_of c.unwrap-job.result ≡ get_or a.jobs.now l.i 0 = search rules in (
      omega (arith, c.loop-i-test.true),
      simp length-set l.invariant.1,
      search rules,
      one_turn (levels_in a.given) a.given.tables.now a.jobs.now a.channels.now l.run (six_of l.lent) l.answers l.i (omega (arith, c.loop-i-test.true, l.invariant.1, c.requires.1))
          c.requires.0 (l.invariant.1 ∙ c.requires.1) (in_number o.result (ap (λ (k : ℕ). call_of l.run (numbered k (get_or a.channels.now l.i 0)) (levels_in a.given) a.given.tables.now (six_of l.lent)) (sym same) ∙ o.ensures.is) c.answer_byte.ensures)
          ∙ l.invariant.3,
    )

pub returns-clause-is : goal.returns-clause-is
returns-clause-is c =
    let a = c.args in
    let l = c.loop-i in
    sym l.invariant.3 ∙ last_turn (levels_in a.given) a.given.tables.now a.jobs.now a.channels.now l.run (six_of l.lent) l.answers l.i (omega arith) (omega (arith, l.invariant.1, c.requires.1))
