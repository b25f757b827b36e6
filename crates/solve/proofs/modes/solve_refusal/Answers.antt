-- Kept: the check finds none of these alone (scripts/answers tries each).
-- `solve_refusal`: 13 by both modes' records, 8 by the totals' room, then what start refuses of the joint one.
use mathlib.Core.Path.{◌≡◌, sym, ◌∙◌}
use Rattle.std.proofs.Common.{rules}
use Rattle.refusal.specs.Refusal.{number_of, answer_number}
use native.Mathlib.Omega.{arith}
use Rattle.solve.proofs.Alone.{not_legal, not_long, then_start, legal_few}
use Rattle.solve.proofs.modes.solve_refusal.Goals as goal

pub returns-then-not-all_legal : goal.returns-then-not-all_legal
returns-then-not-all_legal c = not_legal _ _ _ _ _ (sym c.all_legal.ensures ∙ c.if-not-all_legal.true)

pub overflow_mul-blend_count : goal.overflow_mul-blend_count
overflow_mul-blend_count c = omega (arith, c.blend_count.ensures.most (legal_few c.args.s (sym c.all_legal.ensures ∙ c.if-not-all_legal.false)))

pub returns-then-totals-blend_count : goal.returns-then-totals-blend_count
returns-then-totals-blend_count c = not_long _ _ _ _ _ (sym c.all_legal.ensures ∙ c.if-not-all_legal.false) (rw c.blend_count.ensures.is at c.if-totals-blend_count.true)

pub returns-in_err-start_refusal : goal.returns-in_err-start_refusal
returns-in_err-start_refusal c =
    let same : answer_number c.from_residual.result ≡ number_of c.in_err-start_refusal.field-0.0 = search rules in
    then_start _ _ _ _ _ (sym c.all_legal.ensures ∙ c.if-not-all_legal.false) (rw c.blend_count.ensures.is at c.if-totals-blend_count.false) _
    (same ∙ (rw c.joint_of.ensures at c.in_err-start_refusal.ensures.number))

pub returns : goal.returns
returns c =
    then_start _ _ _ _ _ (sym c.all_legal.ensures ∙ c.if-not-all_legal.false) (rw c.blend_count.ensures.is at c.if-totals-blend_count.false) _
    (rw c.joint_of.ensures at c.in_ok-start_refusal.ensures.number)
