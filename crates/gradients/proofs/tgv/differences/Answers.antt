-- Kept: the check finds none of these alone (scripts/answers tries each).
use borrow.Author.Rules.{rules}
use native.Mathlib.Omega.{arith}
use Rattle.fold.proofs.Loops.{upto-call, upto-end}
use Rattle.fold.specs.Fold.{upto}
use Rattle.gradients.specs.Tgv.{tgv_differences, tgv_differences_at}
use Rattle.gradients.proofs.tgv.differences.Goals as goal

pub loop-c-init : goal.loop-c-init
unfolding upto
loop-c-init c = search rules

-- a held channel's are left
pub loop-c-preserved-then-held-c : goal.loop-c-preserved-then-held-c
loop-c-preserved-then-held-c c = (search rules, upto-call _ _ _ c.before.before.loop-c.invariant.1 (rw c.if-held-c.true))

pub loop-c-preserved : goal.loop-c-preserved
unfolding tgv_differences_at
loop-c-preserved c = (
  search rules,
  upto-call _ _ _ c.loop-c.invariant.1
      (rw (c.if-held-c.false, c.midpoint-g_xy_sym.ensures.is, c.difference-g_xx.ensures, c.difference-g_yx.ensures, c.difference-g_yy.ensures, c.difference-g_xy.ensures, c.saturating_sub-left.ensures, c.saturating_sub-above.ensures)),
)

pub returns : goal.returns
unfolding tgv_differences
returns c = upto-end _ _ _ _ c.before.loop-c.invariant.1 (omega arith)
