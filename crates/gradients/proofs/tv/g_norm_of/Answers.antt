-- Kept: the check finds none of these alone (scripts/answers tries each).
use mathlib.Core.Path.{ap, ◌∙◌}
use native.Mathlib.Omega.{arith}
use Rattle.std.specs.Float.{nan}
use Rattle.float.specs.Ops.{root}
use Rattle.fold.proofs.Loops.{upto_none}
use Rattle.gradients.specs.Tv.{g_norm_of}
use Rattle.gradients.proofs.Turns.{passed, added, ended}
use Rattle.gradients.proofs.tv.g_norm_of.Goals as goal

pub loop-held-init : goal.loop-held-init
loop-held-init c = upto_none _ _

-- a held channel adds nothing
pub loop-held-preserved-then-held : goal.loop-held-preserved-then-held
loop-held-preserved-then-held c =
    let l = c.loop-held in
    passed c.args.n c.args.held c.args.d l.yielded c.into_iter-held-iterator.result l.held-iterator c.next.new.self c.next.result (cc) (cc) l.yielded_by c.next.ensures.steps _ _ l.invariant _ c.in-Some.is c.if-held.true

pub loop-held-preserved : goal.loop-held-preserved
loop-held-preserved c =
    let l = c.loop-held in
    added c.args.n c.args.held c.args.d l.yielded c.into_iter-held-iterator.result l.held-iterator c.next.new.self c.next.result (cc) (cc) l.yielded_by c.next.ensures.steps _ _ l.invariant _ c.in-Some.is c.if-held.false (λ e. rw (← e (record { g_x = nan; g_y = nan }), c.powi2-g_norm.ensures.is, c.powi2-g_norm-in-loop-held.ensures.is))

pub returns : goal.returns
unfolding g_norm_of
returns c =
    let l = c.loop-held in
    c.sqrt.ensures.is
    ∙ ap root (ended c.args.n c.args.held c.args.d l.yielded c.into_iter-held-iterator.result l.held-iterator c.next.new.self c.next.result (cc) (cc) l.yielded_by c.next.ensures.steps _ _ l.invariant (omega (arith, c.requires)) (omega (arith, c.requires)) c.in-None.is)
