use Rattle.std.proofs.Common.{refl, ap, ◌∙◌, sym, ℕ, ◌*◌, ◌+◌, ◌/◌, ◌≤◌, ◌≡◌, length, arith, rules}
use Rattle.fold.specs.Fold.{upto}
use Rattle.fold.proofs.Loops.{upto-call, upto-end}
use Rattle.steps.specs.Step.{move_at}
use Rattle.steps.proofs.Eights.{grown}
use Rattle.steps.proofs.step.descend.Goals as goal

pub loop-k-init : goal.loop-k-init
unfolding upto
loop-k-init c = refl

pub loop-k-preserved : goal.loop-k-preserved
loop-k-preserved c =
    let a = c.args in
    let k = c.loop-k.k in
    let long = c.loop-k.auto.plane in
    let test = c.loop-k-test.true in
    let e : k * 8 + 8 ≤ length a.plane.now = omega arith in
    let next : k * 8 + 8 ≡ (k + 1) * 8 = omega arith in
    grown a.step_size a.norm a.gradient.now a.plane.now c.loop-k.plane _ (k * 8) (omega (arith, long)) (omega (arith, c.requires)) c.loop-k.invariant c.move_eight.ensures
    ∙ ap (λ (z : ℕ). upto (move_at a.step_size a.norm a.gradient.now) z a.plane.now) next

pub loop-i-init : goal.loop-i-init
loop-i-init c =
    let a = c.args in
    let k = c.loop-k.k in
    let test = c.loop-k-test.false in
    let end = c.loop-k.auto.k-end in
    let at : k * 8 ≡ length a.plane.now / 8 * 8 = omega arith in
    c.loop-k.invariant ∙ ap (λ (z : ℕ). upto (move_at a.step_size a.norm a.gradient.now) z a.plane.now) at

pub loop-i-preserved : goal.loop-i-preserved
loop-i-preserved c = upto-call _ _ _ c.loop-i.invariant (search rules)

pub returns : goal.returns
returns c = upto-end _ _ (length c.args.plane.now) _ c.loop-i.invariant (omega arith)
