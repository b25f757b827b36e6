use Rattle.std.proofs.Common.{◌≡◌, refl, ℕ, ◌*◌, ◌+◌, ◌/◌, ◌≤◌, arith, length, ap, ◌∙◌}
use Rattle.fold.specs.Fold.{upto}
use Rattle.rows.specs.Rows.{hit_in}
use Rattle.rows.proofs.Eights.{grown}
use Rattle.rows.proofs.put.Goals as goal

pub loop-k-init : goal.loop-k-init
unfolding upto
loop-k-init c = refl

pub loop-k-preserved : goal.loop-k-preserved
loop-k-preserved c =
    let a = c.args in
    let k = c.loop-k.k in
    let long = c.loop-k.auto.gradient in
    let test = c.loop-k-test.true in
    let e : k * 8 + 8 ≤ length a.gradient.now = omega arith in
    let next : k * 8 + 8 ≡ (k + 1) * 8 = omega arith in
    grown a.alpha a.norm.now a.q.now a.gradient.now c.loop-k.gradient _ (k * 8) (k * 8 + 8) (omega arith) (omega (arith, long)) (omega (arith, c.requires.0)) (omega (arith, c.requires.1)) c.loop-k.invariant c.put_eight.ensures
    ∙ ap (λ (z : ℕ). upto (hit_in a.alpha a.norm.now a.q.now) z a.gradient.now) next

pub returns : goal.returns
returns c =
    let a = c.args in
    let k = c.loop-k.k in
    let long = c.loop-k.auto.gradient in
    let test = c.loop-k-test.false in
    let end = c.loop-k.auto.k-end in
    let n = length a.gradient.now in
    let at : k * 8 ≡ n / 8 * 8 = omega arith in
    grown a.alpha a.norm.now a.q.now a.gradient.now c.loop-k.gradient _ (n / 8 * 8) (length c.loop-k.gradient) (omega (arith, long)) (omega arith) (omega (arith, long, c.requires.0)) (omega (arith, long, c.requires.1))
    (c.loop-k.invariant ∙ ap (λ (z : ℕ). upto (hit_in a.alpha a.norm.now a.q.now) z a.gradient.now) at) c.put_each.ensures
    ∙ ap (λ (z : ℕ). upto (hit_in a.alpha a.norm.now a.q.now) z a.gradient.now) long
