-- Kept: the check finds none of these alone (scripts/answers tries each).
use mathlib.Core.Path.{◌≡◌, ap, ◌∙◌, sym}
use Prim.Native.Nat.{ℕ, ◌+◌, ◌*◌, ◌/◌, ◌%◌, ◌<◌}
use native.Mathlib.Nat.{mod-lt}
use native.Mathlib.Omega.{arith}
use Rattle.start.specs.Coef.{held_unit, stripe_unit}
use Rattle.start.proofs.Units.{held_ends, stripe_last, stripe_turned, stripe_before}
use Rattle.start.proofs.coef.ScalarCoef.held_unit.Goals.{then-m-w, else-m-w}
use Rattle.start.proofs.coef.ScalarCoef.held_unit.Goals as goal

pub returns-clause-ends : goal.returns-clause-ends
returns-clause-ends c =
    let w = c.args.self.now.own.width in
    let p = c.args.power in
    let m = c.args.u % w in
    let less : m < w = mod-lt c.args.u (omega (arith, c.requires.reduced)) in
    let unit : c.if-m-w.unit ≡ stripe_unit w p m =
    elim c.if-m-w.branch [
      | then-m-w t ↦ t.unit-is ∙ sym (stripe_last w p m t.if-m-w.true)
      | else-m-w t ↦ t.unit-is ∙ sym (stripe_turned w p m (stripe_before w m less t.if-m-w.false))
    ] in
    let at : c.args.u / w * w + c.if-m-w.unit ≡ held_unit w p c.args.u = ap (λ (x : ℕ). c.args.u / w * w + x) unit in
    rw at (held_ends w c.args.self.now.own.height p c.args.u c.args.self.now.eights.1 c.requires.within)
