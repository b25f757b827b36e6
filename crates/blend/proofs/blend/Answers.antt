-- Kept: the check finds none of these alone (scripts/answers tries each).
use mathlib.Core.Path.{◌≡◌, ◌∙◌, sym, ap, fun_ext}
use mathlib.Core.Bool.{Bool}
use Prim.Native.Nat.{ℕ}
use Rattle.gradients.specs.Held.{flag}
use Rattle.gradients.specs.Blend.{blended, totals}
use Rattle.rows.specs.Rows.{none}
use Rattle.blend.proofs.Held.{no_flag}
use Rattle.blend.proofs.blend.Goals as goal

-- no flag is set, so what holds where no channel is held holds of these flags
pub returns-then-g-le512 : goal.returns-then-g-le512
returns-then-g-le512 c =
    let a = c.args in
    let by = c.by_rows.ensures in
    let same : none ≡ flag a.g.held = sym (fun_ext (no_flag a.g.held c.if-eq.ensures)) in (
      by.0 ∙ ap (λ (held : ℕ → Bool). blended a.g.w a.g.h a.g.n held a.k.second a.plane.now (record { gradient = a.gradient.now; across = a.across.now; down = a.down.now })) same,
      by.1 ∙ ap (λ (held : ℕ → Bool). totals a.g.w a.g.h a.g.n held a.k.second a.plane.now (record { gradient = a.gradient.now; across = a.across.now; down = a.down.now })) same,
    )
