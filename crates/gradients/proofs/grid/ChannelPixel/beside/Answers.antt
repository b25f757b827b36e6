-- Kept: the check finds none of these alone (scripts/answers tries each).
use Rattle.std.proofs.Common.{◌≡◌, ◌∙◌, ◌-◌, refl}
use borrow.Author.Tests.{lt-leb, le-leb, eq-eqb, ne_eqb}
use Rattle.float.specs.Names.{◌⊕◌}
use Rattle.gradients.proofs.Edges.{changed, unchanged}
use Rattle.gradients.specs.Tgv.{tgv_beside, left_edge}
use Rattle.gradients.specs.Tv.{px_idx, bump_unless}
use Rattle.gradients.proofs.grid.ChannelPixel.beside.Goals as goal
use Rattle.gradients.proofs.grid.ChannelPixel.beside.Goals.{Joined-p-ne0, then-p-ne0, else-p-ne0}

left : (c : Joined-p-ne0) → let a = c.args in let p = a.self.p in
    c.if-p-ne0.gradient ≡ bump_unless (left_edge p.x) p.alpha (a.d.g_xy_sym ⊕ a.d.g_xx) p.norm (px_idx p.g.w p.g.h a.self.c p.y (p.x - 1)) c.bump.new.gradient
left c = elim c.if-p-ne0.branch [ then-p-ne0 w ↦ changed _ _ _ _ _ _ (ne_eqb c.args.self.p.x 0 w.if-p-ne0.true) (w.gradient-is ∙ w.bump-then-p-ne0.ensures) | else-p-ne0 w ↦ unchanged _ _ _ _ _ _ (eq-eqb c.args.self.p.x 0 w.if-p-ne0.false) w.gradient-is ]

pub returns-then-p : goal.returns-then-p
unfolding tgv_beside
returns-then-p c = let p = c.args.self.p in rw (← c.middle.ensures, ← c.bump.ensures, ← left c.before.before.before.before.before.before.before.before.before) (changed _ _ _ _ _ _ (lt-leb (p.g.w - 1) p.x c.if-p.true) c.bump-then-p.ensures)

pub returns-else-p : goal.returns-else-p
unfolding tgv_beside
returns-else-p c = let p = c.args.self.p in rw (← c.middle.ensures, ← c.bump.ensures, ← left c.before.before.before) (unchanged _ _ _ _ _ _ (le-leb (p.g.w - 1) p.x c.if-p.false) refl)
