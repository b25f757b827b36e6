-- Kept: the check finds none of these alone (scripts/answers tries each).
use Rattle.std.proofs.Common.{◌≡◌, ◌∙◌, ◌-◌, refl}
use borrow.Author.Tests.{lt-leb, le-leb, eq-eqb, ne_eqb}
use Rattle.float.specs.Names.{◌⊕◌}
use Rattle.gradients.proofs.Edges.{changed, unchanged}
use Rattle.gradients.specs.Tgv.{tgv_up_down, top_edge}
use Rattle.gradients.specs.Tv.{px_idx, bump_unless}
use Rattle.gradients.proofs.grid.ChannelPixel.up_down.Goals as goal
use Rattle.gradients.proofs.grid.ChannelPixel.up_down.Goals.{Joined-p-ne0, then-p-ne0, else-p-ne0}

above : (c : Joined-p-ne0) → let a = c.args in let p = a.self.p in
    c.if-p-ne0.gradient ≡ bump_unless (top_edge p.y) p.alpha (a.d.g_yy ⊕ a.d.g_xy_sym) p.norm (px_idx p.g.w p.g.h a.self.c (p.y - 1) p.x) a.gradient.now
above c = elim c.if-p-ne0.branch [ then-p-ne0 w ↦ changed _ _ _ _ _ _ (ne_eqb c.args.self.p.y 0 w.if-p-ne0.true) (w.gradient-is ∙ w.bump.ensures) | else-p-ne0 w ↦ unchanged _ _ _ _ _ _ (eq-eqb c.args.self.p.y 0 w.if-p-ne0.false) w.gradient-is ]

pub returns-then-p : goal.returns-then-p
unfolding tgv_up_down
returns-then-p c = let p = c.args.self.p in rw (← above c.before.before.before.before.before.before.before.before.before) (changed _ _ _ _ _ _ (lt-leb (p.g.h - 1) p.y c.if-p.true) c.bump-then-p.ensures)

pub returns-else-p : goal.returns-else-p
unfolding tgv_up_down
returns-else-p c = let p = c.args.self.p in rw (← above c.before.before.before) (unchanged _ _ _ _ _ _ (le-leb (p.g.h - 1) p.y c.if-p.false) refl)
