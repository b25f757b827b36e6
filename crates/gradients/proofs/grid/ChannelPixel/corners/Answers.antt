-- Kept: the check finds none of these alone (scripts/answers tries each).
use Rattle.std.proofs.Common.{◌≡◌, ◌∙◌, ◌-◌, ◌+◌, ◌||◌, refl}
use Rattle.std.specs.Float.Ieee.{neg}
use borrow.Author.Tests.{lt-leb, le-leb, eq-eqb, ne_eqb}
use Rattle.gradients.proofs.Edges.{changed, unchanged, at_neither, at_one, at_other}
use Rattle.gradients.specs.Tgv.{tgv_corners, left_edge, top_edge}
use Rattle.gradients.specs.Tv.{px_idx, bump_unless, right_edge, bottom_edge}
use Rattle.gradients.proofs.grid.ChannelPixel.corners.Goals as goal
use Rattle.gradients.proofs.grid.ChannelPixel.corners.Goals.{Joined-p, then-p+then-p-ne0, else-p, else-p-via-then-p+else-p-ne0, else-p-via-else-p, else-p-ne0-2-via-then-p-ne0-2+else-p-2, else-p-ne0-2-via-else-p-ne0-2}

above_right : (c : Joined-p) → let a = c.args in let p = a.self.p in
    c.if-p.gradient ≡ bump_unless (right_edge p.g.w p.x || top_edge p.y) p.alpha (neg a.d.g_xy_sym) p.norm (px_idx p.g.w p.g.h a.self.c (p.y - 1) (p.x + 1)) a.gradient.now
above_right c =
    let p = c.args.self.p in
    elim c.if-p.branch [
      | then-p+then-p-ne0 w ↦ changed _ _ _ _ _ _ (at_neither _ _ (lt-leb (p.g.w - 1) p.x w.if-p.true) (ne_eqb p.y 0 w.if-p-ne0.true)) (w.gradient-is ∙ w.bump.ensures)
      | else-p w ↦ unchanged _ _ _ _ _ _ (elim w.else-p.branch [ else-p-via-then-p+else-p-ne0 v ↦ at_other (right_edge p.g.w p.x) _ (eq-eqb p.y 0 v.if-p-ne0.false) | else-p-via-else-p v ↦ at_one _ (top_edge p.y) (le-leb (p.g.w - 1) p.x v.if-p.false) ]) w.gradient-is
    ]

pub returns-then-p-2 : goal.returns-then-p-2
unfolding tgv_corners
returns-then-p-2 c = let p = c.args.self.p in rw (← above_right c.before.before.before.before.before.before.before.before.before.before.before.before) (changed _ _ _ _ _ _ (at_neither _ _ (ne_eqb p.x 0 c.if-p-ne0-2.true) (lt-leb (p.g.h - 1) p.y c.if-p-2.true)) c.bump-then-p-2.ensures)

pub returns-else-p-ne0-2 : goal.returns-else-p-ne0-2
unfolding tgv_corners
returns-else-p-ne0-2 c =
    let p = c.args.self.p in
    rw (← above_right c.before.before) (unchanged _ _ _ _ _ _ (elim c.else-p-ne0-2.branch [ else-p-ne0-2-via-then-p-ne0-2+else-p-2 v ↦ at_other (left_edge p.x) _ (le-leb (p.g.h - 1) p.y v.if-p-2.false) | else-p-ne0-2-via-else-p-ne0-2 v ↦ at_one _ (bottom_edge p.g.h p.y) (eq-eqb p.x 0 v.if-p-ne0-2.false) ]) refl)
