-- Kept: the check finds none of these alone (scripts/answers tries each).
use Rattle.std.proofs.Common.{◌≡◌, ◌∙◌, ◌-◌, ◌+◌, refl}
use borrow.Author.Tests.{lt-leb, le-leb}
use Rattle.gradients.proofs.Edges.{changed, unchanged}
use Rattle.gradients.specs.Tv.{px_idx, bump_unless, right_edge, tv_channel_derivatives}
use Rattle.gradients.proofs.tv.channel_derivatives.Goals as goal
use Rattle.gradients.proofs.tv.channel_derivatives.Goals.{Joined-p, then-p, else-p}

right : (c : Joined-p) → let a = c.args in let own = a.own in let p = own.p in
    c.if-p.gradient ≡ bump_unless (right_edge p.g.w p.x) p.alpha a.d.g_x p.norm (px_idx p.g.w p.g.h a.own.c p.y (p.x + 1)) c.bump.new.gradient
right c = let p = c.args.own.p in elim c.if-p.branch [ then-p w ↦ changed _ _ _ _ _ _ (lt-leb (p.g.w - 1) p.x w.if-p.true) (w.gradient-is ∙ w.bump-then-p.ensures) | else-p w ↦ unchanged _ _ _ _ _ _ (le-leb (p.g.w - 1) p.x w.if-p.false) w.gradient-is ]

pub returns-then-p-2 : goal.returns-then-p-2
unfolding tv_channel_derivatives
returns-then-p-2 c = let p = c.args.own.p in rw (← c.bump.ensures, ← right c.before.before.before.before.before.before.before.before.before) (changed _ _ _ _ _ _ (lt-leb (p.g.h - 1) p.y c.if-p-2.true) c.bump-then-p-2.ensures)

pub returns-else-p-2 : goal.returns-else-p-2
unfolding tv_channel_derivatives
returns-else-p-2 c = let p = c.args.own.p in rw (← c.bump.ensures, ← right c.before.before.before) (unchanged _ _ _ _ _ _ (le-leb (p.g.h - 1) p.y c.if-p-2.false) refl)
