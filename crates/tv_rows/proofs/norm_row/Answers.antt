-- Kept: the check finds none of these alone (scripts/answers tries each).
use Rattle.std.proofs.Common.{◌≡◌, ◌∙◌, ap, ap₂, rules, List, replicate}
use lib.Ieee.{Float}
use Rattle.fold.specs.Fold.{upto}
use Rattle.float.specs.Ops.{square}
use Rattle.float.specs.Names.{◌⊕◌, f0, val}
use Rattle.std.proofs.lemmas.List.{get_or-replicate}
use Rattle.fold.proofs.Loops.{upto-call}
use Rattle.rows.proofs.Lent.{in_part}
use Rattle.rows.proofs.RowLaws.{at_px}
use Rattle.tv_rows.proofs.norm_row.Goals as goal

pub loop-c-init : goal.loop-c-init
unfolding upto
loop-c-init c =
    let e : c.fill.new.self ≡ replicate c.args.g.w f0 = search rules in
    (search rules, search rules, λ x l. ap (λ (t : List Float). val t x) e ∙ get_or-replicate c.args.g.w x f0 _ l)

pub loop-c-preserved : goal.loop-c-preserved
loop-c-preserved c =
    let a = c.args in
    let s = c.loop-c in
    let r = c.row_at-at.result in
    let f = c.row_at-at.ensures.1 in (
      search rules,
      search rules,
      λ x l. upto-call _ _ _ (s.invariant.2 x l)
          (c.square_row.ensures x (search (rules, l))
          ∙ ap₂ (λ (y z : Float). val s.norm x ⊕ square y ⊕ square z)
          (in_part a.across.now r a.g.w (search rules) x l ∙ ap (val a.across.now) (at_px a.g.w a.g.h s.c a.y _ x c.row_at-at.ensures.0))
          (in_part a.down.now r a.g.w (search rules) x l ∙ ap (val a.down.now) (at_px a.g.w a.g.h s.c a.y _ x c.row_at-at.ensures.0))),
    )
