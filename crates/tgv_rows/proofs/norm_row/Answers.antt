-- Kept: the check finds none of these alone (scripts/answers tries each).
use Rattle.std.proofs.Common.{◌≡◌, ◌∙◌, ◌*◌, ap, ap₂, arith, rules, List, replicate}
use lib.Ieee.{Float}
use Rattle.fold.specs.Fold.{upto}
use Rattle.fold.proofs.Grid.{row_end}
use Rattle.fold.proofs.Loops.{upto-call}
use Rattle.float.specs.Ops.{mul_add, square}
use Rattle.float.specs.Names.{◌⊕◌, f0, f2, val}
use Rattle.std.proofs.lemmas.List.{get_or-replicate}
use Rattle.rows.proofs.Lent.{in_part}
use Rattle.tgv_rows.proofs.norm_row.Goals as goal

pub loop-c-init : goal.loop-c-init
unfolding upto
loop-c-init c =
    let e : c.fill.new.self ≡ replicate c.args.w f0 = search rules in
    (search rules, search rules, λ x l. ap (λ (t : List Float). val t x) e ∙ get_or-replicate c.args.w x f0 _ l)

pub loop-c-preserved : goal.loop-c-preserved
loop-c-preserved c =
    let a = c.args in let p = c.requires in let s = c.loop-c in let h = c.loop-c-test.true in let b = s.c * a.w in let r = row_end s.c a.n a.w h in (
      search rules,
      search rules,
      λ x l. upto-call _ _ _ (s.invariant.2 x l)
          (c.square_row.ensures x (omega (arith, l))
          ∙ ap₂ (λ (y z : Float). val s.norm x ⊕ mul_add y y z) (in_part a.yy.now b a.w (omega (arith, r)) x l) (ap₂ (λ (y z : Float). mul_add f2 (square y) (square z)) (in_part a.xy.now b a.w (omega (arith, r)) x l) (in_part a.xx.now b a.w (omega (arith, r)) x l))),
    )
