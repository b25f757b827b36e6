-- Kept: the check finds none of these alone (scripts/answers tries each).
use Rattle.std.proofs.Common.{◌∙◌, ap, arith, rules}
use Rattle.answers.specs.Lists.{listed}
use Rattle.zigzag.proofs.Each.{each_is, each_more}
use Rattle.zigzag.proofs.put_each.Goals as goal

pub loop-k-preserved : goal.loop-k-preserved
loop-k-preserved g c =
    let l = c.loop-k in (
      search rules,
      l.invariant.1,
      λ f p. each_more f l.out l.k c.value.result (search rules) (p l.k _ (search rules) c.value.ensures) (l.invariant.2 f p),
    )

pub returns : goal.returns
returns g c =
    let l = c.loop-k in
    λ f p. each_is f l.out (λ k d h. l.invariant.2 f p k d (omega (arith, h, l.invariant.0, c.loop-k-test.false))) ∙ ap (listed f) l.invariant.0
