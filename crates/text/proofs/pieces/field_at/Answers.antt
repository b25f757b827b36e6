-- Kept: the check finds none of these alone (scripts/answers tries each).
use Rattle.std.proofs.Common.{arith, sym, ap, ◌+◌, ◌∙◌, ◌≡◌, length}
use Rattle.text.specs.Pieces.{split, before}
use Rattle.text.proofs.PieceLaws.{before_le, rest_whole, left_none, left_next, left_first}
use Rattle.text.proofs.pieces.field_at.Goals as goal

pub returns-then-n-rest : goal.returns-then-n-rest
returns-then-n-rest c =
    left_none c.args.row.now c.loop.rest.now c.loop.counter c.loop.invariant c.args.i c.loop-test.true (ap length (sym c.first_field-n.ensures) ∙ c.if-n-rest.true)

pub loop-preserved : goal.loop-preserved
loop-preserved c =
    let l = c.loop.rest.now in
    rw c.first_field-n.ensures
    (ap (split 9) (rest_whole (length (before 9 l) + 1) l)
    ∙ left_next c.args.row.now l c.loop.counter c.loop.invariant (λ n. c.if-n-rest.false (ap length c.first_field-n.ensures ∙ n)))

pub returns : goal.returns
returns c =
    let e : c.loop.counter ≡ c.args.i = omega arith in
    c.first_field.ensures ∙ rw e at (left_first c.args.row.now c.loop.rest.now c.loop.counter c.loop.invariant)

pub slice_bounds-rest-count : goal.slice_bounds-rest-count
slice_bounds-rest-count c = omega (arith, ap length c.first_field-n.ensures, before_le 9 c.loop.rest.now, c.if-n-rest.false)

pub slice_bounds-rest-start : goal.slice_bounds-rest-start
slice_bounds-rest-start c = omega (arith, ap length c.first_field-n.ensures, before_le 9 c.loop.rest.now, c.if-n-rest.false)
