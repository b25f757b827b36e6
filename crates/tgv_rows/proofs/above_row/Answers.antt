-- Kept: the check finds none of these alone (scripts/answers tries each).
use Rattle.std.proofs.Common.{◌≡◌, ◌∙◌, ◌+◌, arith, rules, replicate}
use borrow.Author.Tests.{eq-eqb, ne_eqb}
use Rattle.float.specs.Names.{◌⊖◌, f0, val}
use Rattle.rows.proofs.Lent.{row_stored, zeros_row, diff_parts}
use Rattle.tgv_rows.proofs.Stored.{above_row_none, above_row_is}
use Rattle.tgv_rows.proofs.above_row.Goals as goal

pub returns-then-y-eq0 : goal.returns-then-y-eq0
returns-then-y-eq0 c =
    let a = c.args in
    let e : c.fill.new.self ≡ replicate a.g.w f0 = search rules in
    zeros_row a.out.now _ a.g.w (search rules) e
    ∙ above_row_none a.g.w a.g.h a.xs.now a.y a.c 0 a.out.now 0 (eq-eqb a.y 0 c.if-y-eq0.true)

pub returns : goal.returns
returns c =
    let a = c.args in
    let r = c.row_at-at.result in
    let b = c.row_at-above.result in
    let f = c.row_at-at.ensures.1 in
    let h = c.row_at-above.ensures.1 in
    row_stored _ (λ j. val a.xs.now (r + j) ⊖ val a.xs.now (b + j)) a.out.now _ a.g.w (search rules) c.differ.ensures
    (λ j l. diff_parts a.xs.now r (r + a.g.w) b (b + a.g.w) a.g.w (omega arith) (omega arith) (search rules) (search rules) j l)
    ∙ above_row_is a.g.w a.g.h a.xs.now a.y a.c r a.out.now b 0 (ne_eqb a.y 0 c.if-y-eq0.false) c.row_at-at.ensures.0 c.row_at-above.ensures.0
