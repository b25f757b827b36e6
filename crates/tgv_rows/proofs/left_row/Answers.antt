-- Kept: the check finds none of these alone (scripts/answers tries each).
use Rattle.std.proofs.Common.{◌∙◌, ℕ, ◌+◌, ◌-◌, ap, arith, rules, set}
use Rattle.fold.specs.Fold.{upto}
use Rattle.float.specs.Names.{◌⊖◌, f0, val}
use Rattle.rows.proofs.Lent.{store_whole, one_stored, diff_parts}
use Rattle.rows.specs.Rows.{store_from}
use Rattle.tgv_rows.proofs.Stored.{left_row_is}
use Rattle.tgv_rows.proofs.left_row.Goals as goal

pub returns : goal.returns
returns c =
    let a = c.args in
    let r = c.row_at-at.result in
    let f = c.row_at-at.ensures.1 in
    let v = λ (j : ℕ). val a.xs.now (r + 1 + j) ⊖ val a.xs.now (r + j) in
    store_whole _ v (set a.out.now 0 f0) _ 1 a.g.w (a.g.w - 1) (search rules) (search rules) (search rules) c.differ.ensures
    (λ j l. diff_parts a.xs.now (r + 1) (r + a.g.w) r (r + (a.g.w - 1)) (a.g.w - 1) (omega arith) (omega arith) (search rules) (search rules) j l)
    ∙ ap (upto (store_from 1 v) (a.g.w - 1)) (one_stored a.out.now 0)
    ∙ left_row_is a.g.w a.g.h a.xs.now a.y a.c r a.out.now 0 (search rules) c.row_at-at.ensures.0
