-- Kept: the check finds none of these alone (scripts/answers tries each).
use Rattle.std.proofs.Common.{◌∙◌, ◌+◌, ◌-◌, ap, arith, rules, List, set}
use lib.Ieee.{Float}
use Rattle.float.specs.Names.{◌⊖◌, f0, val}
use Rattle.rows.proofs.Lent.{store_whole, one_stored, diff_parts}
use Rattle.tv_rows.proofs.Stored.{across_is}
use Rattle.tv_rows.proofs.across_row.Goals as goal

pub returns : goal.returns
returns c =
    let a = c.args in
    let r = c.row_at-at.result in
    let f = c.row_at-at.ensures.1 in
    let last = r + (a.g.w - 1) in
    ap (λ (t : List Float). set t last f0)
    (store_whole _ (λ j. val a.plane.now (r + 1 + j) ⊖ val a.plane.now (r + j)) a.across.now _ r last (a.g.w - 1) (search rules) (search rules) (search rules) c.differ.ensures
    (λ j l. diff_parts a.plane.now (r + 1) (last + 1) r last (a.g.w - 1) (omega arith) (omega arith) (search rules) (search rules) j l))
    ∙ one_stored _ last ∙ across_is a.g.w a.g.h a.plane.now a.y a.c r a.across.now (search rules) c.row_at-at.ensures.0
