-- Kept: the check finds none of these alone (scripts/answers tries each).
use Rattle.std.proofs.Common.{◌∙◌, ℕ, ◌<◌, ap, ap₂, rules}
use lib.Ieee.{Float}
use Rattle.float.specs.Names.{◌⊕◌, ◌⊘◌, val}
use Rattle.std.specs.Float.Ieee.{neg}
use Rattle.rows.proofs.Lent.{in_part}
use Rattle.tv_rows.proofs.TvRow.{kinds_by}
use Rattle.tv_rows.proofs.channel_row.Goals as goal

pub returns : goal.returns
returns c =
    let a = c.args in
    let r = c.row_at-at.result in
    let f = c.row_at-at.ensures.1 in
    let X : (x : ℕ) → x < a.row.now.g.w → _ = λ x l. in_part a.row.now.across.now r a.row.now.g.w (search rules) x l in
    let Y : (x : ℕ) → x < a.row.now.g.w → _ = λ x l. in_part a.row.now.down.now r a.row.now.g.w (search rules) x l in
    kinds_by a.row.now.g.w a.row.now.g.h a.row.now.alpha a.row.now.norm.now a.row.now.across.now a.row.now.down.now a.row.now.y a.c r _ _ _ a.gradient.now _ _ _ c.row_at-at.ensures.0
    (λ x l. c.quotients.ensures x (search (rules, l)) ∙ ap (λ (z : Float). z ⊘ val a.row.now.norm.now x) (X x l))
    (λ x l. c.own_quotients.ensures x (search (rules, l)) ∙ ap₂ (λ (y z : Float). neg (y ⊕ z) ⊘ val a.row.now.norm.now x) (X x l) (Y x l))
    (λ x l. c.quotients-2.ensures x (search (rules, l)) ∙ ap (λ (z : Float). z ⊘ val a.row.now.norm.now x) (Y x l))
    c.right.ensures c.own.ensures c.below.ensures
