-- Kept: the check finds none of these alone (scripts/answers tries each).
use Rattle.std.proofs.Common.{◌≡◌, ◌∙◌, ◌+◌, ◌-◌, arith, rules, replicate}
use borrow.Author.Tests.{le-leb, lt-leb}
use Rattle.float.specs.Names.{◌⊖◌, f0, val}
use Rattle.rows.proofs.Lent.{store_whole, zeros_whole, diff_parts}
use Rattle.tv_rows.proofs.Stored.{down_none, down_is}
use Rattle.tv_rows.proofs.down_row.Goals as goal

pub returns-then-y-h : goal.returns-then-y-h
returns-then-y-h c =
    let a = c.args in
    let r = c.row_at-at.result in
    let f = c.row_at-at.ensures.1 in
    let e : c.fill.new.self ≡ replicate a.g.w f0 = search rules in
    zeros_whole a.down.now _ r (r + a.g.w) a.g.w (search rules) (search rules) (search rules) e
    ∙ down_none a.g.w a.g.h a.plane.now a.y a.c _ a.down.now (le-leb (a.g.h - 1) a.y c.if-y-h.true) c.row_at-at.ensures.0

pub returns : goal.returns
returns c =
    let a = c.args in
    let r = c.row_at-at.result in
    let b = c.row_at-below.result in
    let f = c.row_at-at.ensures.1 in
    let h = c.row_at-below.ensures.1 in
    store_whole _ (λ j. val a.plane.now (b + j) ⊖ val a.plane.now (r + j)) a.down.now _ r (r + a.g.w) a.g.w (search rules) (search rules) (search rules) c.differ.ensures
    (λ j l. diff_parts a.plane.now b (b + a.g.w) r (r + a.g.w) a.g.w (omega arith) (omega arith) (search rules) (search rules) j l)
    ∙ down_is a.g.w a.g.h a.plane.now a.y a.c _ a.down.now _ (lt-leb (a.g.h - 1) a.y c.if-y-h.false) c.row_at-at.ensures.0 c.row_at-below.ensures.0
