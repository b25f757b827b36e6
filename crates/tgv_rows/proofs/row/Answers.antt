-- Kept: the check finds none of these alone (scripts/answers tries each).
use Rattle.std.proofs.Common.{◌≡◌, ℕ, ap, rules, length}
use Rattle.fold.specs.Fold.{upto}
use Rattle.float.specs.Names.{val}
use Rattle.tgv_rows.specs.TgvRows.{tgv_totals}
use mathlib.Core.Path.{◌∙◌}
use Rattle.tgv_rows.specs.TgvRows.{xx_of, xy_of, yy_of}
use Rattle.tgv_rows.proofs.TgvRow.{stood, tgv_row, tgv-total}
use Rattle.tgv_rows.proofs.row.Goals as goal

pub returns : goal.returns
returns c =
    let a = c.args in
    let p = c.requires in
    let d = c.second_rows.ensures in
    let hx = stood a.g.w a.g.n (xx_of a.g.w a.g.h a.across.now a.y) a.xx.now _ p.3 d.0 in
    let hm = stood a.g.w a.g.n (xy_of a.g.w a.g.h a.across.now a.down.now a.y) a.xy.now _ p.4 d.1 in
    let hy = stood a.g.w a.g.n (yy_of a.g.w a.g.h a.down.now a.y) a.yy.now _ p.5 d.2 in
    let w : length c.norm_row.new.norm ≡ a.g.w = search rules in
    let norms = c.norm_row.ensures in (
      c.spread_rows.ensures
          ∙ tgv_row a.g.w a.g.h a.g.n a.alpha a.across.now a.down.now a.y p.1 p.0 _ _ _ _ a.gradient.now hx hm hy norms,
      c.total_row.ensures ∙ ap (λ (k : ℕ). upto (tgv_totals a.alpha (λ x. val c.norm_row.new.norm x)) k a.tv2) w
          ∙ tgv-total a.g.w a.g.h a.g.n a.alpha a.across.now a.down.now a.y p.1 p.0 _ _ _ _ a.gradient.now hx hm hy norms a.tv2,
    )
