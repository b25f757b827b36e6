-- Kept: the check finds none of these alone (scripts/answers tries each).
use Rattle.std.proofs.Common.{◌≡◌, ◌∙◌, ℕ, ap, rules, length}
use Rattle.fold.specs.Fold.{upto}
use Rattle.float.specs.Names.{val}
use Rattle.tv_rows.specs.TvRows.{tv_totals}
use Rattle.tv_rows.proofs.TvRow.{tv_row, tv-total}
use Rattle.tv_rows.proofs.row.Goals as goal

pub returns : goal.returns
returns c =
    let a = c.args in
    let p = c.requires in
    let d = c.difference_rows.ensures in
    let w : length c.norm_row.new.norm ≡ a.g.w = search rules in
    let norms = rw (d.0, d.1) at c.norm_row.ensures in (
      rw (c.spread_rows.ensures, d.0, d.1)
          (tv_row a.g.w a.g.h a.g.n a.alpha a.plane.now a.y p.1 p.0 (record { gradient = a.gradient.now; across = a.across.now; down = a.down.now }) _ p.7 p.8 norms),
      c.total_row.ensures ∙ ap (λ (k : ℕ). upto (tv_totals a.alpha (λ x. val c.norm_row.new.norm x)) k a.tv) w
          ∙ tv-total a.g.w a.g.h a.g.n a.alpha a.plane.now a.y p.1 p.0 (record { gradient = a.gradient.now; across = a.across.now; down = a.down.now }) _ p.7 p.8 norms a.tv,
    )
