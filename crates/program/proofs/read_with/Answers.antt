-- Kept: the check finds none of these alone (scripts/answers tries each).
-- `program::read_with` meets its contract: the sheet that is read is legal, and no text whose lengths were measured is refused.
use Rattle.contents.specs.Sheets.{lent}
use Rattle.program.proofs.Printing.{sheet_legal, sheet-text, not_refused}
use Rattle.program.proofs.read_with.Goals as goal

pub solved-requires : goal.solved-requires
solved-requires c =
    let a = c.args in
    let p = c.requires in
    let o = c.read in
    (sheet_legal a.text.now (lent a.lows.now a.highs.now a.tables.now) _ o.result p.0 p.1 o.ensures _ c.in-Ok.is, p.2)

pub returns-in-Ok : goal.returns-in-Ok
returns-in-Ok c =
    let a = c.args in
    let o = c.read in
    sheet-text a.text.now (lent a.lows.now a.highs.now a.tables.now) _ o.result c.requires.0 c.requires.1 o.ensures _ c.in-Ok.is a.to.now _ c.solved.ensures

pub unwrap-requires : goal.unwrap-requires
unwrap-requires c =
    let a = c.args in
    let o = c.read in
    absurd (not_refused a.text.now (lent a.lows.now a.highs.now a.tables.now) _ o.result c.requires.0 c.requires.1 o.ensures _ c.in-Err.is)

pub returns-in-Err : goal.returns-in-Err
returns-in-Err c =
    let a = c.args in
    let o = c.read in
    absurd (not_refused a.text.now (lent a.lows.now a.highs.now a.tables.now) _ o.result c.requires.0 c.requires.1 o.ensures _ c.in-Err.is)
