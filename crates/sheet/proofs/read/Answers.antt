-- Kept: the check finds none of these alone (scripts/answers tries each).
-- `sheet::read` meets its contract.
use Rattle.std.proofs.Common.{sym, ◌∙◌, ap, ◌≡◌}
use Rattle.contents.specs.Sheets.{lent}
use Rattle.sheet.specs.Walk.{said, walked_of}
use Rattle.sheet.specs.Reading.{read_text}
use Rattle.sheet.specs.Reading.Outcome.{Gives}
use Rattle.sheet.proofs.ReadLaws.{read_sheet}
use Rattle.sheet.proofs.read.Goals as goal

pub returns : goal.returns
returns c =
    let w = c.in_ok-counted.counted in
    let v = c.in_ok-walked.walked in
    let new = c.walk.new in
    let text = read_text c.args.limits c.args.text.now in
    let q : Gives w ≡ walked_of text = sym (ap said c.in_ok-counted.was) ∙ c.count.ensures.answer in
    let r : Gives v ≡ walked_of text = sym (ap said c.in_ok-walked.was) ∙ c.walk.ensures.answer in
    let p =
    read_sheet c.args.who (lent c.args.lows.now c.args.highs.now c.args.tables.now) w c.if-counted-lows.false c.if-counted-highs.false c.if-counted-tables.false
    text (lent new.lows new.highs new.tables) new.bits v q r c.walk.ensures.stored c.walk.ensures.mapped in
    record { answer = p.0; lent = rw (c.show.ensures, c.show-2.ensures) p.1 }
