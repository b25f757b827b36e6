-- Kept: the check finds none of these alone (scripts/answers tries each).
-- `program::answer` meets its contract: a refusal of measuring is the one of reading, and its line has few digits.
use Rattle.output.proofs.Fronts.{said_ok}
use Rattle.program.proofs.Printing.{refusal-text, refusal_fits}
use Rattle.program.proofs.answer.Goals as goal

pub unwrap-requires : goal.unwrap-requires
unwrap-requires c =
    let p = c.requires in
    let o = c.measure in
    said_ok c.write_refusal.ensures.answer (refusal_fits c.args.text.now o.result _ o.ensures c.in-Err.is p.0 _ p.1)

pub returns-in-Err : goal.returns-in-Err
returns-in-Err c =
    let o = c.measure in
    refusal-text c.args.text.now o.result _ o.ensures c.in-Err.is c.args.to.now _ (rw c.unwrap.ensures at c.write_refusal.ensures.writes)
