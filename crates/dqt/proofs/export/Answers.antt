-- Kept: the check finds none of these alone (scripts/answers tries each).
use Rattle.std.proofs.Common.{sym, ap, ◌∙◌}
use Rattle.answers.specs.Tests.{all, table_ok}
use Rattle.dqt.specs.Dqt.{exported}
use Rattle.dqt.proofs.Frames.{exports}
use Rattle.dqt.proofs.RoundTrip.{exported_undone}
use Rattle.dqt.proofs.export.Goals as goal

pub returns-clause-written : goal.returns-clause-written
returns-clause-written c =
    let t = c.in-Some.ensures.cases in
    exports c.args.tables.now c.args.out.now _ t.long c.in-Some-as_mut_array.ensures.cases.long
    (ap (all table_ok) (sym t.same) ∙ sym c.tables_ok.ensures ∙ c.if-not-tables_ok.false)
    (c.export_all.ensures ∙ ap exported t.same)

pub returns-clause-undone : goal.returns-clause-undone
returns-clause-undone c =
    let t = c.in-Some.ensures.cases in
    exported_undone c.args.tables.now _ t.long
    (ap (all table_ok) (sym t.same) ∙ sym c.tables_ok.ensures ∙ c.if-not-tables_ok.false)
    (c.export_all.ensures ∙ ap exported t.same)
