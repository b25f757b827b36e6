use Rattle.std.proofs.Common.{sym, ◌∙◌}
use Rattle.archive.proofs.RoundTrip.{restored_undone}
use Rattle.archive.proofs.restore.Goals as goal

pub returns-clause-undone : goal.returns-clause-undone
returns-clause-undone c =
    restored_undone _ _ _ (sym c.fitting.ensures ∙ c.if-not-fitting.false) (sym c.restored_ok.ensures ∙ c.if-not-restored_ok.false) c.restore_all.ensures
