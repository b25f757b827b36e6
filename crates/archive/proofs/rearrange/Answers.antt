use Rattle.std.proofs.Common.{sym, ◌∙◌}
use Rattle.archive.proofs.RoundTrip.{rearranged_undone}
use Rattle.archive.proofs.rearrange.Goals as goal

pub returns-clause-undone : goal.returns-clause-undone
returns-clause-undone c =
    rearranged_undone _ _ _ (sym c.fitting.ensures ∙ c.if-not-fitting.false) (sym c.levels_ok.ensures ∙ c.if-not-levels_ok.false) c.rearrange_all.ensures
