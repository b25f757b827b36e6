-- Kept: the check finds none of these alone (scripts/answers tries each).
-- `archive::stored_at` meets its contract: levels are within their range, so their difference fits. Assumes nothing.
use Rattle.std.proofs.Common.{rules}
use Rattle.archive.specs.Archive.{stored_at}
use Rattle.archive.proofs.Levels.{stored_fits}
use Rattle.archive.proofs.stored_at.Goals as goal

pub returns-then-k-eq0 : goal.returns-then-k-eq0
unfolding stored_at
returns-then-k-eq0 c = search (rules, stored_fits c.args.levels.now c.args.k c.requires.2 c.requires.0, c.before-then-k-eq0.ensures)
