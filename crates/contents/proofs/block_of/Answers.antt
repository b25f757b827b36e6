-- Kept: the check finds none of these alone (scripts/answers tries each).
-- `contents::block_of` meets its contract.
use Rattle.std.proofs.Common.{rules}
use Rattle.contents.specs.Marks.{block_of}
use Rattle.contents.proofs.block_of.Goals as goal

pub returns : goal.returns
unfolding block_of
returns c = search rules
