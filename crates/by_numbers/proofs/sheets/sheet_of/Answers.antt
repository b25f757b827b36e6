-- Kept: the check finds none of these alone (scripts/answers tries each).
-- `sheet_of`: the header and each channel from its place.
use Rattle.by_numbers.specs.Whole.{sheet_of_numbers}
use Rattle.by_numbers.proofs.sheets.sheet_of.Goals as goal

pub returns : goal.returns
unfolding sheet_of_numbers
returns c = rw (c.settings_from.ensures, c.header_from.ensures, c.channel_from-first.ensures, c.channel_from-second.ensures, c.channel_from-third.ensures)
