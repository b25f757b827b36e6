use Rattle.calls.proofs.Held.{stays_held, at_its_start, none_held}
use Rattle.calls.proofs.held_channels_law.Goals as goal

pub returns-clause-stays : goal.returns-clause-stays
returns-clause-stays c = stays_held

pub returns-clause-at_start : goal.returns-clause-at_start
returns-clause-at_start c = at_its_start

pub returns-clause-none_held : goal.returns-clause-none_held
returns-clause-none_held c = none_held
