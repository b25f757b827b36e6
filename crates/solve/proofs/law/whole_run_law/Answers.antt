use Rattle.solve.proofs.Laws.{no_steps_law, one_channel_law, unsaid_is}
use Rattle.solve.proofs.law.whole_run_law.Goals as goal

pub returns-clause-no_steps : goal.returns-clause-no_steps
returns-clause-no_steps c = no_steps_law

pub returns-clause-one_channel : goal.returns-clause-one_channel
returns-clause-one_channel c = one_channel_law

pub returns-clause-no_holds : goal.returns-clause-no_holds
returns-clause-no_holds c = unsaid_is
