-- Kept: the check finds none of these alone (scripts/answers tries each).
-- `lines::channel_rule` meets its contract.
use Rattle.std.proofs.Common.{arith}
use Rattle.lines.proofs.LineLaws.{channel_quantiser}
use Rattle.lines.proofs.channel_rule.Goals as goal

pub returns-in_default-2 : goal.returns-in_default-2
returns-in_default-2 c = channel_quantiser c.args.i (omega arith) c.requires.1
